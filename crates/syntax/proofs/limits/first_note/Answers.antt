use Rattle.syntax.proofs.Notes.{note_room}
use Rattle.syntax.proofs.limits.first_note.Goals as goal

pub split_at-requires : goal.split_at-requires
split_at-requires c = note_room _ _ _ _ _ c.requires.0 c.requires.1 c.in_ok-left.ensures.cases.0 c.in_ok-len.ensures.cases.0
