use Rattle.syntax.proofs.Notes.{reads_some}
use Rattle.syntax.proofs.limits.first_repeated.Goals as goal

pub later-requires : goal.later-requires
later-requires c =
    let v = c.loop-note.invariant c.requires.0 c.requires.1 in
    let f = reads_some v.0 _ (c.in-Some.ensures v.0 v.1) in
    (f.1, f.3.rest)
