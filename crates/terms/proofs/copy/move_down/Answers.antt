use Rattle.terms.proofs.Moving.{words_moved}
use Rattle.terms.proofs.copy.move_down.Goals as goal

pub returns : goal.returns
returns c = rw c.copy_within.ensures.after (words_moved _ _ _ _ c.requires.order c.requires.within c.requires.down)
