use Rattle.std.proofs.Common.{arith}
use Rattle.terms.proofs.Moving.{part_written}
use Rattle.terms.proofs.sign.push_three.Goals as goal

pub returns : goal.returns
returns c = rw c.copy_from_slice.ensures.after (part_written _ _ _ _ _ (omega arith) (omega arith))
