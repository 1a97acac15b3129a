use Rattle.std.proofs.Common.{arith, lit≤}
use Rattle.terms.proofs.Examples.{far, far_small}
use Rattle.terms.proofs.tests.says_no_room.Goals as goal

pub copy_term-requires : goal.copy_term-requires
copy_term-requires c k = record { stands = far; order = lit≤ tt }

pub lift-requires : goal.lift-requires
lift-requires c k = record { stands = far_small; order = omega arith; shallow = lit≤ tt }
