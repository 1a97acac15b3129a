use Rattle.std.proofs.Common.{lit≤}
use Rattle.terms.proofs.Examples.{far_small}
use Rattle.terms.proofs.tests.lifts.Goals as goal

pub lift-requires : goal.lift-requires
lift-requires c k = record { stands = far_small; order = lit≤ tt; shallow = lit≤ tt }
