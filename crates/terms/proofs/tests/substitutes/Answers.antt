use Rattle.std.proofs.Common.{lit≤}
use Rattle.terms.proofs.Examples.{near, near_small}
use Rattle.terms.proofs.tests.substitutes.Goals as goal

pub subst-requires : goal.subst-requires
subst-requires c k = record { stands = near; argument = near_small; order = lit≤ tt; shallow = lit≤ tt }
