use Rattle.std.proofs.Common.{refl}
use Rattle.theory.specs.Environment.{assumed}
use Rattle.reduction.proofs.declare.enter_axiom.Goals as goal

pub returns : goal.returns
returns c a = c.enter.ensures (assumed a) _ refl
