use Rattle.std.proofs.Common.{refl, ap}
use Rattle.terms.specs.Words.{sign_words}
use Rattle.terms.proofs.Lifting.{writes_as}
use Rattle.terms.proofs.lift.LiftingRule.put.Goals as goal

pub returns : goal.returns
returns c u h = writes_as _ _ _ _ _ _ _ _ refl (ap sign_words c.lifted.ensures) (c.put_sign.ensures _)
