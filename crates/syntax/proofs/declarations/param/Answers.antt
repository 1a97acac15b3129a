use Rattle.std.proofs.Common.{arith}
use Rattle.syntax.specs.Reader.{readers}
use Rattle.syntax.proofs.Gives.{then_is}
use Rattle.syntax.proofs.TermReadings.{bind_is, bound_parts}
use Rattle.syntax.proofs.DeclReadings.{param_by}
use Rattle.syntax.proofs.declarations.param.Goals as goal

pub returns : goal.returns
returns c =
    let w = c.in_ok-word.ensures in
    let e = c.in_ok-rest.ensures in
    param_by c.in_ok-word.word.name.now _ _ _ _ _ _ c.bound.result (λ n. then_is _ _ w.reads (bind_is _ _ e.0 (bound_parts (readers n) _ _))) (omega (arith, w.fewer, e.1.fewer)) (omega (arith, w.shorter, e.1.shorter)) c.bound.ensures
