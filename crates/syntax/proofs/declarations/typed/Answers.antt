use Rattle.std.proofs.Common.{arith}
use Rattle.syntax.proofs.Following.{follows_by}
use Rattle.syntax.proofs.TermReadings.{bind_is, term_at}
use Rattle.syntax.proofs.declarations.typed.Goals as goal

pub returns : goal.returns
returns c =
    let e = c.in_ok-rest.ensures in
    follows_by _ _ _ _ _ _ _ _ _ _ _ c.term.result (λ n h. bind_is _ _ e.0 (term_at n _)) (omega (arith, e.1.fewer)) (omega (arith, e.1.shorter)) c.term.ensures
