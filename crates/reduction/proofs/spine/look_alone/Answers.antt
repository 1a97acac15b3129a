use Rattle.std.proofs.Common.{sym, ◌∙◌, inl, inr, ⊎_elim}
use Rattle.reduction.proofs.Reading.{from_pi, from_lam}
use Rattle.reduction.proofs.Looking.{look_alone}
use Rattle.reduction.proofs.spine.look_alone.Goals as goal

pub returns-in-Pi : goal.returns-in-Pi
returns-in-Pi c = λ e t v p q.
    ⊎_elim (λ i. let (a, b, is) = from_pi t (sym i ∙ p) in (a, b, inl is)) (λ i. let (a, b, is) = from_lam t (sym i ∙ p) in (a, b, inr is)) c.in-Pi.is

pub returns-in_default : goal.returns-in_default
returns-in_default c = λ e t v p q. let (u, is) = c.if-unfolds.ensures e t v p in look_alone e c.args.at t u q is
