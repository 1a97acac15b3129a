use Rattle.std.proofs.Common.{◌≡◌, ℕ, ◌+◌, ◌-◌, ◌*◌, [], ◌∷◌, ap, arith}
use Rattle.theory.specs.Environment.{defined}
use Rattle.theory.specs.Terms.{size}
use Rattle.terms.specs.Words.{put, number}
use Rattle.reduction.proofs.declare.enter_definition.Goals as goal

pub returns : goal.returns
returns c t a q =
    c.enter.ensures (defined t a) (put a (put t []))
    (ap (λ (k : ℕ). 0 ∷ number k (put a (put t []))) (let z : 3 * size a ≡ c.args.body_at - (c.args.used + 3) = omega (arith, q) in z))
