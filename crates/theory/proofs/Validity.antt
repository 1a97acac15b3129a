-- Every type is of a sort.
use Rattle.std.proofs.Common.{◌≡◌, subst as tr, List, ◌∷◌, ℕ, zero, suc, max, arith}
use mathlib.Core.Option.{some}
use lib.ListN.{get_elem?}
use Rattle.theory.specs.Terms.{Term, sort, lift}
use Rattle.theory.specs.Environment.{Env, up}
use Rattle.theory.specs.Typing.{HasType, t_var, t_head, t_sort, t_pi, t_lam, t_app, t_conv, WfEnv, WfContext, ctx_end, ctx_more}
use Rattle.theory.proofs.Options.{none-some, some_inj}
use Rattle.theory.proofs.Indices.{lift_merge}
use Rattle.theory.specs.Theorems.{Validity}
use Rattle.theory.proofs.Generation.{pi_typed}
use Rattle.theory.proofs.HeadTypes.{head_type_typed}
use Rattle.theory.proofs.Stability.{weaken, put_typed, typed_closed}

module _ {e : Env} (w : WfEnv e) where
  -- the types of a well-formed context
  pub context_typed : {g : List Term} → WfContext e g → (x : ℕ) {a : Term} → get_elem? g x ≡ some a → (i : ℕ) × HasType e g (lift 0 (suc x) a) (sort i)
  context_typed ctx_end x p = none-some p
  context_typed (ctx_more {g} {a = b} {i} c t) zero p = (i, tr (λ z. HasType e (b ∷ g) (up z) (sort i)) (some_inj p) (weaken w b t))
  context_typed (ctx_more {g} {a = b} c t) (suc x) {a} p =
      let (i, q) = context_typed c x p in
      (i, tr (λ z. HasType e (b ∷ g) z (sort i)) (lift_merge a 0 (suc x) 0 1 (suc (suc x)) (omega arith) (omega arith) (omega arith)) (weaken w b q))

  pub valid : {g : List Term} {t a : Term} → HasType e g t a → WfContext e g → (i : ℕ) × HasType e g a (sort i)
  valid (t_var {x} p) c = context_typed c x p
  valid (t_head {g} {h} p) c = let (i, q) = head_type_typed w h p in (i, typed_closed q g)
  valid (t_sort {i}) c = (suc (suc i), t_sort)
  valid (t_pi {i} {j} p q) c = (suc (max i j), t_sort)
  valid (t_lam {i} {j} p q r) c = (max i j, t_pi p q)
  valid (t_app p q) c = let (i, r) = valid p c in let s = pi_typed r in (s.j, put_typed w s.right q)
  valid (t_conv {j} p s q) c = (j, q)

pub validity : Validity
validity e g t a w c p = valid w p c
