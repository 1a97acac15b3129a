-- A term convertible to a function type, or to a sort, comes to a first one by normal-order steps.
-- The first function type and the first sort exist because reduction can be made standard, weak-head steps first.
use Rattle.std.proofs.Common.{◌≡◌, refl, sym, ap, ◌∙◌, subst as tr, Bool, true, false, ℕ, zero, suc, ◌<◌, arith}
use mathlib.Core.Option.{some}
use Rattle.theory.specs.Terms.{Term, sort, pi}
use Rattle.theory.specs.Environment.{Env}
use Rattle.theory.specs.Reduction.{bind, Conv, normal_steps}
use Rattle.theory.specs.Typing.{WfEnv, is_pi, is_sort, FirstReduct}
use Rattle.theory.proofs.Options.{some_inj}
use Rattle.theory.proofs.Confluence.{confluence}
use Rattle.theory.proofs.Injectivity.{pi_steps, sort_steps}
use Rattle.theory.proofs.WeakHead.{Wh, Whs, wh_done, wh_then, wh_normal_step, wh_no_pi, wh_no_sort}
use Rattle.theory.proofs.NormalSteps.{normal_steps-suc}
use Rattle.theory.proofs.Standardization.{St, st_pi, st_sort, standardization}

-- Weak-head steps lead to the first reduct with a property that nothing has that takes a weak-head step.
whs_first : {e : Env} {p : Term → Bool} → ((t u : Term) → Wh e t u → p t ≡ false) → {t u : Term} → Whs e t u → p u ≡ true → FirstReduct e p t u
whs_first no_p wh_done is = record { n = 0; reaches = refl; is = is; before = λ m v l. absurd (omega arith) }
whs_first {e} {p} no_p (wh_then {t} {u} w ws) is = go (whs_first no_p ws is)
  where
    go : {v : Term} → FirstReduct e p u v → FirstReduct e p t v
    go r = record {
      n = suc r.n;
      reaches = first r.n ∙ r.reaches;
      is = r.is;
      before = before;
    }
      where
        first : (n : ℕ) → normal_steps e (suc n) t ≡ normal_steps e n u
        first n = normal_steps-suc e n t ∙ ap (λ o. bind o (normal_steps e n)) (wh_normal_step w)

        before : (m : ℕ) (v : Term) → m < suc r.n → normal_steps e m t ≡ some v → p v ≡ false
        before zero v l q = tr (λ x. p x ≡ false) (some_inj q) (no_p t u w)
        before (suc m) v l q = r.before m v (omega arith) (sym (first m) ∙ q)

pub pi_first : {e : Env} {k a b : Term} → WfEnv e → Conv e k (pi a b) → (c d : Term) × FirstReduct e is_pi k (pi c d)
pi_first {e} {k} {a} {b} wf q =
    let (v, left, right) = confluence e k (pi a b) wf q in
    let (c, d, is, _, _) = pi_steps right in
    from_st (tr (St e k) is (standardization wf left))
  where
    from_st : {c d : Term} → St e k (pi c d) → (c d : Term) × FirstReduct e is_pi k (pi c d)
    from_st (st_pi {a} {b} ws _ _) = (a, b, whs_first (λ t u w. wh_no_pi w) ws refl)

pub sort_first : {e : Env} {k : Term} {i : ℕ} → WfEnv e → Conv e k (sort i) → FirstReduct e is_sort k (sort i)
sort_first {e} {k} {i} wf q =
    let (v, left, right) = confluence e k (sort i) wf q in
    from_st (tr (St e k) (sort_steps right) (standardization wf left))
  where
    from_st : St e k (sort i) → FirstReduct e is_sort k (sort i)
    from_st (st_sort ws) = whs_first (λ t u w. wh_no_sort w) ws refl
