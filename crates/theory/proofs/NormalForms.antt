-- Normal forms: a normal term takes no step, and convertible terms with normal forms have the same one.
-- A term whose normal form is no function type, or no sort, is convertible to none. Last, the laws of a loop that takes steps.
use Rattle.std.proofs.Common.{◌≡◌, refl, sym, ap, ◌∙◌, subst as tr, Bool, true, false, ℕ, suc, ◌<◌, arith, ltb, ltb-true, ltb-false}
use mathlib.Core.Option.{some, none}
use Rattle.theory.specs.Terms.{Term, sort, pi}
use Rattle.theory.specs.Environment.{Env}
use Rattle.theory.specs.Reduction.{Steps, no_steps, a_step, Conv, normal_step, normal_steps}
use Rattle.theory.specs.Typing.{WfEnv, is_pi, is_sort, FirstReduct}
use Rattle.theory.proofs.Options.{true-false, some_inj, cases_bool}
use Rattle.theory.proofs.Confluence.{confluence}
use Rattle.theory.proofs.Conversion.{conv_trans, conv_sym, steps_conv, steps_join}
use Rattle.theory.proofs.Injectivity.{pi_steps, sort_steps}
use Rattle.theory.proofs.NormalSteps.{normal_stays, normal_steps_steps, normal_form_once}

-- u is the normal form of t, reached in normal order.
pub record NormalForm (e : Env) (t u : Term) : Type 0 where
  pub n : ℕ
  pub reaches : normal_steps e n t ≡ some u
  pub normal : normal_step e u ≡ none

pub normal_form_steps : {e : Env} {t u : Term} → NormalForm e t u → Steps e t u
normal_form_steps {e} {t} f = normal_steps_steps e f.n t f.reaches

pub normal_form_unique : {e : Env} {t u v : Term} → NormalForm e t u → NormalForm e t v → u ≡ v
normal_form_unique {e} {t} a b = normal_form_once e a.n b.n t a.reaches a.normal b.reaches b.normal

-- A normal term reduces to itself only.
pub normal_steps-none : {e : Env} {t u : Term} → normal_step e t ≡ none → Steps e t u → u ≡ t
normal_steps-none p no_steps = refl
normal_steps-none p (a_step s r) = absurd (normal_stays s p)

-- Convertible terms have the same normal form; terms with the same normal form are convertible.
pub normal_forms_agree : {e : Env} {t u a b : Term} → WfEnv e → Conv e t u → NormalForm e t a → NormalForm e u b → a ≡ b
normal_forms_agree {e} {t} {u} {a} {b} wf q f g =
    let (v, left, right) = confluence e a b wf (conv_trans (conv_sym (steps_conv (normal_form_steps f))) (conv_trans q (steps_conv (normal_form_steps g)))) in
    sym (normal_steps-none f.normal left) ∙ normal_steps-none g.normal right

pub normal_forms_convert : {e : Env} {t u a : Term} → NormalForm e t a → NormalForm e u a → Conv e t u
normal_forms_convert f g = steps_join (normal_form_steps f) (normal_form_steps g)

-- A normal form that is no function type, no sort.
pub rest_no_pi : {e : Env} {k l a b : Term} → WfEnv e → NormalForm e k l → is_pi l ≡ false → Conv e k (pi a b) → ⊥
rest_no_pi {e} {l} {a} {b} wf f p q =
    let (v, left, right) = confluence e l (pi a b) wf (conv_trans (conv_sym (steps_conv (normal_form_steps f))) q) in
    let (c, d, is, _, _) = pi_steps right in
    true-false (ap is_pi (sym is ∙ normal_steps-none f.normal left) ∙ p)

pub rest_no_sort : {e : Env} {k l : Term} {i : ℕ} → WfEnv e → NormalForm e k l → is_sort l ≡ false → Conv e k (sort i) → ⊥
rest_no_sort {e} {l} {i} wf f p q =
    let (v, left, right) = confluence e l (sort i) wf (conv_trans (conv_sym (steps_conv (normal_form_steps f))) q) in
    true-false (ap is_sort (sym (sort_steps right) ∙ normal_steps-none f.normal left) ∙ p)

-- Reduction of t towards a first term with the property p: n steps led to u, and nothing before it has the property.
pub record Going (e : Env) (p : Term → Bool) (t : Term) (n : ℕ) (u : Term) : Type 0 where
  pub reaches : normal_steps e n t ≡ some u
  pub before : (m : ℕ) (v : Term) → m < n → normal_steps e m t ≡ some v → p v ≡ false

pub going_start : (e : Env) (p : Term → Bool) (t : Term) → Going e p t 0 t
going_start e p t = record { reaches = refl; before = λ m v l. absurd (omega arith) }

pub going_on : {e : Env} {p : Term → Bool} {t u v : Term} {n : ℕ} → Going e p t n u → p u ≡ false → normal_step e u ≡ some v → Going e p t (suc n) v
going_on {e} {p} {t} {u} {v} {n} f no_p s = record { reaches = rw f.reaches s; before = before }
  where
    before : (m : ℕ) (x : Term) → m < suc n → normal_steps e m t ≡ some x → p x ≡ false
    before m x l q = cases_bool (ltb m n) (λ c. f.before m x (ltb-true m n c) q)
        (λ c. tr (λ z. p z ≡ false) (some_inj (sym f.reaches ∙ (ap (λ k. normal_steps e k t) (let z : n ≡ m = omega (arith, ltb-false m n c) in z) ∙ q))) no_p)

pub going_hit : {e : Env} {p : Term → Bool} {t u : Term} {n : ℕ} → Going e p t n u → p u ≡ true → FirstReduct e p t u
going_hit {n} f is = record { n = n; reaches = f.reaches; is = is; before = f.before }

pub going_rest : {e : Env} {p : Term → Bool} {t u : Term} {n : ℕ} → Going e p t n u → normal_step e u ≡ none → NormalForm e t u
going_rest {n} f s = record { n = n; reaches = f.reaches; normal = s }
