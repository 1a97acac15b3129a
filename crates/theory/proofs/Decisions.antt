-- What the normal forms of inferred types decide: whether an application, a function type or a function has a type, whether a
-- term is of a sort or of a given type. Each question has a lemma for yes and a lemma for no.
use Rattle.std.proofs.Common.{◌≡◌, sym, ◌∙◌, false, List, ◌∷◌, ℕ, max}
use mathlib.Core.Option.{none}
use lib.ListN.{get_elem?}
use Rattle.theory.specs.Terms.{Head, Term, var, const, sort, pi, lam, app, subst}
use Rattle.theory.specs.Environment.{Env, head_type_lem}
use Rattle.theory.specs.Reduction.{Steps, no_steps, a_step}
use Rattle.theory.specs.Typing.{HasType, t_sort, t_pi, t_lam, t_app, t_conv, WfEnv, WfContext, ctx_more, is_pi, is_sort, FirstReduct, Subterm, whole, pi_left, pi_right, lam_left, lam_right, app_left, app_right}
use Rattle.theory.proofs.Options.{none-some}
use Rattle.theory.proofs.Conversion.{conv_trans, conv_sym, steps_conv}
use Rattle.theory.proofs.Injectivity.{pi_inj, sort_inj}
use Rattle.theory.proofs.Generation.{var_typed, head_typed, pi_typed, lam_typed, app_typed}
use Rattle.theory.proofs.Uniqueness.{one_type}
use Rattle.theory.proofs.Validity.{valid}
use Rattle.theory.proofs.SubjectReduction.{preserved}
use Rattle.theory.proofs.NormalSteps.{first_reduct_steps}
use Rattle.theory.proofs.NormalForms.{NormalForm, normal_forms_agree, normal_forms_convert, rest_no_pi, rest_no_sort}

-- The term has no type.
abbrev pub Untyped : Env → List Term → Term → Type 0
Untyped e g t = (c : Term) → HasType e g t c → ⊥

module _ {e : Env} {g : List Term} (wf : WfEnv e) (ctx : WfContext e g) where
  -- A type may be reduced.
  steps_keep_type : {t u a : Term} → HasType e g t a → Steps e t u → HasType e g u a
  steps_keep_type h no_steps = h
  steps_keep_type h (a_step s r) = steps_keep_type (preserved wf h s ctx) r

  pub of_worked : {t k l : Term} → HasType e g t k → Steps e k l → HasType e g t l
  of_worked h r = let (i, s) = valid wf h ctx in t_conv h (steps_conv r) (steps_keep_type s r)

  -- Is t, of type k, of type a?
  pub type_yes : {t k a n : Term} {j : ℕ} → HasType e g t k → HasType e g a (sort j) → NormalForm e k n → NormalForm e a n → HasType e g t a
  type_yes h s f q = t_conv h (normal_forms_convert f q) s

  pub type_no : {t k a m n : Term} → HasType e g t k → NormalForm e k m → NormalForm e a n → (m ≡ n → ⊥) → HasType e g t a → ⊥
  type_no h f q apart r = apart (normal_forms_agree wf (one_type wf h r) f q)

  -- Is a, of type k, of a sort, and of which?
  pub sort_yes : {a k : Term} {i : ℕ} → HasType e g a k → FirstReduct e is_sort k (sort i) → HasType e g a (sort i)
  sort_yes h f = t_conv h (steps_conv (first_reduct_steps f)) t_sort

  pub sort_no : {a k l : Term} {i : ℕ} → HasType e g a k → NormalForm e k l → is_sort l ≡ false → HasType e g a (sort i) → ⊥
  sort_no h f p r = rest_no_sort wf f p (one_type wf h r)

  pub sort_once : {a : Term} {i j : ℕ} → HasType e g a (sort i) → HasType e g a (sort j) → i ≡ j
  sort_once h r = sort_inj wf (one_type wf h r)

  -- Has f t a type, where f is of type k and t of type l?
  pub app_yes_same : {f t k a b : Term} → HasType e g f k → FirstReduct e is_pi k (pi a b) → HasType e g t a → HasType e g (app f t) (subst 0 t b)
  app_yes_same h first r = t_app (of_worked h (first_reduct_steps first)) r

  pub app_yes : {f t k l a b n : Term} → HasType e g f k → FirstReduct e is_pi k (pi a b) → HasType e g t l → NormalForm e a n → NormalForm e l n → HasType e g (app f t) (subst 0 t b)
  app_yes h first r p q =
      let fun = of_worked h (first_reduct_steps first) in
      let (i, s) = valid wf fun ctx in
      t_app fun (type_yes r (pi_typed s).left q p)

  pub app_no : {f t k l a b m n : Term} → HasType e g f k → FirstReduct e is_pi k (pi a b) → HasType e g t l → NormalForm e a m → NormalForm e l n → (m ≡ n → ⊥) → Untyped e g (app f t)
  app_no h first r p q apart c s =
      let v = app_typed s in
      let same = (pi_inj wf (conv_trans (conv_sym (steps_conv (first_reduct_steps first))) (one_type wf h v.fun))).0 in
      apart (normal_forms_agree wf (conv_trans same (one_type wf v.arg r)) p q)

  pub app_no_pi : {f t k l : Term} → HasType e g f k → NormalForm e k l → is_pi l ≡ false → Untyped e g (app f t)
  app_no_pi h f p c s = let v = app_typed s in rest_no_pi wf f p (one_type wf h v.fun)

  pub app_no_fun : {f t : Term} → Untyped e g f → Untyped e g (app f t)
  app_no_fun none_f c s = none_f _ (app_typed s).fun

  pub app_no_arg : {f t : Term} → Untyped e g t → Untyped e g (app f t)
  app_no_arg none_t c s = none_t _ (app_typed s).arg

  -- Has (x : a) -> b a type, where a is of type k and b of type l?
  pub pi_yes : {a b k l : Term} {i j : ℕ} → HasType e g a k → FirstReduct e is_sort k (sort i) → HasType e (a ∷ g) b l → FirstReduct e is_sort l (sort j) → HasType e g (pi a b) (sort (max i j))
  pi_yes h p r q = t_pi (sort_yes h p) (t_conv r (steps_conv (first_reduct_steps q)) t_sort)

  pub pi_no_left : {a b k l : Term} → HasType e g a k → NormalForm e k l → is_sort l ≡ false → Untyped e g (pi a b)
  pi_no_left h f p c s = sort_no h f p (pi_typed s).left

  pub pi_no_right : {a b k l : Term} → HasType e (a ∷ g) b k → NormalForm e k l → is_sort l ≡ false → Untyped e g (pi a b)
  pi_no_right h f p c s = rest_no_sort wf f p (one_type wf h (pi_typed s).right)

  pub pi_no_domain : {a b : Term} → Untyped e g a → Untyped e g (pi a b)
  pi_no_domain none_a c s = none_a _ (pi_typed s).left

  pub pi_no_codomain : {a b : Term} → Untyped e (a ∷ g) b → Untyped e g (pi a b)
  pi_no_codomain none_b c s = none_b _ (pi_typed s).right

  -- Has fun (x : a) => t a type, where a is of type k and t of type b?
  pub lam_yes : {a t b k : Term} {i : ℕ} → HasType e g a k → FirstReduct e is_sort k (sort i) → HasType e (a ∷ g) t b → HasType e g (lam a t) (pi a b)
  lam_yes h p r = let left = sort_yes h p in let (j, s) = valid wf r (ctx_more ctx left) in t_lam left s r

  pub lam_no_left : {a t k l : Term} → HasType e g a k → NormalForm e k l → is_sort l ≡ false → Untyped e g (lam a t)
  lam_no_left h f p c s = sort_no h f p (lam_typed s).left

  pub lam_no_domain : {a t : Term} → Untyped e g a → Untyped e g (lam a t)
  lam_no_domain none_a c s = none_a _ (lam_typed s).left

  pub lam_no_body : {a t : Term} → Untyped e (a ∷ g) t → Untyped e g (lam a t)
  lam_no_body none_t c s = none_t _ (lam_typed s).body

  -- Variables and heads without a type.
  pub var_no : {x : ℕ} → get_elem? g x ≡ none → Untyped e g (var x)
  var_no p c s = let v = var_typed s in none-some (sym p ∙ v.at)

  pub head_no : {h : Head} → head_type_lem e h ≡ none → Untyped e g (const h)
  head_no p c s = let v = head_typed s in none-some (sym p ∙ v.at)

-- The parts of a term that has a type have types, in well-formed contexts.
pub subterm_typed : {e : Env} {g d : List Term} {t u : Term} → Subterm g t d u → {c : Term} → HasType e g t c → (b : Term) × HasType e d u b
subterm_typed whole h = (_, h)
subterm_typed (pi_left p) h = subterm_typed p (pi_typed h).left
subterm_typed (pi_right p) h = subterm_typed p (pi_typed h).right
subterm_typed (lam_left p) h = subterm_typed p (lam_typed h).left
subterm_typed (lam_right p) h = subterm_typed p (lam_typed h).body
subterm_typed (app_left p) h = subterm_typed p (app_typed h).fun
subterm_typed (app_right p) h = subterm_typed p (app_typed h).arg

pub subterm_context : {e : Env} {g d : List Term} {t u : Term} → Subterm g t d u → {c : Term} → HasType e g t c → WfContext e g → WfContext e d
subterm_context whole h ctx = ctx
subterm_context (pi_left p) h ctx = subterm_context p (pi_typed h).left ctx
subterm_context (pi_right p) h ctx = subterm_context p (pi_typed h).right (ctx_more ctx (pi_typed h).left)
subterm_context (lam_left p) h ctx = subterm_context p (lam_typed h).left ctx
subterm_context (lam_right p) h ctx = subterm_context p (lam_typed h).body (ctx_more ctx (lam_typed h).left)
subterm_context (app_left p) h ctx = subterm_context p (app_typed h).fun ctx
subterm_context (app_right p) h ctx = subterm_context p (app_typed h).arg ctx

pub subterm_untyped : {e : Env} {g d : List Term} {t u : Term} → Subterm g t d u → Untyped e d u → Untyped e g t
subterm_untyped p none_u c h = let (b, r) = subterm_typed p h in none_u b r
