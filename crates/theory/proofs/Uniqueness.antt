-- A term has one type up to conversion, and the inferred type is that type.
use Rattle.std.proofs.Common.{sym, ap, ap₂, ◌∙◌, List, suc, max}
use Rattle.theory.specs.Terms.{Term, sort, lift}
use Rattle.theory.specs.Environment.{Env}
use Rattle.theory.specs.Reduction.{Conv, conv_refl}
use Rattle.theory.specs.Typing.{HasType, t_var, t_head, t_sort, t_pi, t_lam, t_app, t_conv, WfEnv, Infers, i_var, i_head, i_sort, i_pi, i_lam, i_app}
use Rattle.theory.specs.Theorems.{UniqueTypes, InferenceSound}
use Rattle.theory.proofs.Options.{some_inj}
use Rattle.theory.proofs.Conversion.{conv_trans, conv_sym, conv_eq, conv_pi, conv_subst, steps_conv}
use Rattle.theory.proofs.Injectivity.{pi_inj, sort_inj}
use Rattle.theory.proofs.Generation.{var_typed, head_typed, sort_typed, pi_typed, lam_typed, app_typed}
use Rattle.theory.proofs.NormalSteps.{first_reduct_steps}

module _ {e : Env} (w : WfEnv e) where
  pub one_type : {g : List Term} {t a : Term} → HasType e g t a → {b : Term} → HasType e g t b → Conv e a b
  one_type (t_var {x} p) q = let r = var_typed q in conv_trans (conv_eq (ap (lift 0 (suc x)) (some_inj (sym p ∙ r.at)))) r.conv
  one_type (t_head p) q = let r = head_typed q in conv_trans (conv_eq (some_inj (sym p ∙ r.at))) r.conv
  one_type t_sort q = sort_typed q
  one_type (t_pi x y) q =
      let r = pi_typed q in
      conv_trans (conv_eq (ap₂ (λ i j. sort (max i j)) (sort_inj w (one_type x r.left)) (sort_inj w (one_type y r.right)))) r.conv
  one_type (t_lam x y z) q = let r = lam_typed q in conv_trans (conv_pi conv_refl (one_type z r.body)) r.conv
  one_type (t_app {t} x y) q = let r = app_typed q in conv_trans (conv_subst w (pi_inj w (one_type x r.fun)).1 0 t) r.conv
  one_type (t_conv x s y) q = conv_trans (conv_sym s) (one_type x q)

  -- the inferred type needs no well-formed context
  pub inferred_type : {g : List Term} {t b : Term} → Infers e g t b → {a : Term} → HasType e g t a → Conv e b a
  inferred_type (i_var {x} p) q = let r = var_typed q in conv_trans (conv_eq (ap (lift 0 (suc x)) (some_inj (sym p ∙ r.at)))) r.conv
  inferred_type (i_head p) q = let r = head_typed q in conv_trans (conv_eq (some_inj (sym p ∙ r.at))) r.conv
  inferred_type i_sort q = sort_typed q
  inferred_type (i_pi x k y l) q =
      let r = pi_typed q in
      let i = sort_inj w (conv_trans (conv_sym (steps_conv (first_reduct_steps k))) (inferred_type x r.left)) in
      let j = sort_inj w (conv_trans (conv_sym (steps_conv (first_reduct_steps l))) (inferred_type y r.right)) in
      conv_trans (conv_eq (ap₂ (λ i j. sort (max i j)) i j)) r.conv
  inferred_type (i_lam x) q = let r = lam_typed q in conv_trans (conv_pi conv_refl (inferred_type x r.body)) r.conv
  inferred_type (i_app {t} x k) q =
      let r = app_typed q in
      conv_trans (conv_subst w (pi_inj w (conv_trans (conv_sym (steps_conv (first_reduct_steps k))) (inferred_type x r.fun))).1 0 t) r.conv

pub unique_types : UniqueTypes
unique_types e g t a b w p q = one_type w p q

pub inference_sound : InferenceSound
inference_sound e g t a b w c p q = conv_sym (inferred_type w q p)
