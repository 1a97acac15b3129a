-- A term that has a type has an inferred type: by induction on typing, since an inferred type is convertible to the given one,
-- so that normal-order reduction comes to the function type or the sort that the rule asks for.
use Rattle.std.proofs.Common.{List}
use Rattle.theory.specs.Terms.{Term}
use Rattle.theory.specs.Environment.{Env}
use Rattle.theory.specs.Typing.{HasType, t_var, t_head, t_sort, t_pi, t_lam, t_app, t_conv, WfEnv, Infers, i_var, i_head, i_sort, i_pi, i_lam, i_app}
use Rattle.theory.specs.Theorems.{InferenceComplete}
use Rattle.theory.proofs.Uniqueness.{inferred_type}
use Rattle.theory.proofs.FirstReducts.{pi_first, sort_first}

module _ {e : Env} (wf : WfEnv e) where
  pub infers_some : {g : List Term} {t a : Term} → HasType e g t a → (b : Term) × Infers e g t b
  infers_some (t_var p) = (_, i_var p)
  infers_some (t_head p) = (_, i_head p)
  infers_some t_sort = (_, i_sort)
  infers_some (t_pi a b) =
      let (k, x) = infers_some a in
      let (l, y) = infers_some b in
      (_, i_pi x (sort_first wf (inferred_type wf x a)) y (sort_first wf (inferred_type wf y b)))
  infers_some (t_lam a b t) = let (k, x) = infers_some t in (_, i_lam x)
  infers_some (t_app f t) =
      let (k, x) = infers_some f in
      let (p, q, first) = pi_first wf (inferred_type wf x f) in
      (_, i_app x first)
  infers_some (t_conv t q b) = infers_some t

pub inference_complete : InferenceComplete
inference_complete e g t a wf ctx h = infers_some wf h
