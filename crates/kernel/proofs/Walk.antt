-- The walk of inference: its context is well-formed, a part without a type leaves the whole without one, and the type of a node
-- follows from the types of its parts.
use Rattle.std.proofs.Common.{◌≡◌, ℕ, ◌+◌, ◌≤◌, max, false, List, ◌∷◌, length, arith}
use Rattle.theory.specs.Terms.{Term, sort, pi, lam, app, size, depth, subst}
use Rattle.theory.specs.Environment.{Env}
use Rattle.theory.specs.Typing.{i_pi, i_lam, i_app, WfEnv, WfContext, ctx_more, is_pi, is_sort, Subterm, whole, pi_left, pi_right, lam_left, lam_right, app_left, app_right}
use Rattle.theory.proofs.NormalForms.{NormalForm}
use Rattle.theory.proofs.Decisions.{sort_yes, app_yes_same, app_yes, app_no, app_no_pi, app_no_fun, app_no_arg, pi_yes, pi_no_left, pi_no_right, pi_no_domain, pi_no_codomain, lam_yes, lam_no_left, lam_no_domain, lam_no_body}
use Rattle.kernel.specs.Inference.{Untyped, Has, Worked, Zipper, z_end, z_pi, z_under_pi, z_lam, z_under_lam, z_fun, z_arg, frames, args}

-- Parts of parts are parts.
pub subterm_trans : {g d k : List Term} {t u v : Term} → Subterm g t d u → Subterm d u k v → Subterm g t k v
subterm_trans whole q = q
subterm_trans (pi_left p) q = pi_left (subterm_trans p q)
subterm_trans (pi_right p) q = pi_right (subterm_trans p q)
subterm_trans (lam_left p) q = lam_left (subterm_trans p q)
subterm_trans (lam_right p) q = lam_right (subterm_trans p q)
subterm_trans (app_left p) q = app_left (subterm_trans p q)
subterm_trans (app_right p) q = app_right (subterm_trans p q)

module _ {e : Env} {most : ℕ} {g₀ : List Term} {t₀ : Term} where
  -- Where the walk stands is a part of the whole.
  pub walk_part : {g : List Term} {t : Term} → Zipper e most g₀ t₀ g t → Subterm g₀ t₀ g t
  walk_part z_end = whole
  walk_part (z_pi z) = subterm_trans (walk_part z) (pi_left whole)
  walk_part (z_under_pi z h w) = subterm_trans (walk_part z) (pi_right whole)
  walk_part (z_lam z) = subterm_trans (walk_part z) (lam_left whole)
  walk_part (z_under_lam z h w) = subterm_trans (walk_part z) (lam_right whole)
  walk_part (z_fun z) = subterm_trans (walk_part z) (app_left whole)
  walk_part (z_arg z h w) = subterm_trans (walk_part z) (app_right whole)

  -- They are bounded by the size and by the depth of the whole.
  pub frames_bound : {g : List Term} {t : Term} (z : Zipper e most g₀ t₀ g t) → frames z + size t ≤ size t₀
  frames_bound z_end = omega arith
  frames_bound (z_pi z) = omega (arith, frames_bound z)
  frames_bound (z_under_pi z h w) = omega (arith, frames_bound z)
  frames_bound (z_lam z) = omega (arith, frames_bound z)
  frames_bound (z_under_lam z h w) = omega (arith, frames_bound z)
  frames_bound (z_fun z) = omega (arith, frames_bound z)
  frames_bound (z_arg z h w) = omega (arith, frames_bound z)

  pub args_bound : {g : List Term} {t : Term} (z : Zipper e most g₀ t₀ g t) → args z + depth t ≤ depth t₀
  args_bound z_end = omega arith
  args_bound (z_pi z) = omega (arith, args_bound z)
  args_bound (z_under_pi z h w) = omega (arith, args_bound z)
  args_bound (z_lam z) = omega (arith, args_bound z)
  args_bound (z_under_lam z h w) = omega (arith, args_bound z)
  args_bound (z_fun z) = omega (arith, args_bound z)
  args_bound (z_arg z h w) = omega (arith, args_bound z)

  pub context_bound : {g : List Term} {t : Term} (z : Zipper e most g₀ t₀ g t) → length g ≤ length g₀ + frames z
  context_bound z_end = omega arith
  context_bound (z_pi z) = omega (arith, context_bound z)
  context_bound (z_under_pi z h w) = omega (arith, context_bound z)
  context_bound (z_lam z) = omega (arith, context_bound z)
  context_bound (z_under_lam z h w) = omega (arith, context_bound z)
  context_bound (z_fun z) = omega (arith, context_bound z)
  context_bound (z_arg z h w) = omega (arith, context_bound z)

-- The type of a node from the types of its parts.
module _ {e : Env} {g : List Term} (wf : WfEnv e) (ctx : WfContext e g) {most : ℕ} where
  pub pi_up : {a b k l : Term} {i j : ℕ} → Has e g a k → Worked e is_sort most k (sort i) → Has e (a ∷ g) b l → Worked e is_sort most l (sort j) → Has e g (pi a b) (sort (max i j))
  pi_up h w r v = record { of = pi_yes wf ctx h.of w.first r.of v.first; infers = i_pi h.infers w.first r.infers v.first }

  pub lam_up : {a t b k : Term} {i : ℕ} → Has e g a k → Worked e is_sort most k (sort i) → Has e (a ∷ g) t b → Has e g (lam a t) (pi a b)
  lam_up h w r = record { of = lam_yes wf ctx h.of w.first r.of; infers = i_lam r.infers }

  pub app_up_same : {f t k a b : Term} → Has e g f k → Worked e is_pi most k (pi a b) → Has e g t a → Has e g (app f t) (subst 0 t b)
  app_up_same h w r = record { of = app_yes_same wf ctx h.of w.first r.of; infers = i_app h.infers w.first }

  pub app_up : {f t k l a b n : Term} → Has e g f k → Worked e is_pi most k (pi a b) → Has e g t l → NormalForm e a n → NormalForm e l n → Has e g (app f t) (subst 0 t b)
  app_up h w r p q = record { of = app_yes wf ctx h.of w.first r.of p q; infers = i_app h.infers w.first }

module _ {e : Env} (wf : WfEnv e) {most : ℕ} {g₀ : List Term} {t₀ : Term} (ctx : WfContext e g₀) where
  -- The context of the walk is well-formed.
  pub walk_context : {g : List Term} {t : Term} → Zipper e most g₀ t₀ g t → WfContext e g
  walk_context z_end = ctx
  walk_context (z_pi z) = walk_context z
  walk_context (z_under_pi z h w) = let c = walk_context z in ctx_more c (sort_yes wf c h.of w.first)
  walk_context (z_lam z) = walk_context z
  walk_context (z_under_lam z h w) = let c = walk_context z in ctx_more c (sort_yes wf c h.of w.first)
  walk_context (z_fun z) = walk_context z
  walk_context (z_arg z h w) = walk_context z

  -- A part without a type leaves the whole without one.
  pub refused : {g : List Term} {t : Term} → Zipper e most g₀ t₀ g t → Untyped e g t → Untyped e g₀ t₀
  refused z_end n = n
  refused (z_pi z) n = refused z (pi_no_domain wf (walk_context z) n)
  refused (z_under_pi z h w) n = refused z (pi_no_codomain wf (walk_context z) n)
  refused (z_lam z) n = refused z (lam_no_domain wf (walk_context z) n)
  refused (z_under_lam z h w) n = refused z (lam_no_body wf (walk_context z) n)
  refused (z_fun z) n = refused z (app_no_fun wf (walk_context z) n)
  refused (z_arg z h w) n = refused z (app_no_arg wf (walk_context z) n)

  -- A domain or codomain whose type comes to no sort, a function whose type comes to no function type, an argument of another type.
  pub none_pi : {g : List Term} {a b k l : Term} → Zipper e most g₀ t₀ g (pi a b) → Has e g a k → NormalForm e k l → is_sort l ≡ false → Untyped e g₀ t₀
  none_pi z h f p = refused z (pi_no_left wf (walk_context z) h.of f p)

  pub none_under_pi : {g : List Term} {a b k l : Term} → Zipper e most g₀ t₀ g (pi a b) → Has e (a ∷ g) b k → NormalForm e k l → is_sort l ≡ false → Untyped e g₀ t₀
  none_under_pi z h f p = refused z (pi_no_right wf (walk_context z) h.of f p)

  pub none_lam : {g : List Term} {a t k l : Term} → Zipper e most g₀ t₀ g (lam a t) → Has e g a k → NormalForm e k l → is_sort l ≡ false → Untyped e g₀ t₀
  none_lam z h f p = refused z (lam_no_left wf (walk_context z) h.of f p)

  pub none_fun : {g : List Term} {f t k l : Term} → Zipper e most g₀ t₀ g (app f t) → Has e g f k → NormalForm e k l → is_pi l ≡ false → Untyped e g₀ t₀
  none_fun z h n p = refused z (app_no_pi wf (walk_context z) h.of n p)

  pub none_arg : {g : List Term} {f t k l a b m n : Term} → Zipper e most g₀ t₀ g (app f t) → Has e g f k → Worked e is_pi most k (pi a b) → Has e g t l
      → NormalForm e a m → NormalForm e l n → (m ≡ n → ⊥) → Untyped e g₀ t₀
  none_arg z h w r p q apart = refused z (app_no wf (walk_context z) h.of w.first r.of p q apart)
