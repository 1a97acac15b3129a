-- Convertible terms have a common reduct.
-- Parallel reduction has the diamond property, and its closure is that of single steps.
use Rattle.std.proofs.Common.{refl, sym, subst₂ as tr₂}
use Rattle.theory.specs.Terms.{Term, pi, lam, app}
use Rattle.theory.specs.Environment.{Env}
use Rattle.theory.specs.Reduction.{Step, contracts, unfolds, in_fun, in_arg, in_pi, under_pi, in_lam, under_lam, Steps, no_steps, a_step, Conv, conv_refl, conv_step, conv_back}
use Rattle.theory.specs.Typing.{WfEnv}
use Rattle.theory.specs.Theorems.{Confluence}
use Rattle.theory.proofs.Iota.{iota_contract, contract-some}
use Rattle.theory.proofs.Parallel.{Par, p_var, p_const, p_sort, p_pi, p_lam, p_app, p_beta, p_iota, p_delta, par_refl, complete}

-- steps in the parts of a term
module _ {e : Env} where
  pub steps_trans : {t u v : Term} → Steps e t u → Steps e u v → Steps e t v
  steps_trans no_steps q = q
  steps_trans (a_step s p) q = a_step s (steps_trans p q)

  pub one_step : {t u : Term} → Step e t u → Steps e t u
  one_step s = a_step s no_steps

  pub steps_map : (φ : Term → Term) → ((t u : Term) → Step e t u → Step e (φ t) (φ u)) → {t u : Term} → Steps e t u → Steps e (φ t) (φ u)
  steps_map φ k no_steps = no_steps
  steps_map φ k (a_step {t} {u} s p) = a_step (k t u s) (steps_map φ k p)

  pub steps_pi : {a b c d : Term} → Steps e a c → Steps e b d → Steps e (pi a b) (pi c d)
  steps_pi {b} {c} p q = steps_trans (steps_map (λ t. pi t b) (λ t u s. in_pi s) p) (steps_map (pi c) (λ t u s. under_pi s) q)

  pub steps_lam : {a b c d : Term} → Steps e a c → Steps e b d → Steps e (lam a b) (lam c d)
  steps_lam {b} {c} p q = steps_trans (steps_map (λ t. lam t b) (λ t u s. in_lam s) p) (steps_map (lam c) (λ t u s. under_lam s) q)

  pub steps_app : {f g a b : Term} → Steps e f g → Steps e a b → Steps e (app f a) (app g b)
  steps_app {g} {a} p q = steps_trans (steps_map (λ t. app t a) (λ t u s. in_fun s) p) (steps_map (app g) (λ t u s. in_arg s) q)

-- a step is a parallel step, which is a number of steps
pub step_par : {e : Env} {t u : Term} → Step e t u → Par e t u
step_par {e} (contracts {f} {a} {t} p) =
    contract-some e f a p
    (λ b c q r. tr₂ (λ x y. Par e (app x a) y) (sym q) (sym r) (p_beta (par_refl c) (par_refl a)))
    (λ q. p_iota (par_refl f) (par_refl a) q q)
step_par (unfolds p) = p_delta p
step_par (in_fun {a} s) = p_app (step_par s) (par_refl a)
step_par (in_arg {f} s) = p_app (par_refl f) (step_par s)
step_par (in_pi {c} s) = p_pi (step_par s) (par_refl c)
step_par (under_pi {a} s) = p_pi (par_refl a) (step_par s)
step_par (in_lam {c} s) = p_lam (step_par s) (par_refl c)
step_par (under_lam {a} s) = p_lam (par_refl a) (step_par s)

pub par_steps : {e : Env} {t u : Term} → Par e t u → Steps e t u
par_steps p_var = no_steps
par_steps p_const = no_steps
par_steps p_sort = no_steps
par_steps (p_pi x y) = steps_pi (par_steps x) (par_steps y)
par_steps (p_lam x y) = steps_lam (par_steps x) (par_steps y)
par_steps (p_app x y) = steps_app (par_steps x) (par_steps y)
par_steps (p_beta x y) = steps_trans (steps_app (steps_lam no_steps (par_steps x)) (par_steps y)) (one_step (contracts refl))
par_steps {e} (p_iota {g} {b} {t} x y p q) = steps_trans (steps_app (par_steps x) (par_steps y)) (one_step (contracts (iota_contract e g b t q)))
par_steps (p_delta p) = one_step (unfolds p)

module _ {e : Env} (w : WfEnv e) where
  pub diamond : {t u v : Term} → Par e t u → Par e t v → (x : Term) × Par e u x × Par e v x
  diamond {t} {u} {v} p q = let c = complete w t in (c.0, c.1 u p, c.1 v q)

  -- a parallel step against steps
  strip : {t v : Term} → Steps e t v → {u : Term} → Par e t u → (x : Term) × Steps e u x × Par e v x
  strip no_steps {u} p = (u, no_steps, p)
  strip (a_step s q) p =
      let (x, i, j) = diamond p (step_par s) in
      let (y, k, l) = strip q j in
      (y, steps_trans (par_steps i) k, l)

  pub joins : {t u : Term} → Conv e t u → (v : Term) × Steps e t v × Steps e u v
  joins (conv_refl {t}) = (t, no_steps, no_steps)
  joins (conv_step s p) = let (v, x, y) = joins p in (v, a_step s x, y)
  joins (conv_back s p) =
      let (v, x, y) = joins p in
      let (z, i, j) = strip x (step_par s) in
      (z, i, steps_trans y (par_steps j))

pub confluence : Confluence
confluence e t u w p = joins w p
