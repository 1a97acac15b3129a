-- Conversion: an equivalence and a congruence, stable under lift, subst and subst_all.
-- A step in a term that is put for a variable is a number of steps.
use Rattle.std.proofs.Common.{◌≡◌, refl, sym, ap, ap₂, subst as tr, List, ℕ, zero, suc, ◌+◌, ◌-◌, ltb, arith}
use mathlib.Core.Option.{some}
use lib.ListN.{get_elem?}
use Rattle.theory.specs.Terms.{Term, var, const, sort, pi, lam, app, lift, subst, subst_all, apps, option}
use Rattle.theory.specs.Environment.{Env}
use Rattle.theory.specs.Reduction.{Step, contracts, unfolds, in_fun, in_arg, in_pi, under_pi, in_lam, under_lam, Steps, no_steps, a_step, Conv, conv_refl, conv_step, conv_back}
use Rattle.theory.specs.Typing.{WfEnv}
use Rattle.theory.proofs.Options.{cases_bool, cases_option}
use Rattle.theory.proofs.Indices.{lift-subst, subst-subst, subst-lift}
use Rattle.theory.proofs.SubstAll.{subst_all_past_lift}
use Rattle.theory.proofs.Closed.{scoped_lift, scoped_subst, scoped_subst_all, delta_closed}
use Rattle.theory.proofs.Iota.{iota_contract, contract-some}
use Rattle.theory.proofs.IotaStable.{Pairwise, pw_end, pw_more, iota_lift, iota_subst, iota_subst_all}
use Rattle.theory.proofs.Parallel.{par_refl, par_subst}
use Rattle.theory.proofs.Confluence.{steps_map, step_par, par_steps}

-- an equivalence
module _ {e : Env} where
  pub conv_trans : {t u v : Term} → Conv e t u → Conv e u v → Conv e t v
  conv_trans conv_refl q = q
  conv_trans (conv_step s p) q = conv_step s (conv_trans p q)
  conv_trans (conv_back s p) q = conv_back s (conv_trans p q)

  pub conv_sym : {t u : Term} → Conv e t u → Conv e u t
  conv_sym conv_refl = conv_refl
  conv_sym (conv_step s p) = conv_trans (conv_sym p) (conv_back s conv_refl)
  conv_sym (conv_back s p) = conv_trans (conv_sym p) (conv_step s conv_refl)

  pub steps_conv : {t u : Term} → Steps e t u → Conv e t u
  steps_conv no_steps = conv_refl
  steps_conv (a_step s p) = conv_step s (steps_conv p)

  pub steps_join : {t u v : Term} → Steps e t v → Steps e u v → Conv e t u
  steps_join p q = conv_trans (steps_conv p) (conv_sym (steps_conv q))

  pub conv_eq : {t u : Term} → t ≡ u → Conv e t u
  conv_eq {t} p = tr (Conv e t) p conv_refl

  -- a congruence
  pub conv_map : (φ : Term → Term) → ((t u : Term) → Step e t u → Step e (φ t) (φ u)) → {t u : Term} → Conv e t u → Conv e (φ t) (φ u)
  conv_map φ k conv_refl = conv_refl
  conv_map φ k (conv_step {t} {u} s p) = conv_step (k t u s) (conv_map φ k p)
  conv_map φ k (conv_back {t} {u} s p) = conv_back (k u t s) (conv_map φ k p)

  pub conv_pi : {a b c d : Term} → Conv e a c → Conv e b d → Conv e (pi a b) (pi c d)
  conv_pi {b} {c} p q = conv_trans (conv_map (λ t. pi t b) (λ t u s. in_pi s) p) (conv_map (pi c) (λ t u s. under_pi s) q)

  pub conv_lam : {a b c d : Term} → Conv e a c → Conv e b d → Conv e (lam a b) (lam c d)
  conv_lam {b} {c} p q = conv_trans (conv_map (λ t. lam t b) (λ t u s. in_lam s) p) (conv_map (lam c) (λ t u s. under_lam s) q)

  pub conv_app : {f g a b : Term} → Conv e f g → Conv e a b → Conv e (app f a) (app g b)
  conv_app {g} {a} p q = conv_trans (conv_map (λ t. app t a) (λ t u s. in_fun s) p) (conv_map (app g) (λ t u s. in_arg s) q)

  pub conv_apps : {as₁ bs : List Term} → Pairwise (Conv e) as₁ bs → {f g : Term} → Conv e f g → Conv e (apps f as₁) (apps g bs)
  conv_apps pw_end p = p
  conv_apps (pw_more q qs) p = conv_apps qs (conv_app p q)

-- simultaneous substitution goes past a substitution in front of it
pub subst_all-subst : (t : Term) (us : List Term) (k c l m : ℕ) (u : Term) → l ≡ c + k → m ≡ suc l → subst_all us l (subst k u t) ≡ subst k (subst_all us c u) (subst_all us m t)
subst_all-subst (var x) us k c l m u p q =
    let y : subst_all us l (lift 0 k u) ≡ lift 0 k (subst_all us c u) = subst_all_past_lift u us 0 k c l (omega arith) p in
    let s : (x - 1) - l ≡ x - m = omega arith in
    cases_option (get_elem? us (x - m)) (λ o. grind arith)
    (λ g o. let z : subst k (subst_all us c u) (lift 0 m g) ≡ lift 0 l g = subst-lift g 0 l m k (subst_all us c u) (omega arith) (omega arith) q in grind arith)
subst_all-subst (const h) us k c l m u p q = refl
subst_all-subst (sort i) us k c l m u p q = refl
subst_all-subst (pi a b) us k c l m u p q = ap₂ pi (subst_all-subst a us k c l m u p q) (subst_all-subst b us (suc k) c (suc l) (suc m) u (omega arith) (omega arith))
subst_all-subst (lam a b) us k c l m u p q = ap₂ lam (subst_all-subst a us k c l m u p q) (subst_all-subst b us (suc k) c (suc l) (suc m) u (omega arith) (omega arith))
subst_all-subst (app f a) us k c l m u p q = ap₂ app (subst_all-subst f us k c l m u p q) (subst_all-subst a us k c l m u p q)

-- steps and conversion under lift and subst
module _ {e : Env} (w : WfEnv e) where
  pub step_lift : {t u : Term} → Step e t u → (c d : ℕ) → Step e (lift c d t) (lift c d u)
  step_lift (contracts {f} {a} {t} p) c d =
      contract-some e f a p
      (λ b m q r. contracts (rw (q, r) (ap some (sym (lift-subst m 0 c d c (suc c) a (omega arith) refl)))))
      (λ q. contracts (iota_contract e (lift c d f) (lift c d a) (lift c d t) (iota_lift c d e f a t q)))
  step_lift (unfolds {h} {t} p) c d = rw (scoped_lift t 0 c d (delta_closed e w h p) (omega arith)) (unfolds p)
  step_lift (in_fun s) c d = in_fun (step_lift s c d)
  step_lift (in_arg s) c d = in_arg (step_lift s c d)
  step_lift (in_pi s) c d = in_pi (step_lift s c d)
  step_lift (under_pi s) c d = under_pi (step_lift s (suc c) d)
  step_lift (in_lam s) c d = in_lam (step_lift s c d)
  step_lift (under_lam s) c d = under_lam (step_lift s (suc c) d)

  pub steps_lift : {t u : Term} → Steps e t u → (c d : ℕ) → Steps e (lift c d t) (lift c d u)
  steps_lift p c d = steps_map (lift c d) (λ t u s. step_lift s c d) p

  pub conv_lift : {t u : Term} → Conv e t u → (c d : ℕ) → Conv e (lift c d t) (lift c d u)
  conv_lift p c d = conv_map (lift c d) (λ t u s. step_lift s c d) p

  pub step_subst : {t u : Term} → Step e t u → (k : ℕ) (v : Term) → Step e (subst k v t) (subst k v u)
  step_subst (contracts {f} {a} {t} p) k v =
      contract-some e f a p
      (λ b m q r. contracts (rw (q, r) (ap some (sym (subst-subst m 0 k k (suc k) a v (omega arith) refl)))))
      (λ q. contracts (iota_contract e (subst k v f) (subst k v a) (subst k v t) (iota_subst k v e f a t q)))
  step_subst (unfolds {h} {t} p) k v = rw (scoped_subst t 0 k v (delta_closed e w h p) (omega arith)) (unfolds p)
  step_subst (in_fun s) k v = in_fun (step_subst s k v)
  step_subst (in_arg s) k v = in_arg (step_subst s k v)
  step_subst (in_pi s) k v = in_pi (step_subst s k v)
  step_subst (under_pi s) k v = under_pi (step_subst s (suc k) v)
  step_subst (in_lam s) k v = in_lam (step_subst s k v)
  step_subst (under_lam s) k v = under_lam (step_subst s (suc k) v)

  pub steps_subst : {t u : Term} → Steps e t u → (k : ℕ) (v : Term) → Steps e (subst k v t) (subst k v u)
  steps_subst p k v = steps_map (subst k v) (λ t u s. step_subst s k v) p

  pub conv_subst : {t u : Term} → Conv e t u → (k : ℕ) (v : Term) → Conv e (subst k v t) (subst k v u)
  conv_subst p k v = conv_map (subst k v) (λ t u s. step_subst s k v) p

  -- in the term that is put
  pub conv_subst_arg : (t : Term) (k : ℕ) {u v : Term} → Conv e u v → Conv e (subst k u t) (subst k v t)
  conv_subst_arg t k conv_refl = conv_refl
  conv_subst_arg t k (conv_step s p) = conv_trans (steps_conv (par_steps (par_subst w (par_refl t) k (step_par s)))) (conv_subst_arg t k p)
  conv_subst_arg t k (conv_back s p) = conv_trans (conv_sym (steps_conv (par_steps (par_subst w (par_refl t) k (step_par s))))) (conv_subst_arg t k p)

  -- simultaneous substitution
  pub step_subst_all : {t u : Term} → Step e t u → (us : List Term) (d : ℕ) → Step e (subst_all us d t) (subst_all us d u)
  step_subst_all (contracts {f} {a} {t} p) us d =
      contract-some e f a p
      (λ b m q r. contracts (rw (q, r) (ap some (sym (subst_all-subst m us 0 d d (suc d) a (omega arith) refl)))))
      (λ q. contracts (iota_contract e (subst_all us d f) (subst_all us d a) (subst_all us d t) (iota_subst_all us d e f a t q)))
  step_subst_all (unfolds {h} {t} p) us d = rw (scoped_subst_all t 0 d us (delta_closed e w h p) (omega arith)) (unfolds p)
  step_subst_all (in_fun s) us d = in_fun (step_subst_all s us d)
  step_subst_all (in_arg s) us d = in_arg (step_subst_all s us d)
  step_subst_all (in_pi s) us d = in_pi (step_subst_all s us d)
  step_subst_all (under_pi s) us d = under_pi (step_subst_all s us (suc d))
  step_subst_all (in_lam s) us d = in_lam (step_subst_all s us d)
  step_subst_all (under_lam s) us d = under_lam (step_subst_all s us (suc d))

  pub conv_subst_all : {t u : Term} → Conv e t u → (us : List Term) (d : ℕ) → Conv e (subst_all us d t) (subst_all us d u)
  conv_subst_all p us d = conv_map (subst_all us d) (λ t u s. step_subst_all s us d) p

  pw_conv_get : {us vs : List Term} → Pairwise (Conv e) us vs → (i d : ℕ) → Conv e (option (get_elem? us i) (sort 0) (lift 0 d)) (option (get_elem? vs i) (sort 0) (lift 0 d))
  pw_conv_get pw_end i d = conv_refl
  pw_conv_get (pw_more r q) zero d = conv_lift r 0 d
  pw_conv_get (pw_more r q) (suc i) d = pw_conv_get q i d

  -- in the terms that are put
  pub conv_subst_all_arg : {us vs : List Term} → Pairwise (Conv e) us vs → (d : ℕ) (t : Term) → Conv e (subst_all us d t) (subst_all vs d t)
  conv_subst_all_arg p d (var x) = cases_bool (ltb x d) (λ b. rw b conv_refl) (λ b. rw b (pw_conv_get p (x - d) d))
  conv_subst_all_arg p d (const h) = conv_refl
  conv_subst_all_arg p d (sort i) = conv_refl
  conv_subst_all_arg p d (pi a b) = conv_pi (conv_subst_all_arg p d a) (conv_subst_all_arg p (suc d) b)
  conv_subst_all_arg p d (lam a b) = conv_lam (conv_subst_all_arg p d a) (conv_subst_all_arg p (suc d) b)
  conv_subst_all_arg p d (app f a) = conv_app (conv_subst_all_arg p d f) (conv_subst_all_arg p d a)
