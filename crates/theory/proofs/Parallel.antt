-- Parallel reduction: any number of redexes of a term contracted at once.
-- It is stable under lift and subst, keeps quiet spines, and every term has one reduct that all its reducts come to.
use Rattle.std.proofs.Common.{◌≡◌, refl, sym, ap, ◌∙◌, subst as tr, [], ◌∷◌, ℕ, suc, length, length-append, eqb, ltb, arith}
use mathlib.Core.Option.{some, none}
use Rattle.theory.specs.Terms.{Head, Term, var, const, sort, pi, lam, app, lift, subst}
use Rattle.theory.specs.Environment.{Env}
use Rattle.theory.specs.Reduction.{spine, beta, delta}
use Rattle.theory.specs.Typing.{WfEnv}
use Rattle.theory.proofs.Options.{none-some, some-none, some_inj, cases_option, cases_bool}
use Rattle.theory.proofs.Indices.{lift-subst, subst-subst}
use Rattle.theory.proofs.Closed.{scoped_lift, scoped_subst, delta_closed}
use Rattle.theory.proofs.Iota.{iota, spine_head, spine-args}
use Rattle.theory.proofs.IotaStable.{Quiet, quiet_less, quiet_no_iota, Pairwise, pw_end, spine_more, Laws, stable_iota, iota_lift, iota_subst}

pub data Par (e : Env) : Term → Term → Type 0 where
  p_var : {x : ℕ} → Par e (var x) (var x)
  p_const : {h : Head} → Par e (const h) (const h)
  p_sort : {i : ℕ} → Par e (sort i) (sort i)
  p_pi : {a b c d : Term} → Par e a c → Par e b d → Par e (pi a b) (pi c d)
  p_lam : {a b c d : Term} → Par e a c → Par e b d → Par e (lam a b) (lam c d)
  p_app : {f g a b : Term} → Par e f g → Par e a b → Par e (app f a) (app g b)
  p_beta : {b c d a x : Term} → Par e c d → Par e a x → Par e (app (lam b c) a) (subst 0 x d)
  p_iota : {f g a b s t : Term} → Par e f g → Par e a b → iota e f a ≡ some s → iota e g b ≡ some t → Par e (app f a) t
  p_delta : {h : Head} {t : Term} → delta e h ≡ some t → Par e (const h) t

pub par_refl : {e : Env} (t : Term) → Par e t t
par_refl (var x) = p_var
par_refl (const h) = p_const
par_refl (sort i) = p_sort
par_refl (pi a b) = p_pi (par_refl a) (par_refl b)
par_refl (lam a b) = p_lam (par_refl a) (par_refl b)
par_refl (app f a) = p_app (par_refl f) (par_refl a)

-- parallel reduction keeps quiet spines, so that iota steps are stable under it
par_spine : {e : Env} {t u : Term} → Par e t u → (h : Head) → (spine t []).head ≡ some h → Quiet e h (length (spine t []).args)
    → ((spine u []).head ≡ some h) × Pairwise (Par e) (spine t []).args (spine u []).args
par_spine p_var h p q = none-some p
par_spine p_const h p q = (p, pw_end)
par_spine p_sort h p q = none-some p
par_spine (p_pi x y) h p q = none-some p
par_spine (p_lam x y) h p q = none-some p
par_spine (p_app {f} {g} {a} {b} x y) h p q =
    spine_more f g a b h y (par_spine x h (sym (spine_head f (a ∷ [])) ∙ p) (quiet_less q (omega (arith, ap length (spine-args f (a ∷ [])), length-append (spine f []).args (a ∷ [])))))
par_spine (p_beta x y) h p q = none-some p
par_spine {e} (p_iota {f} {a} x y r s) h p q = none-some (sym (quiet_no_iota e f a h p q) ∙ r)
par_spine {e} (p_delta r) h p q = none-some (sym q.no_delta ∙ ap (delta e) (sym (some_inj p)) ∙ r)

pub par_laws : (e : Env) → Laws e (Par e)
par_laws e = record { heads = λ h p. p_const; apply = λ f g a b x y. p_app x y; spines = λ t u h x p q. par_spine x h p q }

module _ {e : Env} (w : WfEnv e) where
  pub par_lift : {t u : Term} → Par e t u → (c d : ℕ) → Par e (lift c d t) (lift c d u)
  par_lift (p_var {x}) c d = par_refl (lift c d (var x))
  par_lift p_const c d = p_const
  par_lift p_sort c d = p_sort
  par_lift (p_pi x y) c d = p_pi (par_lift x c d) (par_lift y (suc c) d)
  par_lift (p_lam x y) c d = p_lam (par_lift x c d) (par_lift y (suc c) d)
  par_lift (p_app x y) c d = p_app (par_lift x c d) (par_lift y c d)
  par_lift (p_beta {b} {c = m} {d = n} {a} {x} p q) c d =
      tr (Par e (app (lam (lift c d b) (lift (suc c) d m)) (lift c d a))) (sym (lift-subst n 0 c d c (suc c) x (omega arith) refl)) (p_beta (par_lift p (suc c) d) (par_lift q c d))
  par_lift (p_iota {f} {g} {a} {b} {s} {t} x y p q) c d = p_iota (par_lift x c d) (par_lift y c d) (iota_lift c d e f a s p) (iota_lift c d e g b t q)
  par_lift (p_delta {h} {t} p) c d = rw (scoped_lift t 0 c d (delta_closed e w h p) (omega arith)) (p_delta p)

  par_subst_var : (x k : ℕ) {u v : Term} → Par e u v → Par e (subst k u (var x)) (subst k v (var x))
  par_subst_var x k p = cases_bool (ltb x k) (λ b. rw b p_var) (λ b. cases_bool (eqb x k) (λ c. rw (b, c) (par_lift p 0 k)) (λ c. rw (b, c) p_var))

  pub par_subst : {t r : Term} → Par e t r → (k : ℕ) {u v : Term} → Par e u v → Par e (subst k u t) (subst k v r)
  par_subst (p_var {x}) k z = par_subst_var x k z
  par_subst p_const k z = p_const
  par_subst p_sort k z = p_sort
  par_subst (p_pi x y) k z = p_pi (par_subst x k z) (par_subst y (suc k) z)
  par_subst (p_lam x y) k z = p_lam (par_subst x k z) (par_subst y (suc k) z)
  par_subst (p_app x y) k z = p_app (par_subst x k z) (par_subst y k z)
  par_subst (p_beta {b} {c} {d} {a} {x} p q) k {u} {v} z =
      tr (Par e (app (lam (subst k u b) (subst (suc k) u c)) (subst k u a))) (sym (subst-subst d 0 k k (suc k) x v (omega arith) refl)) (p_beta (par_subst p (suc k) z) (par_subst q k z))
  par_subst (p_iota {f} {g} {a} {b} {s} {t} x y p q) k {u} {v} z =
      p_iota (par_subst x k z) (par_subst y k z) (iota_subst k u e f a s p) (iota_subst k v e g b t q)
  par_subst (p_delta {h} {t} p) k {u} {v} z = rw (scoped_subst t 0 k v (delta_closed e w h p) (omega arith)) (p_delta p)

  -- the reduct of t that all its reducts come to
  abbrev pub Complete : Term → Type 0
  Complete t = (v : Term) × ((u : Term) → Par e t u → Par e u v)

  complete_var : (x : ℕ) {u : Term} → Par e (var x) u → Par e u (var x)
  complete_var x p_var = p_var

  complete_sort : (i : ℕ) {u : Term} → Par e (sort i) u → Par e u (sort i)
  complete_sort i p_sort = p_sort

  complete_unfolds : (h : Head) {t u : Term} → delta e h ≡ some t → Par e (const h) u → Par e u t
  complete_unfolds h p p_const = p_delta p
  complete_unfolds h {t} p (p_delta q) = tr (λ z. Par e z t) (some_inj (sym p ∙ q)) (par_refl t)

  complete_stays : (h : Head) {u : Term} → delta e h ≡ none → Par e (const h) u → Par e u (const h)
  complete_stays h p p_const = p_const
  complete_stays h p (p_delta q) = none-some (sym p ∙ q)

  complete_pi : (a b : Term) (p : Complete a) (q : Complete b) {u : Term} → Par e (pi a b) u → Par e u (pi p.0 q.0)
  complete_pi a b p q (p_pi {c} {d} x y) = p_pi (p.1 c x) (q.1 d y)

  complete_lam : (a b : Term) (p : Complete a) (q : Complete b) {u : Term} → Par e (lam a b) u → Par e u (lam p.0 q.0)
  complete_lam a b p q (p_lam {c} {d} x y) = p_lam (p.1 c x) (q.1 d y)

  complete_beta : (b c a : Term) (p : Complete c) (q : Complete a) {u : Term} → Par e (app (lam b c) a) u → Par e u (subst 0 q.0 p.0)
  complete_beta b c a p q (p_app {b = d} (p_lam {d = m} x y) z) = p_beta (p.1 m y) (q.1 d z)
  complete_beta b c a p q (p_beta {d} {x} y z) = par_subst (p.1 d y) 0 (q.1 x z)
  complete_beta b c a p q (p_iota x y r s) = none-some r

  complete_iota : (f a : Term) (p : Complete f) (q : Complete a) (s v : Term) → beta f a ≡ none → iota e f a ≡ some s → iota e p.0 q.0 ≡ some v → {u : Term} → Par e (app f a) u → Par e u v
  complete_iota f a p q s v n r t (p_app {g} {b} x y) =
      let (z, i, k) = stable_iota (par_laws e) f g a b r x y in p_iota (p.1 g x) (q.1 b y) i t
  complete_iota f a p q s v n r t (p_beta x y) = some-none n
  complete_iota f a p q s v n r t (p_iota {g} {b} {t = m} x y i j) =
      let (z, k, l) = stable_iota (par_laws e) g p.0 b q.0 j (p.1 g x) (q.1 b y) in tr (Par e m) (some_inj (sym k ∙ t)) l

  complete_plain : (f a : Term) (p : Complete f) (q : Complete a) → beta f a ≡ none → iota e f a ≡ none → {u : Term} → Par e (app f a) u → Par e u (app p.0 q.0)
  complete_plain f a p q n r (p_app {g} {b} x y) = p_app (p.1 g x) (q.1 b y)
  complete_plain f a p q n r (p_beta x y) = some-none n
  complete_plain f a p q n r (p_iota x y i j) = none-some (sym r ∙ i)

  complete_app : (f a : Term) → beta f a ≡ none → Complete f → Complete a → Complete (app f a)
  complete_app f a n p q =
      cases_option (iota e f a) (λ r. (app p.0 q.0, λ u x. complete_plain f a p q n r x))
      (λ s r. let (v, t, k) = stable_iota (par_laws e) f p.0 a q.0 r (p.1 f (par_refl f)) (q.1 a (par_refl a)) in (v, λ u x. complete_iota f a p q s v n r t x))

  pub complete : (t : Term) → Complete t
  complete (var x) = (var x, λ u p. complete_var x p)
  complete (const h) = cases_option (delta e h) (λ p. (const h, λ u x. complete_stays h p x)) (λ t p. (t, λ u x. complete_unfolds h p x))
  complete (sort i) = (sort i, λ u p. complete_sort i p)
  complete (pi a b) = (pi (complete a).0 (complete b).0, λ u p. complete_pi a b (complete a) (complete b) p)
  complete (lam a b) = (lam (complete a).0 (complete b).0, λ u p. complete_lam a b (complete a) (complete b) p)
  complete (app (var x) a) = complete_app (var x) a refl (complete (var x)) (complete a)
  complete (app (const h) a) = complete_app (const h) a refl (complete (const h)) (complete a)
  complete (app (sort i) a) = complete_app (sort i) a refl (complete (sort i)) (complete a)
  complete (app (pi b c) a) = complete_app (pi b c) a refl (complete (pi b c)) (complete a)
  complete (app (lam b c) a) = (subst 0 (complete a).0 (complete c).0, λ u p. complete_beta b c a (complete c) (complete a) p)
  complete (app (app f b) a) = complete_app (app f b) a refl (complete (app f b)) (complete a)
