-- Convertible function types have convertible parts, convertible sorts are equal, and no function type converts to a sort.
-- Convertible spines with quiet heads have the same head and convertible arguments.
use Rattle.std.proofs.Common.{◌≡◌, refl, sym, ap, ◌∙◌, subst as tr, subst₂ as tr₂, List, [], ◌∷◌, append-nil, ℕ, length, arith}
use mathlib.Core.Option.{some}
use Rattle.theory.specs.Terms.{Head, h_data, h_con, h_eq, Term, const, sort, pi, apps}
use Rattle.theory.specs.Environment.{Env, eq_of}
use Rattle.theory.specs.Reduction.{Spine, spine, in_pi, under_pi, Steps, no_steps, a_step, Conv, conv_refl}
use Rattle.theory.specs.Typing.{WfEnv}
use Rattle.theory.proofs.Options.{none-some, some_inj}
use Rattle.theory.proofs.Iota.{spine-apps}
use Rattle.theory.proofs.IotaStable.{Quiet, quiet_data, quiet_con, quiet_eq, Pairwise, pw_end, pw_more, pw_length}
use Rattle.theory.proofs.Parallel.{par_laws}
use Rattle.theory.proofs.Confluence.{step_par, par_steps, joins}
use Rattle.theory.proofs.Conversion.{conv_trans, conv_sym, steps_conv, steps_join}

-- lists related one by one
pub pw_map : {R S : Term → Term → Type 0} → ((a b : Term) → R a b → S a b) → {as₁ bs : List Term} → Pairwise R as₁ bs → Pairwise S as₁ bs
pw_map k pw_end = pw_end
pw_map k (pw_more {a} {b} r p) = pw_more (k a b r) (pw_map k p)

module _ {e : Env} where
  pub pw_conv_refl : (as₁ : List Term) → Pairwise (Conv e) as₁ as₁
  pw_conv_refl [] = pw_end
  pw_conv_refl (a ∷ as₁) = pw_more conv_refl (pw_conv_refl as₁)

  pub pw_conv_trans : {as₁ bs cs : List Term} → Pairwise (Conv e) as₁ bs → Pairwise (Conv e) bs cs → Pairwise (Conv e) as₁ cs
  pw_conv_trans pw_end pw_end = pw_end
  pw_conv_trans (pw_more p ps) (pw_more q qs) = pw_more (conv_trans p q) (pw_conv_trans ps qs)

  pub pw_conv_sym : {as₁ bs : List Term} → Pairwise (Conv e) as₁ bs → Pairwise (Conv e) bs as₁
  pw_conv_sym pw_end = pw_end
  pw_conv_sym (pw_more p ps) = pw_more (conv_sym p) (pw_conv_sym ps)

  -- steps of function types and sorts
  pub pi_steps : {a b v : Term} → Steps e (pi a b) v → (c d : Term) × (v ≡ pi c d) × Steps e a c × Steps e b d
  pi_steps {a} {b} no_steps = (a, b, refl, no_steps, no_steps)
  pi_steps (a_step (in_pi s) q) = let (c, d, p, x, y) = pi_steps q in (c, d, p, a_step s x, y)
  pi_steps (a_step (under_pi s) q) = let (c, d, p, x, y) = pi_steps q in (c, d, p, x, a_step s y)

  pub sort_steps : {i : ℕ} {v : Term} → Steps e (sort i) v → v ≡ sort i
  sort_steps no_steps = refl
  sort_steps (a_step s q) = elim s [ ]

  -- steps of a quiet spine are steps of its arguments
  pub spine_steps : {t v : Term} → Steps e t v → (h : Head) → (spine t []).head ≡ some h → Quiet e h (length (spine t []).args)
      → ((spine v []).head ≡ some h) × Pairwise (Conv e) (spine t []).args (spine v []).args
  spine_steps (no_steps {t}) h p q = (p, pw_conv_refl (spine t []).args)
  spine_steps (a_step {t} {u} s r) h p q =
      let (head, ps) = (par_laws e).spines t u h (step_par s) p q in
      let (last, qs) = spine_steps r h head (tr (Quiet e h) (pw_length ps) q) in
      (last, pw_conv_trans (pw_map (λ a b x. steps_conv (par_steps x)) ps) qs)

-- the spine of a head applied to arguments
pub spine-apps-head : (h : Head) (as₁ : List Term) → (spine (apps (const h) as₁) []).head ≡ some h
spine-apps-head h as₁ = ap (λ (s : Spine). s.head) (spine-apps (const h) as₁ [])

pub spine-apps-args : (h : Head) (as₁ : List Term) → (spine (apps (const h) as₁) []).args ≡ as₁
spine-apps-args h as₁ = ap (λ (s : Spine). s.args) (spine-apps (const h) as₁ []) ∙ append-nil as₁

-- a function type is no sort
pi_sort_apart : {D : Type 0} {a b : Term} {i : ℕ} → pi a b ≡ sort i → D
pi_sort_apart p = absurd (let z : ◌≡◌ {A = ℕ} 0 1 = cc in omega arith)

module _ {e : Env} (w : WfEnv e) where
  pub pi_inj : {a b c d : Term} → Conv e (pi a b) (pi c d) → Conv e a c × Conv e b d
  pi_inj s =
      let (v, p, q) = joins w s in
      let (x, y, r, k, l) = pi_steps p in
      let (x₁, y₁, r₁, k₁, l₁) = pi_steps q in
      let i : x₁ ≡ x = cc in
      let j : y₁ ≡ y = cc in
      (steps_join k (tr (Steps e _) i k₁), steps_join l (tr (Steps e _) j l₁))

  pub sort_inj : {i j : ℕ} → Conv e (sort i) (sort j) → i ≡ j
  sort_inj s = let (v, p, q) = joins w s in let x = sort_steps p in let y = sort_steps q in cc

  pub pi_not_sort : {D : Type 0} {a b : Term} {i : ℕ} → Conv e (pi a b) (sort i) → D
  pi_not_sort s = let (v, p, q) = joins w s in let (x, y, r, k, l) = pi_steps p in pi_sort_apart (sym r ∙ sort_steps q)

  pub spine_inj : {t u : Term} → Conv e t u → (h k : Head) → (spine t []).head ≡ some h → Quiet e h (length (spine t []).args) → (spine u []).head ≡ some k → Quiet e k (length (spine u []).args)
      → (h ≡ k) × Pairwise (Conv e) (spine t []).args (spine u []).args
  spine_inj s h k p q r x =
      let (v, m, n) = joins w s in
      let (i, ps) = spine_steps m h p q in
      let (j, qs) = spine_steps n k r x in
      (some_inj (sym i ∙ j), pw_conv_trans ps (pw_conv_sym qs))

  -- a spine with a quiet head is neither a function type nor a sort
  pub pi_not_spine : {D : Type 0} {a b t : Term} → Conv e (pi a b) t → (h : Head) → (spine t []).head ≡ some h → Quiet e h (length (spine t []).args) → D
  pi_not_spine s h p q =
      let (v, m, n) = joins w s in
      let (x, y, r, k, l) = pi_steps m in
      let (i, ps) = spine_steps n h p q in none-some (sym (ap (λ (t : Term). (spine t []).head) r) ∙ i)

  pub sort_not_spine : {D : Type 0} {i : ℕ} {t : Term} → Conv e (sort i) t → (h : Head) → (spine t []).head ≡ some h → Quiet e h (length (spine t []).args) → D
  sort_not_spine s h p q =
      let (v, m, n) = joins w s in
      let (i, ps) = spine_steps n h p q in none-some (sym (ap (λ (t : Term). (spine t []).head) (sort_steps m)) ∙ i)

  -- heads applied to arguments
  apps_inj : (h k : Head) (as₁ bs : List Term) → ((n : ℕ) → Quiet e h n) → ((n : ℕ) → Quiet e k n) → Conv e (apps (const h) as₁) (apps (const k) bs) → (h ≡ k) × Pairwise (Conv e) as₁ bs
  apps_inj h k as₁ bs x y s =
      let (p, q) = spine_inj s h k (spine-apps-head h as₁) (x _) (spine-apps-head k bs) (y _) in
      (p, tr₂ (Pairwise (Conv e)) (spine-apps-args h as₁) (spine-apps-args k bs) q)

  pub data_inj : (i j : ℕ) (as₁ bs : List Term) → Conv e (apps (const (h_data i)) as₁) (apps (const (h_data j)) bs) → (i ≡ j) × Pairwise (Conv e) as₁ bs
  data_inj i j as₁ bs s = let (p, q) = apps_inj (h_data i) (h_data j) as₁ bs (quiet_data e i) (quiet_data e j) s in ((cc), q)

  pub con_inj : (i j k l : ℕ) (as₁ bs : List Term) → Conv e (apps (const (h_con i k)) as₁) (apps (const (h_con j l)) bs) → (i ≡ j) × (k ≡ l) × Pairwise (Conv e) as₁ bs
  con_inj i j k l as₁ bs s = let (p, q) = apps_inj (h_con i k) (h_con j l) as₁ bs (quiet_con e i k) (quiet_con e j l) s in ((cc), (cc), q)

  pub eq_inj : {i j : ℕ} {a b x y z u : Term} → Conv e (eq_of i a x y) (eq_of j b z u) → (i ≡ j) × Conv e a b × Conv e x z × Conv e y u
  eq_inj {i} {j} {a} {b} {x} {y} {z} {u} s =
      let (p, q) = apps_inj (h_eq i) (h_eq j) (a ∷ x ∷ y ∷ []) (b ∷ z ∷ u ∷ []) (quiet_eq e i) (quiet_eq e j) s in
      three q (λ k l m. ((cc), k, l, m))
    where
      three : {D : Type 0} → Pairwise (Conv e) (a ∷ x ∷ y ∷ []) (b ∷ z ∷ u ∷ []) → (Conv e a b → Conv e x z → Conv e y u → D) → D
      three (pw_more k (pw_more l (pw_more m pw_end))) f = f k l m
