-- The steps of recursors and eliminations are stable under any relation that keeps quiet spines.
-- Instances: maps that commute with heads and application, as lift, subst and subst_all do.
use Rattle.std.proofs.Common.{◌≡◌, refl, sym, ap, ap₂, ◌∙◌, subst as tr, subst₂ as tr₂, List, [], ◌∷◌, ◌++◌, ℕ, zero, suc, ◌+◌, ◌-◌, ◌≤◌, ◌<◌, length, take, drop, length-append, arith, ne_eqb}
use mathlib.Core.Option.{some, none}
use lib.ListN.{get_elem?}
use Rattle.theory.specs.Terms.{Head, h_data, h_con, h_rec, h_eq, h_refl, h_along, Term, var, const, sort, pi, lam, app, lift, subst, subst_all, apps}
use Rattle.theory.specs.Environment.{DataType, Env, data_at}
use Rattle.theory.specs.Reduction.{spine, last_arg, app_each, iota_head, delta, rec_arity, case_place, case_args}
use Rattle.theory.proofs.Options.{none-some, some_inj}
use Rattle.theory.proofs.Iota.{iota, spine_head, spine-args, RecView, AlongView, IotaView, by_rec, by_along, iota_view, iota_by_rec, iota_by_along}

-- a head that does not reduce on up to n arguments
pub record Quiet (e : Env) (h : Head) (n : ℕ) : Type 0 where
  pub no_delta : delta e h ≡ none
  pub no_iota : (as₁ : List Term) → length as₁ ≤ n → iota_head e h as₁ ≡ none

pub quiet_less : {e : Env} {h : Head} {n m : ℕ} → Quiet e h n → m ≤ n → Quiet e h m
quiet_less q p = record { no_delta = q.no_delta; no_iota = λ as₁ l. q.no_iota as₁ (omega arith) }

pub quiet_con : (e : Env) (i k n : ℕ) → Quiet e (h_con i k) n
quiet_con e i k n = record { no_delta = refl; no_iota = λ as₁ l. refl }

pub quiet_data : (e : Env) (i n : ℕ) → Quiet e (h_data i) n
quiet_data e i n = record { no_delta = refl; no_iota = λ as₁ l. refl }

pub quiet_eq : (e : Env) (i n : ℕ) → Quiet e (h_eq i) n
quiet_eq e i n = record { no_delta = refl; no_iota = λ as₁ l. refl }

pub quiet_refl : (e : Env) (i n : ℕ) → Quiet e (h_refl i) n
quiet_refl e i n = record { no_delta = refl; no_iota = λ as₁ l. refl }

pub quiet_rec : (e : Env) (i j n : ℕ) {k : DataType} → data_at e i ≡ some k → n < rec_arity k → Quiet e (h_rec i j) n
quiet_rec e i j n {k} p l = record { no_delta = refl; no_iota = λ as₁ m. rw (p, ne_eqb (length as₁) (rec_arity k) (omega arith)) refl }

pub quiet_along : (e : Env) (i j n : ℕ) → n < 6 → Quiet e (h_along i j) n
quiet_along e i j n l = record { no_delta = refl; no_iota = λ as₁ m. rw (ne_eqb (length as₁) 6 (omega arith)) refl }

-- an application with a quiet spine takes no iota step
pub quiet_no_iota : (e : Env) (f a : Term) (h : Head) → (spine (app f a) []).head ≡ some h → Quiet e h (length (spine (app f a) []).args) → iota e f a ≡ none
quiet_no_iota e f a h p q = rw p (q.no_iota (spine (app f a) []).args (omega arith))

-- two lists of terms related one by one
pub data Pairwise (R : Term → Term → Type 0) : List Term → List Term → Type 0 where
  pw_end : Pairwise R [] []
  pw_more : {a b : Term} {as₁ bs : List Term} → R a b → Pairwise R as₁ bs → Pairwise R (a ∷ as₁) (b ∷ bs)

module _ {R : Term → Term → Type 0} where
  pub pw_length : {as₁ bs : List Term} → Pairwise R as₁ bs → length as₁ ≡ length bs
  pw_length pw_end = refl
  pw_length (pw_more r p) = ap suc (pw_length p)

  pub pw_append : {as₁ bs cs ds : List Term} → Pairwise R as₁ bs → Pairwise R cs ds → Pairwise R (as₁ ++ cs) (bs ++ ds)
  pw_append pw_end q = q
  pw_append (pw_more r p) q = pw_more r (pw_append p q)

  pub pw_get : {as₁ bs : List Term} → Pairwise R as₁ bs → (i : ℕ) {a : Term} → get_elem? as₁ i ≡ some a → (b : Term) × (get_elem? bs i ≡ some b) × R a b
  pw_get pw_end i p = none-some p
  pw_get (pw_more {b} r q) zero p = (b, refl, tr (λ z. R z b) (some_inj p) r)
  pw_get (pw_more r q) (suc i) p = pw_get q i p

  pub pw_last : {as₁ bs : List Term} → Pairwise R as₁ bs → {a : Term} → last_arg as₁ ≡ some a → (b : Term) × (last_arg bs ≡ some b) × R a b
  pw_last pw_end p = none-some p
  pw_last (pw_more {b} r pw_end) p = (b, refl, tr (λ z. R z b) (some_inj p) r)
  pw_last (pw_more r (pw_more s q)) p = pw_last (pw_more s q) p

  pub pw_take : {as₁ bs : List Term} → Pairwise R as₁ bs → (n : ℕ) → Pairwise R (take n as₁) (take n bs)
  pw_take pw_end zero = pw_end
  pw_take pw_end (suc n) = pw_end
  pw_take (pw_more r p) zero = pw_end
  pw_take (pw_more r p) (suc n) = pw_more r (pw_take p n)

  pub pw_drop : {as₁ bs : List Term} → Pairwise R as₁ bs → (n : ℕ) → Pairwise R (drop n as₁) (drop n bs)
  pw_drop pw_end zero = pw_end
  pw_drop pw_end (suc n) = pw_end
  pw_drop (pw_more r p) zero = pw_more r p
  pw_drop (pw_more r p) (suc n) = pw_drop p n

  -- one more argument of two spines
  pub spine_more : (f g a b : Term) (h : Head) → R a b → ((spine g []).head ≡ some h) × Pairwise R (spine f []).args (spine g []).args
      → ((spine (app g b) []).head ≡ some h) × Pairwise R (spine (app f a) []).args (spine (app g b) []).args
  spine_more f g a b h r p =
      (spine_head g (b ∷ []) ∙ p.0, tr₂ (Pairwise R) (sym (spine-args f (a ∷ []))) (sym (spine-args g (b ∷ []))) (pw_append p.1 (pw_more r pw_end)))

-- what a relation must keep: heads that do not unfold; application; the head and the arguments of a quiet spine
pub record Laws (e : Env) (R : Term → Term → Type 0) : Type 0 where
  pub heads : (h : Head) → delta e h ≡ none → R (const h) (const h)
  pub apply : (f g a b : Term) → R f g → R a b → R (app f a) (app g b)
  pub spines : (t u : Term) (h : Head) → R t u → (spine t []).head ≡ some h → Quiet e h (length (spine t []).args) → ((spine u []).head ≡ some h) × Pairwise R (spine t []).args (spine u []).args

module _ {e : Env} {R : Term → Term → Type 0} (laws : Laws e R) where
  pub stable_apps : {as₁ bs : List Term} → Pairwise R as₁ bs → (f g : Term) → R f g → R (apps f as₁) (apps g bs)
  stable_apps pw_end f g r = r
  stable_apps (pw_more {a} {b} s p) f g r = stable_apps p (app f a) (app g b) (laws.apply f g a b r s)

  pub stable_app_each : {as₁ bs : List Term} → Pairwise R as₁ bs → (f g : Term) → R f g → Pairwise R (app_each f as₁) (app_each g bs)
  stable_app_each pw_end f g r = pw_end
  stable_app_each (pw_more {a} {b} s p) f g r = pw_more (laws.apply f g a b r s) (stable_app_each p f g r)

  pub stable_rec : (i j : ℕ) {as₁ bs : List Term} {t : Term} → RecView e i j as₁ t → Pairwise R as₁ bs → (u : Term) × RecView e i j bs u × R t u
  stable_rec i j {as₁} {bs} {t} v p =
      let (s, last, rs) = pw_last p v.last in
      let (m, case, rm) = pw_get p (case_place v.k v.n) v.case in
      let (head, sp) = laws.spines v.s s (h_con i v.n) rs v.head (quiet_con e i v.n (length (spine v.s []).args)) in
      let n = length v.k.params + (1 + length v.k.cons) in
      let r : R (apps (const (h_rec i j)) (take n as₁)) (apps (const (h_rec i j)) (take n bs)) = stable_apps (pw_take p n) (const (h_rec i j)) (const (h_rec i j)) (laws.heads (h_rec i j) refl) in
      let fields = pw_drop sp (length v.k.params) in
      let found = stable_app_each (pw_drop sp (length v.k.params + length v.c.fields)) _ _ r in
      let args : Pairwise R (case_args i j v.k v.c as₁ (spine v.s []).args) (case_args i j v.k v.c bs (spine s []).args) = search (pw_append, fields, found) in (
        apps m (case_args i j v.k v.c bs (spine s []).args),
        record { k = v.k; at = v.at; len = sym (pw_length p) ∙ v.len; s = s; last = last; n = v.n; head = head; c = v.c; con = v.con; full = sym (pw_length sp) ∙ v.full; m = m; case = case; is = refl },
        tr (λ z. R z (apps m (case_args i j v.k v.c bs (spine s []).args))) (sym v.is) (stable_apps args v.m m rm),
      )

  pub stable_along : {as₁ bs : List Term} {t : Term} → AlongView as₁ t → Pairwise R as₁ bs → (u : Term) × AlongView bs u × R t u
  stable_along v p =
      let (s, last, rs) = pw_last p v.last in
      let (u, is, ru) = pw_get p 3 v.is in
      let (head, sp) = laws.spines v.s s (h_refl v.i) rs v.head (quiet_refl e v.i (length (spine v.s []).args)) in
      (u, record { len = sym (pw_length p) ∙ v.len; s = s; last = last; i = v.i; head = head; full = sym (pw_length sp) ∙ v.full; is = is }, ru)

  -- the arguments of f a, where the spine of f is quiet
  stable_spine : (f g a b : Term) (h : Head) → R f g → R a b → (spine (app f a) []).head ≡ some h → (n : ℕ) → length (spine (app f a) []).args ≡ suc n → Quiet e h n
      → ((spine (app g b) []).head ≡ some h) × Pairwise R (spine (app f a) []).args (spine (app g b) []).args
  stable_spine f g a b h r s p n l q =
      spine_more f g a b h s (laws.spines f g h r (sym (spine_head f (a ∷ [])) ∙ p) (quiet_less q (omega (arith, l, ap length (spine-args f (a ∷ [])), length-append (spine f []).args (a ∷ [])))))

  -- related applications take related iota steps
  pub stable_iota : (f g a b : Term) {t : Term} → iota e f a ≡ some t → R f g → R a b → (u : Term) × (iota e g b ≡ some u) × R t u
  stable_iota f g a b {t} p r s = go (iota_view e f a t p)
    where
      go : IotaView e f a t → (u : Term) × (iota e g b ≡ some u) × R t u
      go (by_rec i j h v) =
          let (head, sp) = stable_spine f g a b (h_rec i j) r s h (rec_arity v.k - 1) (v.len ∙ omega arith) (quiet_rec e i j _ v.at (omega arith)) in
          let (u, w, ru) = stable_rec i j v sp in
          (u, iota_by_rec e g b u i j head w, ru)
      go (by_along i j h v) =
          let (head, sp) = stable_spine f g a b (h_along i j) r s h 5 v.len (quiet_along e i j 5 (omega arith)) in
          let (u, w, ru) = stable_along v sp in
          (u, iota_by_along e g b u i j head w, ru)

-- a map that commutes with heads and application
module _ (φ : Term → Term) (on_head : (h : Head) → φ (const h) ≡ const h) (on_app : (f a : Term) → φ (app f a) ≡ app (φ f) (φ a)) where
  map_spine : (t : Term) (h : Head) → (spine t []).head ≡ some h → ((spine (φ t) []).head ≡ some h) × Pairwise (λ t u. u ≡ φ t) (spine t []).args (spine (φ t) []).args
  map_spine (var x) h p = none-some p
  map_spine (const k) h p = rw (on_head k) (p, pw_end)
  map_spine (sort i) h p = none-some p
  map_spine (pi a b) h p = none-some p
  map_spine (lam a b) h p = none-some p
  map_spine (app f a) h p = rw (on_app f a) (spine_more f (φ f) a (φ a) h refl (map_spine f h (sym (spine_head f (a ∷ [])) ∙ p)))

  pub map_laws : (e : Env) → Laws e (λ t u. u ≡ φ t)
  map_laws e = record {
    heads = λ h p. sym (on_head h);
    apply = λ f g a b p q. ap₂ app p q ∙ sym (on_app f a);
    spines = λ t u h p q r. tr (λ z. ((spine z []).head ≡ some h) × Pairwise (λ t u. u ≡ φ t) (spine t []).args (spine z []).args) (sym p) (map_spine t h q);
  }

  pub iota_map : (e : Env) (f a t : Term) → iota e f a ≡ some t → iota e (φ f) (φ a) ≡ some (φ t)
  iota_map e f a t p = let (u, q, r) = stable_iota (map_laws e) f (φ f) a (φ a) p refl refl in q ∙ ap some r

pub iota_lift : (c d : ℕ) (e : Env) (f a t : Term) → iota e f a ≡ some t → iota e (lift c d f) (lift c d a) ≡ some (lift c d t)
iota_lift c d = iota_map (lift c d) (λ h. refl) (λ f a. refl)

pub iota_subst : (k : ℕ) (u : Term) (e : Env) (f a t : Term) → iota e f a ≡ some t → iota e (subst k u f) (subst k u a) ≡ some (subst k u t)
iota_subst k u = iota_map (subst k u) (λ h. refl) (λ f a. refl)

pub iota_subst_all : (us : List Term) (d : ℕ) (e : Env) (f a t : Term) → iota e f a ≡ some t → iota e (subst_all us d f) (subst_all us d a) ≡ some (subst_all us d t)
iota_subst_all us d = iota_map (subst_all us d) (λ h. refl) (λ f a. refl)
