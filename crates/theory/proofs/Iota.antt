-- The steps of recursors and eliminations: iota, which is contract without beta.
-- Two views say when a recursor or an elimination reduces, one field for each test.
use Rattle.std.proofs.Common.{◌≡◌, refl, sym, ap, ◌∙◌, true, List, [], ◌∷◌, ◌++◌, append_assoc, ℕ, ◌+◌, length, eqb-true, eq-eqb}
use mathlib.Core.Option.{Option, some, none}
use lib.ListN.{get_elem?}
use Rattle.theory.specs.Terms.{Head, h_def, h_data, h_con, h_rec, h_eq, h_refl, h_along, Term, var, const, sort, pi, lam, app, subst, apps}
use Rattle.theory.specs.Environment.{Constructor, DataType, Env, data_at}
use Rattle.theory.specs.Reduction.{bind, spine, ConAt, con_of, is_refl, last_arg, rec_arity, case_place, case_args, iota_rec, iota_along, iota_head, beta, contract}
use Rattle.theory.proofs.Options.{none-some, some_inj, false-true, bind-some, cond-some, cond-eqb, and_true, or_else_some}

-- what the application f a reduces to as a recursor or an elimination
abbrev pub iota : Env → Term → Term → Option Term
iota e f a = bind (spine (app f a) []).head (λ h. iota_head e h (spine (app f a) []).args)

-- the spine behind further arguments
pub spine_head : (t : Term) (as₁ : List Term) → (spine t as₁).head ≡ (spine t []).head
spine_head (var x) as₁ = refl
spine_head (const h) as₁ = refl
spine_head (sort i) as₁ = refl
spine_head (pi a b) as₁ = refl
spine_head (lam a b) as₁ = refl
spine_head (app f a) as₁ = spine_head f (a ∷ as₁) ∙ sym (spine_head f (a ∷ []))

pub spine-args : (t : Term) (as₁ : List Term) → (spine t as₁).args ≡ (spine t []).args ++ as₁
spine-args (var x) as₁ = refl
spine-args (const h) as₁ = refl
spine-args (sort i) as₁ = refl
spine-args (pi a b) as₁ = refl
spine-args (lam a b) as₁ = refl
spine-args (app f a) as₁ = spine-args f (a ∷ as₁) ∙ sym (append_assoc (spine f []).args (a ∷ []) as₁) ∙ ap (λ (r : List Term). r ++ as₁) (sym (spine-args f (a ∷ [])))

-- a spine with a head is that head applied to its arguments
pub spine_is : (t : Term) (as₁ : List Term) {h : Head} → (spine t as₁).head ≡ some h → apps t as₁ ≡ apps (const h) (spine t as₁).args
spine_is (var x) as₁ p = none-some p
spine_is (const h) as₁ p = ap (λ (z : Head). apps (const z) as₁) (some_inj p)
spine_is (sort i) as₁ p = none-some p
spine_is (pi a b) as₁ p = none-some p
spine_is (lam a b) as₁ p = none-some p
spine_is (app f a) as₁ p = spine_is f (a ∷ as₁) p

pub spine-apps : (t : Term) (as₁ bs : List Term) → spine (apps t as₁) bs ≡ spine t (as₁ ++ bs)
spine-apps t [] bs = refl
spine-apps t (a ∷ as₁) bs = spine-apps (app t a) as₁ bs

pub last_append : (as₁ : List Term) (a : Term) → last_arg (as₁ ++ (a ∷ [])) ≡ some a
last_append [] a = refl
last_append (b ∷ []) a = refl
last_append (b ∷ c ∷ as₁) a = last_append (c ∷ as₁) a

-- recursor i, j applied to as₁ reduces to t
pub record RecView (e : Env) (i j : ℕ) (as₁ : List Term) (t : Term) : Type 0 where
  pub k : DataType
  pub at : data_at e i ≡ some k
  pub len : length as₁ ≡ rec_arity k
  pub s : Term
  pub last : last_arg as₁ ≡ some s
  pub n : ℕ
  pub head : (spine s []).head ≡ some (h_con i n)
  pub c : Constructor
  pub con : get_elem? k.cons n ≡ some c
  pub full : length (spine s []).args ≡ length k.params + (length c.fields + c.recs)
  pub m : Term
  pub case : get_elem? as₁ (case_place k n) ≡ some m
  pub is : t ≡ apps m (case_args i j k c as₁ (spine s []).args)

-- elimination applied to as₁ reduces to t
pub record AlongView (as₁ : List Term) (t : Term) : Type 0 where
  pub len : length as₁ ≡ 6
  pub s : Term
  pub last : last_arg as₁ ≡ some s
  pub i : ℕ
  pub head : (spine s []).head ≡ some (h_refl i)
  pub full : length (spine s []).args ≡ 2
  pub is : get_elem? as₁ 3 ≡ some t

con_of-some : {D : Type 0} (h : Head) {c : ConAt} → con_of h ≡ some c → (h ≡ h_con c.index c.con → D) → D
con_of-some (h_def i) p k = none-some p
con_of-some (h_data i) p k = none-some p
con_of-some (h_con i n) p k = k (ap (λ (z : ConAt). h_con z.index z.con) (some_inj p))
con_of-some (h_rec i j) p k = none-some p
con_of-some (h_eq i) p k = none-some p
con_of-some (h_refl i) p k = none-some p
con_of-some (h_along i j) p k = none-some p

is_refl-true : {D : Type 0} (h : Head) → is_refl h ≡ true → ((i : ℕ) → h ≡ h_refl i → D) → D
is_refl-true (h_def i) p k = false-true p
is_refl-true (h_data i) p k = false-true p
is_refl-true (h_con i n) p k = false-true p
is_refl-true (h_rec i j) p k = false-true p
is_refl-true (h_eq i) p k = false-true p
is_refl-true (h_refl i) p k = k i refl
is_refl-true (h_along i j) p k = false-true p

pub rec_view : (e : Env) (i j : ℕ) (as₁ : List Term) (t : Term) → iota_rec e i j as₁ ≡ some t → RecView e i j as₁ t
rec_view e i j as₁ t p =
    bind-some (data_at e i) _ p λ k at p₁. cond-eqb _ _ _ p₁ λ len p₂.
    bind-some (last_arg as₁) _ p₂ λ s last p₃. bind-some (spine s []).head _ p₃ λ h head p₄. bind-some (con_of h) _ p₄ λ x con_is p₅.
    con_of-some h con_is λ h_is. cond-eqb _ _ _ p₅ λ same p₆. bind-some (get_elem? k.cons x.con) _ p₆ λ c con p₇. cond-eqb _ _ _ p₇ λ full p₈.
    bind-some (get_elem? as₁ (case_place k x.con)) _ p₈ λ m case p₉.
    record { k = k; at = at; len = len; s = s; last = last; n = x.con; head = head ∙ ap some (h_is ∙ ap (λ (z : ℕ). h_con z x.con) (sym same)); c = c; con = con; full = full; m = m; case = case; is = sym (some_inj p₉) }

pub rec_view_out : (e : Env) (i j : ℕ) (as₁ : List Term) (t : Term) → RecView e i j as₁ t → iota_rec e i j as₁ ≡ some t
rec_view_out e i j as₁ t v =
    rw (v.at, eq-eqb _ _ v.len, v.last, v.head, eq-eqb i i refl, v.con, eq-eqb _ _ v.full, v.case, ← v.is) refl

pub along_view : (as₁ : List Term) (t : Term) → iota_along as₁ ≡ some t → AlongView as₁ t
along_view as₁ t p =
    cond-eqb _ _ _ p λ len p₁. bind-some (last_arg as₁) _ p₁ λ s last p₂. bind-some (spine s []).head _ p₂ λ h head p₃. cond-some _ _ p₃ λ b p₄.
    and_true (is_refl h) _ b λ r f. is_refl-true h r λ i h_is.
    record { len = len; s = s; last = last; i = i; head = head ∙ ap some h_is; full = eqb-true _ _ f; is = p₄ }

pub along_view_out : (as₁ : List Term) (t : Term) → AlongView as₁ t → iota_along as₁ ≡ some t
along_view_out as₁ t v = rw (eq-eqb _ _ v.len, v.last, v.head, eq-eqb _ _ v.full) v.is

-- f a reduces to t as a recursor or as an elimination
pub data IotaView (e : Env) (f a t : Term) : Type 0 where
  by_rec : (i j : ℕ) → (spine (app f a) []).head ≡ some (h_rec i j) → RecView e i j (spine (app f a) []).args t → IotaView e f a t
  by_along : (i j : ℕ) → (spine (app f a) []).head ≡ some (h_along i j) → AlongView (spine (app f a) []).args t → IotaView e f a t

iota_view_at : (e : Env) (f a t : Term) (h : Head) → (spine (app f a) []).head ≡ some h → iota_head e h (spine (app f a) []).args ≡ some t → IotaView e f a t
iota_view_at e f a t (h_def i) q p = none-some p
iota_view_at e f a t (h_data i) q p = none-some p
iota_view_at e f a t (h_con i k) q p = none-some p
iota_view_at e f a t (h_rec i j) q p = by_rec i j q (rec_view e i j _ t p)
iota_view_at e f a t (h_eq i) q p = none-some p
iota_view_at e f a t (h_refl i) q p = none-some p
iota_view_at e f a t (h_along i j) q p = by_along i j q (along_view _ t p)

pub iota_view : (e : Env) (f a t : Term) → iota e f a ≡ some t → IotaView e f a t
iota_view e f a t p = bind-some (spine (app f a) []).head _ p λ h q r. iota_view_at e f a t h q r

pub iota_by_rec : (e : Env) (f a t : Term) (i j : ℕ) → (spine (app f a) []).head ≡ some (h_rec i j) → RecView e i j (spine (app f a) []).args t → iota e f a ≡ some t
iota_by_rec e f a t i j q v = rw q (rec_view_out e i j _ t v)

pub iota_by_along : (e : Env) (f a t : Term) (i j : ℕ) → (spine (app f a) []).head ≡ some (h_along i j) → AlongView (spine (app f a) []).args t → iota e f a ≡ some t
iota_by_along e f a t i j q v = rw q (along_view_out _ t v)

pub iota_view_out : (e : Env) (f a t : Term) → IotaView e f a t → iota e f a ≡ some t
iota_view_out e f a t (by_rec i j q v) = iota_by_rec e f a t i j q v
iota_view_out e f a t (by_along i j q v) = iota_by_along e f a t i j q v

-- contract is beta or iota
pub iota_no_beta : (e : Env) (f a : Term) {t : Term} → iota e f a ≡ some t → beta f a ≡ none
iota_no_beta e (var x) a p = refl
iota_no_beta e (const h) a p = refl
iota_no_beta e (sort i) a p = refl
iota_no_beta e (pi b c) a p = refl
iota_no_beta e (lam b c) a p = none-some p
iota_no_beta e (app f b) a p = refl

pub iota_contract : (e : Env) (f a t : Term) → iota e f a ≡ some t → contract e f a ≡ some t
iota_contract e f a t p = rw (iota_no_beta e f a p) p

pub beta-some : {D : Type 0} (f a : Term) {t : Term} → beta f a ≡ some t → ((b c : Term) → f ≡ lam b c → t ≡ subst 0 a c → D) → D
beta-some (var x) a p k = none-some p
beta-some (const h) a p k = none-some p
beta-some (sort i) a p k = none-some p
beta-some (pi b c) a p k = none-some p
beta-some (lam b c) a p k = k b c refl (sym (some_inj p))
beta-some (app f b) a p k = none-some p

pub contract-some : {D : Type 0} (e : Env) (f a : Term) {t : Term} → contract e f a ≡ some t → ((b c : Term) → f ≡ lam b c → t ≡ subst 0 a c → D) → (iota e f a ≡ some t → D) → D
contract-some e f a p j k = or_else_some (beta f a) (iota e f a) p (λ q. beta-some f a q j) (λ q r. k r)
