-- A head that looks at its last argument reduces exactly if that is a constructor, or reflexivity, with all its arguments.
use Rattle.std.proofs.Common.{◌≡◌, ℕ, zero, suc, ◌+◌, ◌<◌, Bool, true, false, cond, eqb, List, [], ◌∷◌, length, sym, refl, ap, ◌∙◌, arith, eq-eqb, eqb-true}
use mathlib.Core.Option.{Option, some, none}
use lib.ListN.{get_elem?}
use Rattle.theory.specs.Terms.{Head, h_def, h_data, h_con, h_rec, h_eq, h_refl, h_along, Term, var, const, sort, pi, lam, app, option, apps}
use Rattle.theory.specs.Environment.{Constructor, DataType, Env, data_at}
use Rattle.theory.specs.Reduction.{spine, last_arg, case_args, contract, needs_last}
use Rattle.theory.proofs.Options.{none-some, some_inj, true-false, false-true, cases_option, cases_bool}
use Rattle.theory.proofs.Iota.{spine-args, last_append, IotaView, by_rec, by_along, iota_view, iota_by_rec, iota_by_along, iota_contract, contract-some}
use Rattle.theory.proofs.WeakHead.{needs_arg}
use Rattle.terms.specs.Words.{root}
use Rattle.terms.specs.declared.sign.Sign.{Sign}
use Rattle.terms.specs.declared.sign.Sign.TheVariants.{Rec, Along}
use Rattle.reduction.specs.Spines.{uses, head_term, head_of, wants, con_full, con_fits_lem, refl_fits_lem, Fires}
use Rattle.reduction.proofs.Spreading.{spine_head_is, spine-length, needs_is}
use Rattle.reduction.proofs.Storing.{get_there}

-- The last argument of f a is a.
last_is : (f a : Term) → last_arg (spine f (a ∷ [])).args ≡ some a
last_is f a = ap last_arg (spine-args f (a ∷ [])) ∙ last_append (spine f []).args a

alone_length : (a : Term) → length (spine a []).args ≡ uses a
alone_length a = spine-length a [] ∙ omega arith

-- What the test says.
fits_con : {D : Type 0} (e : Env) (i : ℕ) (o : Option Head) (n : ℕ) → con_fits_lem e i o n ≡ true
    → ((k : DataType) (q : ℕ) (c : Constructor) → o ≡ some (h_con i q) → data_at e i ≡ some k → get_elem? k.cons q ≡ some c → n ≡ length k.params + (length c.fields + c.recs) → D) → D
fits_con e i none n p k = false-true p
fits_con e i (some (h_def j)) n p k = false-true p
fits_con e i (some (h_data j)) n p k = false-true p
fits_con e i (some (h_con j q)) n p k =
    cases_bool (eqb i j) (λ s. cases_option (data_at e i) (λ z. false-true (sym (ap (λ (o : Option DataType). con_full o q n) z) ∙ (sym (ap (λ (b : Bool). cond b (con_full (data_at e i) q n) false) s) ∙ p)))
    (λ d z. cases_option (get_elem? d.cons q)
    (λ y. false-true (sym (ap (λ (o : Option Constructor). option o false (λ c. eqb n (length d.params + (length c.fields + c.recs)))) y) ∙ (sym (ap (λ (o : Option DataType). con_full o q n) z) ∙ (sym (ap (λ (b : Bool). cond b (con_full (data_at e i) q n) false) s) ∙ p))))
    (λ c y. k d q c (ap (λ m. some (h_con m q)) (sym (eqb-true i j s))) z y
    (eqb-true n _ (sym (ap (λ (o : Option Constructor). option o false (λ c. eqb n (length d.params + (length c.fields + c.recs)))) y) ∙ (sym (ap (λ (o : Option DataType). con_full o q n) z) ∙ (sym (ap (λ (b : Bool). cond b (con_full (data_at e i) q n) false) s) ∙ p)))))))
    (λ s. false-true (sym (ap (λ (b : Bool). cond b (con_full (data_at e i) q n) false) s) ∙ p))
fits_con e i (some (h_rec j q)) n p k = false-true p
fits_con e i (some (h_eq j)) n p k = false-true p
fits_con e i (some (h_refl j)) n p k = false-true p
fits_con e i (some (h_along j q)) n p k = false-true p

con_fits_out : (e : Env) (i : ℕ) (o : Option Head) (n : ℕ) (k : DataType) (q : ℕ) (c : Constructor) → o ≡ some (h_con i q) → data_at e i ≡ some k → get_elem? k.cons q ≡ some c
    → n ≡ length k.params + (length c.fields + c.recs) → con_fits_lem e i o n ≡ true
con_fits_out e i o n k q c p d g l = rw (p, eq-eqb i i refl, d, g, eq-eqb n _ l)

-- A recursor.
needs_rec : (e : Env) (f a : Term) (i j : ℕ) (k : DataType) → head_of (head_term f) ≡ some (h_rec i j) → data_at e i ≡ some k → needs_arg e f a ≡ true → length (spine f (a ∷ [])).args ≡ length k.params + (2 + length k.cons)
needs_rec e f a i j k p d n =
    eqb-true _ _ (sym (ap (λ (o : Option DataType). option o false (λ k. eqb (length (spine f (a ∷ [])).args) (length k.params + (2 + length k.cons)))) d)
    ∙ (sym (ap (λ (o : Option Head). option o false (λ h. needs_last e h (length (spine f (a ∷ [])).args))) (spine_head_is f (a ∷ []) ∙ p)) ∙ n))

get_below : {A : Type 0} (xs : List A) (i : ℕ) {x : A} → get_elem? xs i ≡ some x → i < length xs
get_below [] i p = none-some p
get_below (x ∷ xs) zero p = omega arith
get_below (x ∷ xs) (suc i) p = omega (arith, get_below xs i p)

pub rec_fires : (e : Env) (f a : Term) (i j : ℕ) → head_of (head_term f) ≡ some (h_rec i j) → needs_arg e f a ≡ true → (b : Bool) → b ≡ con_fits_lem e i (head_of (head_term a)) (uses a) → Fires e f a b
rec_fires e f a i j p n true q = fits_con e i (head_of (head_term a)) (uses a) (sym q) λ k m c h d g l.
    let len = needs_rec e f a i j k p d n in
    let (x, case) = get_there (spine f (a ∷ [])).args (length k.params + (1 + m)) (omega (arith, len, get_below k.cons m g)) in
    let u = apps x (case_args i j k c (spine f (a ∷ [])).args (spine a []).args) in (
      u,
      iota_contract e f a u (iota_by_rec e f a u i j (spine_head_is f (a ∷ []) ∙ p)
          (record { k = k; at = d; len = len; s = a; last = last_is f a; n = m; head = spine_head_is a [] ∙ h; c = c; con = g; full = alone_length a ∙ l; m = x; case = case; is = refl })),
    )
rec_fires e f a i j p n false q = cases_option (contract e f a) (λ z. z) λ t z.
    contract-some e f a z (λ b c is _. none-some (sym (ap (λ s. head_of (head_term s)) is) ∙ p)) λ w. from (iota_view e f a t w)
  where
    from : {t : Term} → IotaView e f a t → contract e f a ≡ none
    from {t} (by_rec i' j' h v) =
        let s_is : v.s ≡ a = some_inj (sym v.last ∙ last_is f a) in
        let i_is : i' ≡ i = (let hd : some (h_rec i' j') ≡ some (h_rec i j) = sym h ∙ (spine_head_is f (a ∷ []) ∙ p) in cc) in
        true-false (sym (con_fits_out e i (head_of (head_term a)) (uses a) v.k v.n v.c
        (sym (spine_head_is a []) ∙ (ap (λ z. (spine z []).head) (sym s_is) ∙ (v.head ∙ ap (λ z. some (h_con z v.n)) i_is)))
        (ap (data_at e) (sym i_is) ∙ v.at) v.con (sym (alone_length a) ∙ (ap (λ z. length (spine z []).args) (sym s_is) ∙ v.full))) ∙ sym q)
    from {t} (by_along i' j' h v) = absurd (let hd : some (h_along i' j') ≡ some (h_rec i j) = sym h ∙ (spine_head_is f (a ∷ []) ∙ p) in let z : ◌≡◌ {A = ℕ} 0 1 = cc in omega arith)

-- An elimination.
refl_out : {D : Type 0} (o : Option Head) (n : ℕ) → refl_fits_lem o n ≡ true → ((i : ℕ) → o ≡ some (h_refl i) → n ≡ 2 → D) → D
refl_out none n p k = false-true p
refl_out (some (h_def j)) n p k = false-true p
refl_out (some (h_data j)) n p k = false-true p
refl_out (some (h_con j q)) n p k = false-true p
refl_out (some (h_rec j q)) n p k = false-true p
refl_out (some (h_eq j)) n p k = false-true p
refl_out (some (h_refl j)) n p k = k j refl (eqb-true n 2 p)
refl_out (some (h_along j q)) n p k = false-true p

refl_in : (o : Option Head) (n i : ℕ) → o ≡ some (h_refl i) → n ≡ 2 → refl_fits_lem o n ≡ true
refl_in o n i p l = rw (p, l)

pub along_fires : (e : Env) (f a : Term) (i j : ℕ) → head_of (head_term f) ≡ some (h_along i j) → needs_arg e f a ≡ true → (b : Bool) → b ≡ refl_fits_lem (head_of (head_term a)) (uses a) → Fires e f a b
along_fires e f a i j p n true q = refl_out (head_of (head_term a)) (uses a) (sym q) λ m h l.
    let len : length (spine f (a ∷ [])).args ≡ 6 = eqb-true _ 6 (sym (ap (λ (o : Option Head). option o false (λ h. needs_last e h (length (spine f (a ∷ [])).args))) (spine_head_is f (a ∷ []) ∙ p)) ∙ n) in
    let (x, case) = get_there (spine f (a ∷ [])).args 3 (omega (arith, len)) in (
      x,
      iota_contract e f a x (iota_by_along e f a x i j (spine_head_is f (a ∷ []) ∙ p)
          (record { len = len; s = a; last = last_is f a; i = m; head = spine_head_is a [] ∙ h; full = alone_length a ∙ l; is = case })),
    )
along_fires e f a i j p n false q = cases_option (contract e f a) (λ z. z) λ t z.
    contract-some e f a z (λ b c is _. none-some (sym (ap (λ s. head_of (head_term s)) is) ∙ p)) λ w. from (iota_view e f a t w)
  where
    from : {t : Term} → IotaView e f a t → contract e f a ≡ none
    from {t} (by_rec i' j' h v) = absurd (let hd : some (h_rec i' j') ≡ some (h_along i j) = sym h ∙ (spine_head_is f (a ∷ []) ∙ p) in let z : ◌≡◌ {A = ℕ} 0 1 = cc in omega arith)
    from {t} (by_along i' j' h v) =
        let s_is : v.s ≡ a = some_inj (sym v.last ∙ last_is f a) in
        true-false (sym (refl_in (head_of (head_term a)) (uses a) v.i
        (sym (spine_head_is a []) ∙ (ap (λ z. (spine z []).head) (sym s_is) ∙ v.head)) (sym (alone_length a) ∙ (ap (λ z. length (spine z []).args) (sym s_is) ∙ v.full))) ∙ sym q)

-- No other head looks at its last argument.
other_wants : (e : Env) (t : Term) (s : Sign) → s ≡ root t → ((i j : ℕ) → s ≡ Rec i j → ⊥) → ((i j : ℕ) → s ≡ Along i j → ⊥) → (n : ℕ) → wants e t n ≡ false
other_wants e (var x) s p x₁ y n = refl
other_wants e (const (h_def i)) s p x y n = refl
other_wants e (const (h_data i)) s p x y n = refl
other_wants e (const (h_con i j)) s p x y n = refl
other_wants e (const (h_rec i j)) s p x y n = absurd (x i j p)
other_wants e (const (h_eq i)) s p x y n = refl
other_wants e (const (h_refl i)) s p x y n = refl
other_wants e (const (h_along i j)) s p x y n = absurd (y i j p)
other_wants e (sort i) s p x y n = refl
other_wants e (pi a b) s p x y n = refl
other_wants e (lam a b) s p x y n = refl
other_wants e (app f a) s p x y n = refl

pub other_fires : (e : Env) (f a : Term) (s : Sign) → s ≡ root (head_term f) → ((i j : ℕ) → s ≡ Rec i j → ⊥) → ((i j : ℕ) → s ≡ Along i j → ⊥) → needs_arg e f a ≡ true → contract e f a ≡ none
other_fires e f a s p x y n = true-false (sym n ∙ (needs_is e f a ∙ other_wants e (head_term f) s p x y (suc (uses f))))
