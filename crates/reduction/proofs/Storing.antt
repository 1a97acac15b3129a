-- What the words of the table and the store say of the entry with a number.
use Rattle.std.proofs.Common.{◌≡◌, ℕ, zero, suc, ◌+◌, ◌*◌, ◌/◌, ◌%◌, ◌<◌, ◌≤◌, List, [], ◌∷◌, length, get_or, drop, Some, Option as Maybe, inl, inr, sym, refl, ap, ◌∙◌, subst as tr, ap₂, arith, length-drop}
use mathlib.Core.Option.{Option, some, none}
use lib.ListN.{get_elem?}
use Rattle.std.proofs.lemmas.Bool.{cases_lt}
use Rattle.std.proofs.lemmas.Grind.{not_there}
use Rattle.std.proofs.lemmas.List.{get_or-drop, drop-drop}
use Rattle.theory.specs.Terms.{size, option}
use Rattle.theory.specs.Environment.{Constructor, DataType, Entry, defined, assumed, inductive, Env, entry_data, data_at}
use Rattle.theory.proofs.Options.{none-some, some_inj}
use Rattle.terms.specs.Words.{put, puts, At}
use Rattle.terms.proofs.Nodes.{join, put-length}
use Rattle.terms.proofs.Places.{Three, three, at_behind}
use Rattle.reduction.specs.Store.{put_counts, put_fields, put_entry, place, EntryAt, EnvAt, Stored}
use Rattle.reduction.specs.Lookup.{Finds, FindsPlace}
use Rattle.reduction.specs.declared.store.Found.{Found}
use Rattle.reduction.specs.declared.store.Found.TheVariants.{Definition, Axiom, Inductive}

-- An element beyond the end, and one before it.
pub get_past : {A : Type 0} (xs : List A) (i : ℕ) → length xs ≤ i → get_elem? xs i ≡ none
get_past [] i l = refl
get_past (x ∷ xs) zero l = absurd (omega arith)
get_past (x ∷ xs) (suc i) l = get_past xs i (omega arith)

pub get_there : {A : Type 0} (xs : List A) (i : ℕ) → i < length xs → (x : A) × (get_elem? xs i ≡ some x)
get_there [] i l = absurd (omega arith)
get_there (x ∷ xs) zero l = (x, refl)
get_there (x ∷ xs) (suc i) l = get_there xs i (omega arith)

-- The entry with a number that the table has.
pub record Entered (index store : List ℕ) (e : Env) (i : ℕ) : Type 0 where
  pub entry : Entry
  pub is : get_elem? e i ≡ some entry
  pub at : EntryAt store (place index i) entry

pub entered : (index store : List ℕ) (e : Env) (i : ℕ) → EnvAt index store e → 2 * i + 2 ≤ length index → Entered index store e i
entered index store e i p l =
    let (d, q) = get_there e i (omega (arith, p.counted)) in
    record { entry = d; is = q; at = p.entries i d q }

pub beyond : (index store : List ℕ) (e : Env) (i : ℕ) → EnvAt index store e → length index < 2 * i + 2 → get_elem? e i ≡ none
beyond index store e i p l = get_past e i (omega (arith, p.counted))

-- The first words of an entry.
abbrev pub mark : Entry → ℕ
mark (defined t a) = 0
mark (assumed a) = 1
mark (inductive k) = 2

abbrev pub second : Entry → ℕ
second (defined t a) = (3 * size a) % 4294967296
second (assumed a) = 0
second (inductive k) = length k.params

abbrev pub third : Entry → ℕ
third (defined t a) = (3 * size a) / 4294967296
third (assumed a) = 0
third (inductive k) = k.level

abbrev pub behind : Entry → List ℕ → List ℕ
behind (defined t a) r = put a (put t r)
behind (assumed a) r = put a r
behind (inductive k) r = length k.cons ∷ put_counts k.cons (puts k.params (put_fields k.cons r))

entry_words : (d : Entry) (r : List ℕ) → put_entry d r ≡ mark d ∷ second d ∷ third d ∷ behind d r
entry_words (defined t a) r = refl
entry_words (assumed a) r = refl
entry_words (inductive k) r = refl

pub entry_three : (store : List ℕ) (p : ℕ) (d : Entry) (x : EntryAt store p d) → Three store p (mark d) (second d) (third d) (behind d x.rest)
entry_three store p d x = three store p _ _ _ _ (x.stands ∙ entry_words d x.rest)

-- What was found.
pub found_definition : (store : List ℕ) (p : ℕ) (d : Entry) → EntryAt store p d → get_or store p 0 ≡ 0 → Finds store (some d) (Some (Definition (p + 3) (p + 3 + (get_or store (p + 1) 0 + 4294967296 * get_or store (p + 2) 0))))
found_definition store p (defined t a) x m =
    let h = entry_three store p (defined t a) x in
    let a_at : At store (p + 3) a (put t x.rest) = record { stands = h.behind } in
    let n : get_or store (p + 1) 0 + 4294967296 * get_or store (p + 2) 0 ≡ 3 * size a = ap₂ (λ u v. u + 4294967296 * v) h.second h.third ∙ join (3 * size a) in (
      t,
      a,
      refl,
      record { rest = put t x.rest; at = a_at },
      record { rest = x.rest; at = record { stands = ap (λ k. drop (p + 3 + k) store) n ∙ at_behind store (p + 3) a (put t x.rest) a_at } },
    )
found_definition store p (assumed a) x m = absurd (omega (arith, (entry_three store p (assumed a) x).first))
found_definition store p (inductive k) x m = absurd (omega (arith, (entry_three store p (inductive k) x).first))

pub found_axiom : (store : List ℕ) (p : ℕ) (d : Entry) → EntryAt store p d → get_or store p 0 ≡ 1 → Finds store (some d) (Some (Axiom (p + 3)))
found_axiom store p (assumed a) x m = (a, refl, record { rest = x.rest; at = record { stands = (entry_three store p (assumed a) x).behind } })
found_axiom store p (defined t a) x m = absurd (omega (arith, (entry_three store p (defined t a) x).first))
found_axiom store p (inductive k) x m = absurd (omega (arith, (entry_three store p (inductive k) x).first))

pub found_data : (store : List ℕ) (p : ℕ) (d : Entry) → EntryAt store p d → (get_or store p 0 ≡ 0 → ⊥) → (get_or store p 0 ≡ 1 → ⊥) → Finds store (some d) (Some (Inductive p))
found_data store p (defined t a) x m n = absurd (m (entry_three store p (defined t a) x).first)
found_data store p (assumed a) x m n = absurd (n (entry_three store p (assumed a) x).first)
found_data store p (inductive k) x m n = (k, refl, x)

-- An order that holds if a fact does, of which it is only known that it has a proof.
order_known : {P : Type 0} (a b : ℕ) → ∥ P ∥₁ → (P → a ≤ b) → a ≤ b
order_known a b t f = elim (cases_lt b a) [ inl l ↦ absurd (not_there t (λ x. let z = f x in omega arith)) | inr l ↦ l ]

-- The words of an entry lie within the store.
pub room : (index store : List ℕ) (i p : ℕ) → ∥ Stored index store ∥₁ → 2 * i + 2 ≤ length index → p ≡ place index i → p + 3 ≤ length store
room index store i p s l q = order_known (p + 3) (length store) s λ k.
    let x = entered index store k.env i k.at l in
    tr (λ n. n + 3 ≤ length store) (sym q) (entry_three store (place index i) x.entry x.at).within

body_room : (store : List ℕ) (p : ℕ) (d : Entry) → EntryAt store p d → get_or store p 0 ≡ 0 → p + 3 + (get_or store (p + 1) 0 + 4294967296 * get_or store (p + 2) 0) ≤ length store
body_room store p (defined t a) x m =
    let h = entry_three store p (defined t a) x in
    let n : get_or store (p + 1) 0 + 4294967296 * get_or store (p + 2) 0 ≡ 3 * size a = ap₂ (λ u v. u + 4294967296 * v) h.second h.third ∙ join (3 * size a) in
    omega (arith, n, h.within, ap length h.behind, length-drop (p + 3) store, put-length a (put t x.rest))
body_room store p (assumed a) x m = absurd (omega (arith, (entry_three store p (assumed a) x).first))
body_room store p (inductive k) x m = absurd (omega (arith, (entry_three store p (inductive k) x).first))

pub room_body : (index store : List ℕ) (i p : ℕ) → ∥ Stored index store ∥₁ → 2 * i + 2 ≤ length index → p ≡ place index i → get_or store p 0 ≡ 0
    → p + 3 + (get_or store (p + 1) 0 + 4294967296 * get_or store (p + 2) 0) ≤ length store
room_body index store i p s l q m = order_known _ (length store) s λ k.
    let x = entered index store k.env i k.at l in
    body_room store p x.entry (tr (λ n. EntryAt store n x.entry) (sym q) x.at) m

-- The answers.
some_finds : (store : List ℕ) (o : Option Entry) (d : Entry) (f : Maybe Found) → o ≡ some d → Finds store (some d) f → Finds store o f
some_finds store o d f p x = tr (λ z. Finds store z f) (sym p) x

pub finds_at : (index store : List ℕ) (e : Env) (i p : ℕ) (f : Maybe Found) → EnvAt index store e → 2 * i + 2 ≤ length index → p ≡ place index i
    → ((d : Entry) → EntryAt store p d → Finds store (some d) f) → Finds store (get_elem? e i) f
finds_at index store e i p f v l q k =
    let x = entered index store e i v l in
    some_finds store (get_elem? e i) x.entry f x.is (k x.entry (tr (λ z. EntryAt store z x.entry) (sym q) x.at))

-- The data type with a number.
pub no_entry : (e : Env) (i : ℕ) → get_elem? e i ≡ none → data_at e i ≡ none
no_entry e i q = ap (λ (o : Option Entry). option o none entry_data) q

pub some_data : (e : Env) (i : ℕ) (store : List ℕ) (p : ℕ) → Finds store (get_elem? e i) (Some (Inductive p)) → FindsPlace store (data_at e i) (Some p)
some_data e i store p (k, q, x) = (k, ap (λ (o : Option Entry). option o none entry_data) q, x)

-- The words of a data type: four numbers, and two for each constructor.
pub record DataWords (store : List ℕ) (p : ℕ) (k : DataType) : Type 0 where
  pub within : p + 4 + 2 * length k.cons ≤ length store
  pub params : get_or store (p + 1) 0 ≡ length k.params
  pub level : get_or store (p + 2) 0 ≡ k.level
  pub cons : get_or store (p + 3) 0 ≡ length k.cons
  pub fields : (i : ℕ) (c : Constructor) → get_elem? k.cons i ≡ some c → get_or store (p + 4 + 2 * i) 0 ≡ length c.fields
  pub recs : (i : ℕ) (c : Constructor) → get_elem? k.cons i ≡ some c → get_or store (p + 4 + 2 * i + 1) 0 ≡ c.recs

counts_long : (cs : List Constructor) (r : List ℕ) → 2 * length cs ≤ length (put_counts cs r)
counts_long [] r = omega arith
counts_long (c ∷ cs) r = omega (arith, counts_long cs r)

counts_at : (cs : List Constructor) (r : List ℕ) (i : ℕ) (c : Constructor) → get_elem? cs i ≡ some c → (get_or (put_counts cs r) (2 * i) 0 ≡ length c.fields) × (get_or (put_counts cs r) (2 * i + 1) 0 ≡ c.recs)
counts_at [] r i c p = none-some p
counts_at (c ∷ cs) r zero d p = (ap (λ z. length z.fields) (some_inj p), ap (λ z. z.recs) (some_inj p))
counts_at (c ∷ cs) r (suc i) d p =
    let (x, y) = counts_at cs r i d p in (
      ap (λ k. get_or (put_counts (c ∷ cs) r) k 0) (let z : 2 * suc i ≡ suc (suc (2 * i)) = omega arith in z) ∙ x,
      ap (λ k. get_or (put_counts (c ∷ cs) r) k 0) (let z : 2 * suc i + 1 ≡ suc (suc (2 * i + 1)) = omega arith in z) ∙ y,
    )

pub data_words : (store : List ℕ) (p : ℕ) (k : DataType) → EntryAt store p (inductive k) → DataWords store p k
data_words store p k x =
    let h = entry_three store p (inductive k) x in
    let r = puts k.params (put_fields k.cons x.rest) in
    let b : drop (p + 4) store ≡ put_counts k.cons r = ap (λ n. drop n store) (let z : p + 4 ≡ p + 3 + 1 = omega arith in z) ∙ (sym (drop-drop 1 (p + 3) store) ∙ ap (drop 1) h.behind) in
    record {
      within = omega (arith, counts_long k.cons r, ap length b, length-drop (p + 4) store, h.within, ap length h.behind, length-drop (p + 3) store);
      params = h.second;
      level = h.third;
      cons = ap (λ n. get_or store n 0) (let z : p + 3 ≡ p + 3 + 0 = omega arith in z) ∙ (sym (get_or-drop (p + 3) store 0 0) ∙ ap (λ w. get_or w 0 0) h.behind);
      fields = λ i c q. sym (get_or-drop (p + 4) store (2 * i) 0) ∙ (ap (λ w. get_or w (2 * i) 0) b ∙ (counts_at k.cons r i c q).0);
      recs = λ i c q. ap (λ n. get_or store n 0) (let z : p + 4 + 2 * i + 1 ≡ p + 4 + (2 * i + 1) = omega arith in z) ∙ (sym (get_or-drop (p + 4) store (2 * i + 1) 0) ∙ (ap (λ w. get_or w (2 * i + 1) 0) b ∙ (counts_at k.cons r i c q).1));
    }

pub data_room : (index store : List ℕ) (p : ℕ) (o : Env → Option DataType) → ∥ Stored index store ∥₁ → ((e : Env) → EnvAt index store e → FindsPlace store (o e) (Some p)) → p + 4 + 2 * get_or store (p + 3) 0 ≤ length store
data_room index store p o s f = order_known _ (length store) s λ k.
    let (d, _, x) = f k.env k.at in
    let w = data_words store p d x in
    omega (arith, w.within, w.cons)
