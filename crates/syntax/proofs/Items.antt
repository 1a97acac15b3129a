-- A list that is read item by item: the items so far stand before those to come, in the reader, in the words, in the notes of
-- declared names and in the stage. Said once for parameters, constructors and declarations.
use Rattle.std.proofs.Common.{◌≡◌, ℕ, zero, suc, ◌+◌, ◌*◌, ◌<◌, ◌≤◌, max, List, [], ◌∷◌, ◌++◌, length, sym, refl, ap, ◌∙◌, ap₂, append_assoc, append-nil, arith, Bor}
use mathlib.Core.Option.{Option, some, none}
use Rattle.syntax.specs.Surface.{Name}
use Rattle.syntax.specs.Tokens.{tokens}
use Rattle.syntax.specs.Writing.{Appends}
use Rattle.syntax.specs.declared.write.Writer.{Writer}
use Rattle.syntax.specs.Declaring.{Note, note_words, note_names}
use Rattle.syntax.proofs.Appending.{append_none, append_then, append_as}

-- Items before those that a reader finds.
abbrev pub prepend : {A : Type 0} → List A → Option (List A × List Name) → Option (List A × List Name)
prepend xs none = none
prepend xs (some p) = some (xs ++ p.0, p.1)

prepend_last : {A : Type 0} (xs : List A) (a : A) (o : Option (List A × List Name)) → prepend (xs ++ (a ∷ [])) o ≡ prepend xs (prepend (a ∷ []) o)
prepend_last xs a none = refl
prepend_last xs a (some p) = ap (λ ys. some (ys, p.1)) (append_assoc xs (a ∷ []) p.0)

-- The words, names and stage of several items.
abbrev pub all_words : {A : Type 0} → (A → List ℕ) → List A → List ℕ
all_words w [] = []
all_words w (a ∷ as₁) = w a ++ all_words w as₁

abbrev pub all_names : {A : Type 0} → (A → List Name) → List A → List Name
all_names f [] = []
all_names f (a ∷ as₁) = f a ++ all_names f as₁

abbrev pub all_level : {A : Type 0} → (A → ℕ) → List A → ℕ
all_level l [] = 0
all_level l (a ∷ as₁) = max (l a) (all_level l as₁)

pub words_last : {A : Type 0} (w : A → List ℕ) (xs : List A) (a : A) → all_words w xs ++ w a ≡ all_words w (xs ++ (a ∷ []))
words_last w [] a = sym (append-nil (w a))
words_last w (x ∷ xs) a = append_assoc (w x) _ _ ∙ ap (λ (r : List ℕ). w x ++ r) (words_last w xs a)

pub names_last : {A : Type 0} (f : A → List Name) (xs : List A) (a : A) → all_names f xs ++ f a ≡ all_names f (xs ++ (a ∷ []))
names_last f [] a = sym (append-nil (f a))
names_last f (x ∷ xs) a = append_assoc (f x) _ _ ∙ ap (λ (r : List Name). f x ++ r) (names_last f xs a)

pub level_last : {A : Type 0} (l : A → ℕ) (xs : List A) (a : A) → all_level l (xs ++ (a ∷ [])) ≡ max (all_level l xs) (l a)
level_last l [] a = omega arith
level_last l (x ∷ xs) a = omega (arith, level_last l xs a)

-- Notes one behind the other.
notes_words : (ms ns : List Note) → note_words ms ++ note_words ns ≡ note_words (ms ++ ns)
notes_words [] ns = refl
notes_words (m ∷ ms) ns = ap (λ (r : List ℕ). m.left ∷ (length m.name ∷ r)) (append_assoc m.name _ _ ∙ ap (λ (r : List ℕ). m.name ++ r) (notes_words ms ns))

pub notes_names : (ms ns : List Note) → note_names (ms ++ ns) ≡ note_names ms ++ note_names ns
notes_names [] ns = refl
notes_names (m ∷ ms) ns = ap (λ (r : List Name). m.name ∷ r) (notes_names ms ns)

pub notes_named : (ms ns : List Note) (xs ys : List Name) → note_names ms ≡ xs → note_names ns ≡ ys → note_names (ms ++ ns) ≡ xs ++ ys
notes_named ms ns xs ys p q = notes_names ms ns ∙ ap₂ ◌++◌ p q

pub append_notes : {o₁ o₂ o₃ : Writer} (xs ys : List Note) → Appends o₁ (note_words xs) o₂ → Appends o₂ (note_words ys) o₃ → Appends o₁ (note_words (xs ++ ys)) o₃
append_notes xs ys p q = append_as (notes_words xs ys) (append_then p q)

-- Some items were read from the bytes bs₀, and the bytes bs are left.
pub record Items {A : Type 0} (f : ℕ → List Name → Option (List A × List Name)) (words : A → List ℕ) (names : A → List Name) (level : A → ℕ)
    (bs₀ : List ℕ) (before before₂ after after₂ : Writer) (bs : List ℕ) (stage : ℕ) : Type 0 where
  pub items : List A
  pub links : (n : ℕ) → length (tokens bs₀) < n → (m : ℕ) × (length (tokens bs) < m) × (f n (tokens bs₀) ≡ prepend items (f m (tokens bs)))
  pub wrote : Appends before (all_words words items) after
  pub notes : List Note
  pub named : note_names notes ≡ all_names names items
  pub noted : Appends before₂ (note_words notes) after₂
  pub stages : stage ≡ all_level level items
  pub fewer : length (tokens bs) ≤ length (tokens bs₀)
  pub room : after.len + 4 * length bs ≤ before.len + 4 * length bs₀
  pub note_room : after₂.len + 3 * length bs ≤ before₂.len + 3 * length bs₀

module _ {A : Type 0} (f : ℕ → List Name → Option (List A × List Name)) (words : A → List ℕ) (names : A → List Name) (level : A → ℕ) where
  -- No item yet.
  pub same_prepend : (o : Option (List A × List Name)) → o ≡ prepend [] o
  same_prepend none = refl
  same_prepend (some p) = refl

  abbrev pub items_start : (bs : List ℕ) (before before₂ : Writer) → Items f words names level bs before before₂ before before₂ bs 0
  items_start bs before before₂ =
      record {
        items = [];
        links = λ n h. (n, h, same_prepend (f n (tokens bs)));
        wrote = append_none before;
        notes = [];
        named = refl;
        noted = append_none before₂;
        stages = refl;
        fewer = omega arith;
        room = omega arith;
        note_room = omega arith;
      }

  -- One more item.
  pub next_link : (ts₀ ts₁ ts₂ : List Name) (xs : List A) (a : A) (n m : ℕ) → length ts₁ < m → f n ts₀ ≡ prepend xs (f m ts₁) → 1 + length ts₂ ≤ length ts₁
      → ((k : ℕ) → length ts₁ ≤ k → f (suc k) ts₁ ≡ prepend (a ∷ []) (f k ts₂)) → (k : ℕ) × (length ts₂ < k) × (f n ts₀ ≡ prepend (xs ++ (a ∷ [])) (f k ts₂))
  next_link ts₀ ts₁ ts₂ xs a n zero l e u o = absurd (let z : ⊥ = omega arith in z)
  next_link ts₀ ts₁ ts₂ xs a n (suc m) l e u o = (m, omega arith, e ∙ ap (prepend xs) (o m (omega arith)) ∙ sym (prepend_last xs a (f m ts₂)))

  abbrev pub items_more : (bs₀ : List ℕ) (before before₂ o p o₁ p₁ : Writer) (bs bs₁ : List ℕ) (stage stage₁ stage₂ : ℕ) (a : A) (notes : List Note)
      → Items f words names level bs₀ before before₂ o p bs stage
      → ((k : ℕ) → length (tokens bs) ≤ k → f (suc k) (tokens bs) ≡ prepend (a ∷ []) (f k (tokens bs₁)))
      → Appends o (words a) o₁ → note_names notes ≡ names a → Appends p (note_words notes) p₁
      → stage₁ ≡ level a → stage₂ ≡ max stage stage₁ → 1 + length (tokens bs₁) ≤ length (tokens bs) → o₁.len + 4 * length bs₁ ≤ o.len + 4 * length bs → p₁.len + 3 * length bs₁ ≤ p.len + 3 * length bs
      → Items f words names level bs₀ before before₂ o₁ p₁ bs₁ stage₂
  items_more bs₀ before before₂ o p o₁ p₁ bs bs₁ stage stage₁ stage₂ a notes c e w nm nw st st₂ l r nr =
      record {
        items = c.items ++ (a ∷ []);
        links = λ n h. let k = c.links n h in next_link (tokens bs₀) (tokens bs) (tokens bs₁) c.items a n k.0 k.1 k.2 l e;
        wrote = append_as (words_last words c.items a) (append_then c.wrote w);
        notes = c.notes ++ notes;
        named = notes_names c.notes notes ∙ ap₂ ◌++◌ c.named nm ∙ names_last names c.items a;
        noted = append_notes c.notes notes c.noted nw;
        stages = st₂ ∙ ap₂ max c.stages st ∙ sym (level_last level c.items a);
        fewer = omega (arith, c.fewer, l);
        room = omega (arith, c.room, r);
        note_room = omega (arith, c.note_room, nr);
      }

  -- The same bytes under another name.
  abbrev pub items_as : (bs₀ : List ℕ) (before before₂ o p : Writer) (r q : Bor (List ℕ)) (stage : ℕ) → q ≡ r → Items f words names level bs₀ before before₂ o p r.now stage → Items f words names level bs₀ before before₂ o p q.now stage
  items_as bs₀ before before₂ o p r q stage e c =
      record {
        items = c.items;
        links = λ n h. let k = c.links n h in
            (k.0, omega (arith, k.1, ap (λ (z : Bor (List ℕ)). length (tokens z.now)) e), k.2 ∙ ap (λ (z : Bor (List ℕ)). prepend c.items (f k.0 (tokens z.now))) (sym e));
        wrote = c.wrote;
        notes = c.notes;
        named = c.named;
        noted = c.noted;
        stages = c.stages;
        fewer = omega (arith, c.fewer, ap (λ (z : Bor (List ℕ)). length (tokens z.now)) e);
        room = omega (arith, c.room, ap (λ (z : Bor (List ℕ)). length z.now) e);
        note_room = omega (arith, c.note_room, ap (λ (z : Bor (List ℕ)). length z.now) e);
      }

  -- An item is not there where it must be: nothing is found.
  pub items_none : (bs₀ : List ℕ) (before before₂ o p : Writer) (bs : List ℕ) (stage : ℕ)
      → Items f words names level bs₀ before before₂ o p bs stage → ((k : ℕ) → length (tokens bs) ≤ k → f (suc k) (tokens bs) ≡ none) → (n : ℕ) → length (tokens bs₀) < n → f n (tokens bs₀) ≡ none
  items_none bs₀ before before₂ o p bs stage c e n h = let k = c.links n h in k.2 ∙ ap (prepend c.items) (at_suc k.0 k.1)
    where
      at_suc : (m : ℕ) → length (tokens bs) < m → f m (tokens bs) ≡ none
      at_suc zero l = absurd (let z : ⊥ = omega arith in z)
      at_suc (suc m) l = e m (omega arith)

  -- The list ends here, and the tokens us are behind it.
  pub items_end : (bs₀ : List ℕ) (before before₂ o p : Writer) (bs : List ℕ) (stage : ℕ) (us : List Name)
      → (c : Items f words names level bs₀ before before₂ o p bs stage) → ((k : ℕ) → length (tokens bs) ≤ k → f (suc k) (tokens bs) ≡ some ([], us))
      → (n : ℕ) → length (tokens bs₀) < n → f n (tokens bs₀) ≡ some (c.items, us)
  items_end bs₀ before before₂ o p bs stage us c e n h = let k = c.links n h in k.2 ∙ ap (prepend c.items) (at_suc k.0 k.1) ∙ ap (λ xs. some (xs, us)) (append-nil c.items)
    where
      at_suc : (m : ℕ) → length (tokens bs) < m → f m (tokens bs) ≡ some ([], us)
      at_suc zero l = absurd (let z : ⊥ = omega arith in z)
      at_suc (suc m) l = e m (omega arith)
