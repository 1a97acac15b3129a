-- Notes of declared names in words: the first note; and lists of names that are taken one by one.
use Rattle.std.proofs.Common.{◌≡◌, ℕ, ◌≤◌, Bool, true, false, not, ◌&&◌, ◌||◌, List, [], ◌∷◌, length, get_or, drop, Some, sym, refl, ap, ◌∙◌, arith, length-append}
use Rattle.std.proofs.lemmas.Bool.{or_left}
use Rattle.syntax.specs.Surface.{Name, same, listed, once}
use Rattle.syntax.specs.Declaring.{Note, note_words, NoteFirst, ReadsNote}
use Rattle.syntax.specs.declared.limits.NoteRead.{NoteRead}

-- The first note's name is within the words.
pub note_room : (ws r s : List ℕ) (left len : ℕ) (ns : List Note) → ws ≡ note_words ns → ws ≡ left ∷ r → r ≡ len ∷ s → len ≤ length s
note_room ws r s left len [] e p q = absurd (let z : ⊥ = omega (arith, ap length e, ap length p) in z)
note_room ws r s left len (n ∷ ns) e p q =
    let w = sym (p ∙ ap (λ (z : List ℕ). left ∷ z) q) ∙ e in
    omega (arith, ap (λ (z : List ℕ). get_or z 1 0) w, ap (λ (z : List ℕ). length (drop 2 z)) w, length-append n.name (note_words ns))

-- A note is found.
pub reads_some : (ns : List Note) (r : NoteRead) → ReadsNote ns (Some r) → (n : Note) × (ms : List Note) × (ns ≡ n ∷ ms) × NoteFirst n ms r
reads_some [] r d = absurd d
reads_some (n ∷ ns) r d = (n, ns, refl, d)

-- A name is among those listed if it is the first or among the others.
pub listed_first : (x y : Name) (ys : List Name) → same x y ≡ true → listed x (y ∷ ys) ≡ true
listed_first x y ys p = or_left (same x y) _ p

pub listed_rest : (x y : Name) (ys : List Name) → same x y ≡ false → listed x (y ∷ ys) ≡ listed x ys
listed_rest x y ys p = ap (λ (b : Bool). b || listed x ys) p

-- Names are distinct if the first is not among the others, and they are.
pub once_not : (x : Name) (xs : List Name) → listed x xs ≡ true → once (x ∷ xs) ≡ false
once_not x xs p = ap (λ (b : Bool). not b && once xs) p

pub once_rest : (x : Name) (xs : List Name) → listed x xs ≡ false → once (x ∷ xs) ≡ once xs
once_rest x xs p = ap (λ (b : Bool). not b && once xs) p
