-- Tests on the first token: names compared byte by byte, names and numbers told from other tokens.
use Rattle.std.proofs.Common.{◌≡◌, ℕ, zero, suc, ◌+◌, ◌-◌, ◌*◌, ◌<◌, ◌≤◌, Bool, true, false, ◌&&◌, ◌||◌, eqb, leb, List, [], ◌∷◌, length, sym, refl, ap, ◌∙◌, subst as tr, add-one, arith}
use Rattle.std.specs.Bool.{then_some}
use Rattle.std.specs.Prelude.{None, Option as Option₁}
use mathlib.Core.Option.{Option, some, none}
use Rattle.std.proofs.lemmas.Bool.{false≢true, and_from, and_parts, and_right, both_ways, cond-true, cond-false, le-leb, leb-true}
use Rattle.syntax.proofs.Gives.{no_some}
use Rattle.syntax.proofs.Same.{same_is}
use Rattle.syntax.specs.Surface.{Name, same, w_eq, w_same, w_along}
use Rattle.syntax.specs.Tokens.{letter, tokens}
use Rattle.syntax.specs.Grammar.{is_name, is_indexed_lem, digits, letters, t_hole}
use Rattle.syntax.specs.Reader.{number_of, read_number}
use Rattle.syntax.specs.Lexing.{NoWordAt, is_word, WordFirst, FindsWord}
use Rattle.syntax.specs.declared.scan.Word.{Word as WordRest}

-- Names of different lengths are different.
pub same_lengths : (x y : Name) → (length x ≡ length y → ⊥) → same x y ≡ false
same_lengths [] [] p = absurd (p refl)
same_lengths [] (y ∷ ys) p = refl
same_lengths (x ∷ xs) [] p = refl
same_lengths (x ∷ xs) (y ∷ ys) p = and_right (eqb x y) _ (same_lengths xs ys (λ e. p (ap suc e)))

-- A bound on a number of n digits.
abbrev pub tens : ℕ → ℕ
tens zero = 1
tens (suc n) = 10 * tens n

pub tens_small : (n : ℕ) → n ≤ 3 → tens n ≤ 1000
tens_small zero h = omega arith
tens_small (suc zero) h = omega arith
tens_small (suc (suc zero)) h = omega arith
tens_small (suc (suc (suc zero))) h = omega arith
tens_small (suc (suc (suc (suc n)))) h = absurd (let z : ⊥ = omega arith in z)

pub tens_next : (n v d : ℕ) → v < tens n → d ≤ 9 → v * 10 + d < tens (n + 1)
tens_next n v d h k = rw add-one (omega arith)

-- One to three bytes: the number is what their digits say.
pub number_digits : (w : Name) → false ≡ eqb (length w) 0 → length w ≤ 3 → number_of w ≡ digits 0 w
number_digits [] e k = absurd (false≢true e)
number_digits (c ∷ cs) e k = cond-true _ _ _ (and_from _ _ (le-leb 1 (length (c ∷ cs)) (omega arith)) (le-leb (length (c ∷ cs)) 3 k))

-- Names that test the same are equal.
pub same_true : (x y : Name) → same x y ≡ true → x ≡ y
same_true x y p = same_is x y (rw p tt)

-- A name has at most 32 bytes, and so has a word before numbers.
pub name_short : (w : Name) → is_name w ≡ true → length w ≤ 32
name_short w p = leb-true (length w) 32 (and_parts _ _ (and_parts (leb 1 (length w)) _ p).1).0

pub indexed_short : (w : Name) → is_indexed_lem w ≡ true → length w ≤ 32
indexed_short w p = go (is_name w) (same w w_eq) (same w w_same) (same w w_along) refl refl refl refl
  where
    go : (a b c d : Bool) → is_name w ≡ a → same w w_eq ≡ b → same w w_same ≡ c → same w w_along ≡ d → length w ≤ 32
    go true b c d q₁ q₂ q₃ q₄ = name_short w q₁
    go false true c d q₁ q₂ q₃ q₄ = omega (arith, ap length (same_true w w_eq q₂))
    go false false true d q₁ q₂ q₃ q₄ = omega (arith, ap length (same_true w w_same q₃))
    go false false false true q₁ q₂ q₃ q₄ = omega (arith, ap length (same_true w w_along q₄))
    go false false false false q₁ q₂ q₃ q₄ = absurd (both_ways _ (rw (q₁, q₂, q₃, q₄) refl) p)

-- A name, a word before numbers and a number are words.
no_word : (test : Name → Bool) → ((w : Name) → test w ≡ true → is_word w ≡ true) → (w : Name) → is_word w ≡ false → test w ≡ false
no_word test f w p = go (test w) refl
  where
    go : (b : Bool) → test w ≡ b → test w ≡ false
    go true q = absurd (both_ways _ p (f w q))
    go false q = q

name_word : (w : Name) → is_name w ≡ true → is_word w ≡ true
name_word w p = go (same w t_hole) refl
  where
    go : (b : Bool) → same w t_hole ≡ b → is_word w ≡ true
    go true q = absurd (both_ways _ (ap is_name (same_true w t_hole q)) p)
    go false q = and_from (letters w) _ (and_parts (letters w) _ (and_parts (leb (length w) 32) _ (and_parts (leb 1 (length w)) _ p).1).1).0 (rw q refl)

indexed_word : (w : Name) → is_indexed_lem w ≡ true → is_word w ≡ true
indexed_word w p = go (is_name w) (same w w_eq) (same w w_same) (same w w_along) refl refl refl refl
  where
    go : (a b c d : Bool) → is_name w ≡ a → same w w_eq ≡ b → same w w_same ≡ c → same w w_along ≡ d → is_word w ≡ true
    go true b c d q₁ q₂ q₃ q₄ = name_word w q₁
    go false true c d q₁ q₂ q₃ q₄ = ap is_word (same_true w w_eq q₂)
    go false false true d q₁ q₂ q₃ q₄ = ap is_word (same_true w w_same q₃)
    go false false false true q₁ q₂ q₃ q₄ = ap is_word (same_true w w_along q₄)
    go false false false false q₁ q₂ q₃ q₄ = absurd (both_ways _ (rw (q₁, q₂, q₃, q₄) refl) p)

digit_letter : (c : ℕ) → (leb 48 c && leb c 57) ≡ true → letter c ≡ true
digit_letter c p = rw p (go (leb 97 c && leb c 122) (leb 65 c && leb c 90) (eqb c 95))
  where
    go : (x y z : Bool) → (x || (y || (z || true))) ≡ true
    go true y z = refl
    go false true z = refl
    go false false true = refl
    go false false false = refl

digits_letters : (v : ℕ) (w : Name) (n : ℕ) → digits v w ≡ some n → letters w ≡ true
digits_letters v [] n e = refl
digits_letters v (c ∷ cs) n e = go (leb 48 c && leb c 57) refl (digits_letters (v * 10 + (c - 48)) cs n)
  where
    go : (b : Bool) → (leb 48 c && leb c 57) ≡ b → (digits (v * 10 + (c - 48)) cs ≡ some n → letters cs ≡ true) → letters (c ∷ cs) ≡ true
    go true q i = and_from (letter c) _ (digit_letter c q) (i (sym (cond-true _ _ _ q) ∙ e))
    go false q i = no_some (sym (cond-false _ _ _ q) ∙ e)

number_word : (w : Name) (n : ℕ) → number_of w ≡ some n → is_word w ≡ true
number_word w n e = go (same w t_hole) (leb 1 (length w) && leb (length w) 3) refl refl
  where
    go : (a b : Bool) → same w t_hole ≡ a → (leb 1 (length w) && leb (length w) 3) ≡ b → is_word w ≡ true
    go true b q r = no_some (sym (ap number_of (same_true w t_hole q)) ∙ e)
    go false true q r = and_from (letters w) _ (digits_letters 0 w n (sym (cond-true _ _ _ r) ∙ e)) (rw q refl)
    go false false q r = no_some (sym (cond-false _ _ _ r) ∙ e)

no_number : (w : Name) → is_word w ≡ false → number_of w ≡ none
no_number w p = go (number_of w) refl
  where
    go : (o : Option ℕ) → number_of w ≡ o → number_of w ≡ none
    go none q = q
    go (some n) q = absurd (both_ways _ p (number_word w n q))

-- Where no word comes first, none of these does.
pub no_name : (ts : List Name) → NoWordAt is_word ts → NoWordAt is_name ts
no_name [] p = tt
no_name (w ∷ ts) p = no_word is_name name_word w p

pub no_indexed : (ts : List Name) → NoWordAt is_word ts → NoWordAt is_indexed_lem ts
no_indexed [] p = tt
no_indexed (w ∷ ts) p = no_word is_indexed_lem indexed_word w p

pub none_number : (ts : List Name) → NoWordAt is_word ts → read_number ts ≡ none
none_number [] p = refl
none_number (w ∷ ts) p = rw (no_number w p) refl

pub none_found : (test : Name → Bool) (bs : List ℕ) (r : Option₁ WordRest) → r ≡ None → NoWordAt test (tokens bs) → FindsWord test bs r
none_found test bs r e p = tr (FindsWord test bs) (sym e) p

-- A word that comes first, tested.
pub word_tested : (test : Name → Bool) → ((w : Name) → test w ≡ true → length w ≤ 32) → (bs : List ℕ) (w : WordRest) (b : Bool) → b ≡ test w.name.now → WordFirst bs w → FindsWord test bs (then_some b w)
word_tested test short bs w true e f =
    record { passes = sym e; first = f.first; shorter = f.shorter; fewer = omega (arith, ap length f.first); some_bytes = f.some_bytes; short = short w.name.now (sym e); formed = f.formed }
word_tested test short bs w false e f = rw f.first (sym e)
