-- The keyword and the name of a declaration are text: their bytes are letters, digits and _.
use Rattle.std.proofs.Common.{◌≡◌, ℕ, ◌<◌, Bool, true, false, leb, [], ◌∷◌, length, IsUtf8, IsAscii, refl, ap, arith}
use Rattle.std.proofs.lemmas.Str.Ascii.{IsAscii-nil, IsAscii-cons}
use Rattle.std.proofs.lemmas.Str.{IsUtf8-from_ascii}
use Rattle.std.proofs.lemmas.Bool.{and_parts, both_ways}
use Rattle.std.proofs.lemmas.Bool.Decides.{nat_tests}
use Rattle.syntax.proofs.Scanning.{same_true}
use Rattle.syntax.specs.Surface.{Name, same}
use Rattle.syntax.specs.Tokens.{letter}
use Rattle.syntax.specs.Grammar.{letters, is_name, k_def, k_theorem, k_axiom, k_data}
use Rattle.syntax.specs.Headers.{begins_decl}

-- A letter is below 128.
letter_small : (c : ℕ) → letter c ≡ true → c < 128
letter_small c p = grind (arith, nat_tests)

letters_text : (x : Name) → letters x ≡ true → IsAscii x
letters_text [] p = IsAscii-nil
letters_text (c ∷ cs) p = IsAscii-cons c cs (letter_small c (and_parts _ _ p).0) (letters_text cs (and_parts (letter c) _ p).1)

-- A name has only letters, and so has a keyword.
name_letters : (x : Name) → is_name x ≡ true → letters x ≡ true
name_letters x p = (and_parts (letters x) _ (and_parts (leb (length x) 32) _ (and_parts (leb 1 (length x)) _ p).1).1).0

keyword_letters : (w : Name) → begins_decl w ≡ true → letters w ≡ true
keyword_letters w p = go (same w k_def) (same w k_theorem) (same w k_axiom) (same w k_data) refl refl refl refl
  where
    go : (a b c d : Bool) → same w k_def ≡ a → same w k_theorem ≡ b → same w k_axiom ≡ c → same w k_data ≡ d → letters w ≡ true
    go true b c d q₁ q₂ q₃ q₄ = ap letters (same_true w k_def q₁)
    go false true c d q₁ q₂ q₃ q₄ = ap letters (same_true w k_theorem q₂)
    go false false true d q₁ q₂ q₃ q₄ = ap letters (same_true w k_axiom q₃)
    go false false false true q₁ q₂ q₃ q₄ = ap letters (same_true w k_data q₄)
    go false false false false q₁ q₂ q₃ q₄ = absurd (both_ways _ (rw (q₁, q₂, q₃, q₄) refl) p)

-- So both are text.
pub name_text : (x : Name) → is_name x ≡ true → IsUtf8 x
name_text x p = IsUtf8-from_ascii x (letters_text x (name_letters x p))

pub keyword_text : (w : Name) → begins_decl w ≡ true → IsUtf8 w
keyword_text w p = IsUtf8-from_ascii w (letters_text w (keyword_letters w p))
