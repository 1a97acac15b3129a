-- Words written one behind the other: one word, and one piece behind another.
use Rattle.std.proofs.Common.{◌≡◌, ℕ, ◌+◌, ◌<◌, ◌≤◌, List, [], ◌∷◌, ◌++◌, length, take, drop, set, sym, refl, ap, ◌∙◌, append_assoc, arith, length-append, length-take}
use Rattle.std.proofs.lemmas.List.{take_more_set, drop_at, take-take, take-append-le, take-append-drop}
use Rattle.terms.specs.Writing.{Appends}

pub append_one : (o : List ℕ) (len w : ℕ) → len < length o → Appends o len (w ∷ []) (set o len w) (len + 1)
append_one o len w h = record { ends = refl; words = take_more_set o len w h }

pub append_then : (o₁ o₂ o₃ : List ℕ) (l m n : ℕ) (x y : List ℕ) → Appends o₁ l x o₂ m → Appends o₂ m y o₃ n → Appends o₁ l (x ++ y) o₃ n
append_then o₁ o₂ o₃ l m n x y p q =
    record { ends = omega (arith, p.ends, q.ends, length-append x y); words = q.words ∙ ap (λ (z : List ℕ). z ++ y) p.words ∙ append_assoc (take l o₁) x y }

-- The same words under another name, the same end under another name.
pub append_as : (o₁ o₂ : List ℕ) (l n : ℕ) (x y : List ℕ) → x ≡ y → Appends o₁ l x o₂ n → Appends o₁ l y o₂ n
append_as o₁ o₂ l n x y e p = record { ends = p.ends ∙ ap (λ (z : List ℕ). l + length z) e; words = p.words ∙ ap (λ (z : List ℕ). take l o₁ ++ z) e }

pub append_to : (o₁ o₂ : List ℕ) (l m n : ℕ) (x : List ℕ) → m ≡ n → Appends o₁ l x o₂ m → Appends o₁ l x o₂ n
append_to o₁ o₂ l m n x e p = record { ends = sym e ∙ p.ends; words = ap (λ (k : ℕ). take k o₂) (sym e) ∙ p.words }

-- What stood below stands.
pub append_keeps : (o₁ o₂ : List ℕ) (l n k : ℕ) (x : List ℕ) → k ≤ l → l ≤ length o₁ → Appends o₁ l x o₂ n → take k o₂ ≡ take k o₁
append_keeps o₁ o₂ l n k x h g p =
    sym (take-take k n o₂ (omega (arith, p.ends)))
    ∙ ap (take k) p.words
    ∙ take-append-le k (take l o₁) x (omega (arith, length-take l o₁))
    ∙ take-take k l o₁ h

-- The new words stand from l on.
pub append_stands : (o₁ o₂ : List ℕ) (l n : ℕ) (x : List ℕ) → l ≤ length o₁ → Appends o₁ l x o₂ n → drop l o₂ ≡ x ++ drop n o₂
append_stands o₁ o₂ l n x h p =
    ap (drop l) (sym (take-append-drop n o₂) ∙ ap (λ (z : List ℕ). z ++ drop n o₂) p.words ∙ append_assoc (take l o₁) x (drop n o₂))
    ∙ drop_at (take l o₁) (x ++ drop n o₂) l (omega (arith, length-take l o₁))
