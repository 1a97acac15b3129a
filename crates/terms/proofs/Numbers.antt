-- Numbers in two words.
use Rattle.std.proofs.Common.{◌≡◌, ℕ, ◌+◌, ◌-◌, ◌*◌, ◌/◌, ◌%◌, ◌≤◌, List, ◌∷◌, ◌++◌, length, get_or, take, drop, set, sym, ap, ◌∙◌, arith, length-append, length-drop, length-take}
use Rattle.std.proofs.lemmas.List.{get_or-drop, drop-set, drop-set-add, drop_more, take-set-le}
use Rattle.std.proofs.lemmas.Slice.{drop-put_mid}
use borrow.Rule.Slice.PartMut.{post_of}
use Rattle.terms.specs.Words.{number}
use Rattle.terms.specs.Writing.{Pushes}
use Rattle.terms.proofs.Nodes.{join}

pub number_read : (ws : List ℕ) (p x : ℕ) (rest : List ℕ) → drop p ws ≡ number x rest → get_or ws p 0 + 4294967296 * get_or ws (p + 1) 0 ≡ x
number_read ws p x rest e =
    let a : get_or ws p 0 ≡ x % 4294967296 = ap (λ (k : ℕ). get_or ws k 0) (let z : p ≡ p + 0 = omega arith in z) ∙ sym (get_or-drop p ws 0 0) ∙ ap (λ (z : List ℕ). get_or z 0 0) e in
    let b : get_or ws (p + 1) 0 ≡ x / 4294967296 = sym (get_or-drop p ws 1 0) ∙ ap (λ (z : List ℕ). get_or z 1 0) e in
    omega (arith, join x)

number-set : (s : List ℕ) (n a b : ℕ) → n + 2 ≤ length s → drop n (set (set s n a) (n + 1) b) ≡ a ∷ b ∷ drop (n + 2) s
number-set s n a b h =
    drop-set-add n (set s n a) 1 b ∙ ap (λ (z : List ℕ). set z 1 b) (drop-set s n a (omega arith) ∙ ap (λ (z : List ℕ). a ∷ z) (drop_more s (n + 1) 0 (omega arith)))
    ∙ ap (λ (k : ℕ). a ∷ b ∷ drop k s) (let z : n + 1 + 1 ≡ n + 2 = omega arith in z)

pub number_pushed : (s : List ℕ) (free x : ℕ) → 2 ≤ free → free ≤ length s → Pushes s free x (set (set s (free - 2) (x % 4294967296)) (free - 1) (x / 4294967296)) (free - 2)
number_pushed s free x h k = record {
  grows = omega arith;
  words =
      ap (λ (j : ℕ). drop (free - 2) (set (set s (free - 2) (x % 4294967296)) j (x / 4294967296))) (let z : free - 1 ≡ free - 2 + 1 = omega arith in z)
      ∙ number-set s (free - 2) _ _ (omega arith) ∙ ap (λ (j : ℕ). number x (drop j s)) (let z : free - 2 + 2 ≡ free = omega arith in z);
  kept = take-set-le (free - 2) (set s (free - 2) _) (free - 1) _ (omega arith) ∙ take-set-le (free - 2) s (free - 2) _ (omega arith);
}

-- The same number under another name.
pub push_as : (s₁ s₂ : List ℕ) (free top x y : ℕ) → x ≡ y → Pushes s₁ free x s₂ top → Pushes s₁ free y s₂ top
push_as s₁ s₂ free top x y e p = record { grows = p.grows; words = p.words ∙ ap (λ (z : ℕ). number z (drop free s₁)) e; kept = p.kept }

-- What a call leaves of a stack of which it was lent the words below free: those from free on stand.
pub lent_stands : (s part : List ℕ) (free : ℕ) → free ≤ length s → length part ≡ length (take (free - 0) (drop 0 s)) → drop free (part ++ post_of 0 (free - 0) s) ≡ drop free s
lent_stands s part free h e = drop-put_mid 0 (free - 0) s part free (omega arith) (omega arith) (omega (arith, length-take (free - 0) s))

pub lent_length : (s part : List ℕ) (free : ℕ) → free ≤ length s → length part ≡ length (take (free - 0) (drop 0 s)) → length (part ++ post_of 0 (free - 0) s) ≡ length s
lent_length s part free h e = omega (arith, length-append part (post_of 0 (free - 0) s), length-take (free - 0) s, length-drop (free - 0) s)
