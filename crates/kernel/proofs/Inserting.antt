-- Words written behind a piece and then turned to its front.
use Rattle.std.proofs.Common.{◌≡◌, ℕ, ◌+◌, ◌-◌, ◌≤◌, min, List, [], ◌∷◌, ◌++◌, length, take, drop, sym, refl, ap, ◌∙◌, ap₂, arith, length-append, length-drop, length-take}
use Rattle.std.proofs.lemmas.List.{take_at, drop_at, take-take, take-append-le, drop-append-le}
use Rattle.std.proofs.lemmas.Slice.{between_is, take-put_mid}
use borrow.Rule.Slice.PartMut.{put_mid}
use Rattle.theory.specs.Terms.{Term, pi}
use Rattle.terms.specs.Words.{put}
use Rattle.terms.specs.Writing.{Appends}
use Rattle.terms.proofs.Nodes.{put-length}
use Rattle.terms.proofs.Appending.{append_as, append_then}
use Rattle.reduction.specs.Stepping.{Stands}
use Rattle.reduction.proofs.Putting.{put_is}

-- Words that stand behind what was written, turned to its front: what stood from start to len, and behind it new words up to end.
front : (o₁ o₂ : List ℕ) (start len end : ℕ) (new : List ℕ) → start ≤ len → len ≤ length o₁ → Appends o₁ len new o₂ end → take start o₂ ≡ take start o₁
front o₁ o₂ start len end new h k p =
    sym (take-take start end o₂ (omega (arith, p.ends)))
    ∙ ap (take start) p.words
    ∙ take-append-le start (take len o₁) new (omega (arith, length-take len o₁))
    ∙ take-take start len o₁ h

middle : (o₁ o₂ : List ℕ) (start len end : ℕ) (new : List ℕ) → start ≤ len → len ≤ length o₁ → Appends o₁ len new o₂ end
    → take (end - start) (drop start o₂) ≡ drop start (take len o₁) ++ new
middle o₁ o₂ start len end new h k p =
    between_is o₂ start end ∙ ap (drop start) p.words ∙ drop-append-le start (take len o₁) new (omega (arith, length-take len o₁))

pub append_front : (o₁ o₂ r : List ℕ) (start len end : ℕ) (new : List ℕ) (k : ℕ) → start ≤ len → len ≤ length o₁ → end ≤ length o₂ → k ≡ length new → Appends o₁ len new o₂ end
    → r ≡ drop (length (take (end - start) (drop start o₂)) - k) (take (end - start) (drop start o₂)) ++ take (length (take (end - start) (drop start o₂)) - k) (take (end - start) (drop start o₂))
    → Appends o₁ start (new ++ drop start (take len o₁)) (put_mid start (end - start) o₂ r) end
append_front o₁ o₂ r start len end new k h l e q p t =
    let x = drop start (take len o₁) in
    let m = middle o₁ o₂ start len end new h l p in
    let n : length x ≡ len - start = length-drop start (take len o₁) ∙ ap (λ (j : ℕ). j - start) (length-take len o₁ ∙ (let z : min len (length o₁) ≡ len = omega arith in z)) in
    let s : length (take (end - start) (drop start o₂)) - k ≡ length x = omega (arith, ap length m, length-append x new) in
    let t' : r ≡ new ++ x = t ∙ ap₂ (λ (i : ℕ) (w : List ℕ). drop i w ++ take i w) s m ∙ ap₂ ◌++◌ (drop_at x new (length x) refl) (take_at x new (length x) refl) in
    let u : length (new ++ x) ≡ end - start = length-append new x ∙ (let z : length new + length x ≡ end - start = omega (arith, p.ends) in z) in
    record {
      ends = omega (arith, p.ends, u);
      words = take-put_mid start (end - start) o₂ r end (omega (arith, ap length t')) (omega (arith, p.ends)) ∙ ap₂ ◌++◌ (front o₁ o₂ start len end new h l p) t';
    }

-- A function type made of a term that stands and a domain written behind it.
pub pi_inserted : (heap heap₁ heap₂ r : List ℕ) (top end start stop k : ℕ) (a c : Term) → Stands heap top c end → end ≤ length heap → stop ≤ length heap₂ → k ≡ stop - end
    → Appends heap end (0 ∷ 0 ∷ 0 ∷ []) heap₁ start → Appends heap₁ start (put a []) heap₂ stop
    → r ≡ drop (length (take (stop - top) (drop top heap₂)) - k) (take (stop - top) (drop top heap₂)) ++ take (length (take (stop - top) (drop top heap₂)) - k) (take (stop - top) (drop top heap₂))
    → Appends heap top (put (pi a c) []) (put_mid top (stop - top) heap₂ r) stop
pi_inserted heap heap₁ heap₂ r top end start stop k a c s l m q p t e =
    append_as heap _ top stop _ _ words
    (append_front heap heap₂ r top end stop (0 ∷ 0 ∷ 0 ∷ put a []) k (omega (arith, s.ends)) l m (omega (arith, p.ends, t.ends, put-length a []))
    (append_then heap heap₁ heap₂ end start stop (0 ∷ 0 ∷ 0 ∷ []) (put a []) p t) e)
  where
    tail : drop top (take end heap) ≡ put c []
    tail = ap (drop top) s.words ∙ drop_at (take top heap) (put c []) top (length-take top heap ∙ (let z : min top (length heap) ≡ top = omega (arith, s.ends) in z))

    words : (0 ∷ 0 ∷ 0 ∷ put a []) ++ drop top (take end heap) ≡ put (pi a c) []
    words = ap (λ (w : List ℕ). 0 ∷ 0 ∷ 0 ∷ (put a [] ++ w)) tail ∙ ap (λ (w : List ℕ). 0 ∷ 0 ∷ 0 ∷ w) (sym (put_is a (put c [])))
