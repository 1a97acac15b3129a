-- Words written one behind the other: nothing, and one piece behind another; and words put before others.
use Rattle.std.proofs.Common.{◌≡◌, ℕ, ◌+◌, ◌-◌, ◌≤◌, min, List, [], ◌++◌, length, take, drop, sym, refl, ap, ◌∙◌, ap₂, append_assoc, append-nil, arith, length-append, length-drop, length-take}
use Rattle.std.proofs.lemmas.List.{take_at, drop_at, take-take, take-append-le, drop-append-le}
use Rattle.std.proofs.lemmas.Slice.{between_is, take-put_mid}
use borrow.Rule.Slice.PartMut.{put_mid}
use Rattle.syntax.specs.Writing.{Appends, Inserts}
use Rattle.syntax.specs.declared.write.Writer.{Writer}

pub append_none : (o : Writer) → Appends o [] o
append_none o = record { ends = omega arith; words = sym (append-nil _); room = refl; same = refl }

pub append_then : {o₁ o₂ o₃ : Writer} {x y : List ℕ} → Appends o₁ x o₂ → Appends o₂ y o₃ → Appends o₁ (x ++ y) o₃
append_then {o₁} {x} {y} p q =
    record {
      ends = omega (arith, p.ends, q.ends, length-append x y);
      words = q.words ∙ ap (λ (z : List ℕ). z ++ y) p.words ∙ append_assoc (take o₁.len o₁.words.now) x y;
      room = q.room ∙ p.room;
      same = q.same ∙ p.same;
    }

-- All that is written, where nothing was written before.
pub from_start : {o₁ o₂ : Writer} {x : List ℕ} → o₁.len ≡ 0 → Appends o₁ x o₂ → take o₂.len o₂.words.now ≡ x
from_start {o₁} {x} e p = p.words ∙ ap (λ (k : ℕ). take k o₁.words.now ++ x) e

-- The same words under another name.
pub append_as : {o₁ o₂ : Writer} {x y : List ℕ} → x ≡ y → Appends o₁ x o₂ → Appends o₁ y o₂
append_as {o₁} e p =
    record { ends = p.ends ∙ ap (λ (z : List ℕ). o₁.len + length z) e; words = p.words ∙ ap (λ (z : List ℕ). take o₁.len o₁.words.now ++ z) e; room = p.room; same = p.same }

-- Words that stand behind what was written, turned to its front: what stood from start on, and behind it new words.
front : (o₁ o₂ : Writer) (start : ℕ) (new : List ℕ) → start ≤ o₁.len → o₁.len ≤ length o₁.words.now → Appends o₁ new o₂ → take start o₂.words.now ≡ take start o₁.words.now
front o₁ o₂ start new h k p =
    sym (take-take start o₂.len o₂.words.now (omega (arith, p.ends)))
    ∙ ap (take start) p.words
    ∙ take-append-le start (take o₁.len o₁.words.now) new (omega (arith, length-take o₁.len o₁.words.now))
    ∙ take-take start o₁.len o₁.words.now h

middle : (o₁ o₂ : Writer) (start : ℕ) (new : List ℕ) → start ≤ o₁.len → o₁.len ≤ length o₁.words.now → Appends o₁ new o₂
    → take (o₂.len - start) (drop start o₂.words.now) ≡ drop start (take o₁.len o₁.words.now) ++ new
middle o₁ o₂ start new h k p =
    between_is o₂.words.now start o₂.len ∙ ap (drop start) p.words ∙ drop-append-le start (take o₁.len o₁.words.now) new (omega (arith, length-take o₁.len o₁.words.now))

pub append_front : (o₁ o₂ o₃ : Writer) (r : List ℕ) (start : ℕ) (new : List ℕ) (k : ℕ) → start ≤ o₁.len → o₁.len ≤ length o₁.words.now → o₂.len ≤ length o₂.words.now → k ≡ length new → Appends o₁ new o₂
    → r ≡ drop (length (take (o₂.len - start) (drop start o₂.words.now)) - k) (take (o₂.len - start) (drop start o₂.words.now)) ++ take (length (take (o₂.len - start) (drop start o₂.words.now)) - k) (take (o₂.len - start) (drop start o₂.words.now))
    → o₃.len ≡ o₂.len → o₃.words.now ≡ put_mid start (o₂.len - start) o₂.words.now r → length o₃.words.now ≡ length o₂.words.now → o₃.words.ghost_name ≡ o₂.words.ghost_name
    → Inserts o₁ start new o₃
append_front o₁ o₂ o₃ r start new k h l e q p t a b d g =
    let len = o₁.len in
    let end = o₂.len in
    let ws = o₂.words.now in
    let x = drop start (take len o₁.words.now) in
    let m = middle o₁ o₂ start new h l p in
    let n : length x ≡ len - start = length-drop start (take len o₁.words.now) ∙ ap (λ (j : ℕ). j - start) (length-take len o₁.words.now ∙ (let z : min len (length o₁.words.now) ≡ len = omega arith in z)) in
    let s : length (take (end - start) (drop start ws)) - k ≡ length x = omega (arith, ap length m, length-append x new) in
    let t' : r ≡ new ++ x = t ∙ ap₂ (λ (i : ℕ) (w : List ℕ). drop i w ++ take i w) s m ∙ ap₂ ◌++◌ (drop_at x new (length x) refl) (take_at x new (length x) refl) in
    let u : length (new ++ x) ≡ end - start = length-append new x ∙ (let z : length new + length x ≡ end - start = omega (arith, p.ends) in z) in
    record {
      ends = omega (arith, a, p.ends, u);
      words = ap₂ take a b ∙ take-put_mid start (end - start) ws r end (omega (arith, ap length t')) (omega (arith, p.ends)) ∙ ap₂ ◌++◌ (front o₁ o₂ start new h l p) t';
      room = d ∙ p.room;
      same = g ∙ p.same;
    }

-- Words put before what was written last.
pub append_before : {before o o₁ : Writer} {x : List ℕ} (y : List ℕ) → before.len ≤ length before.words.now → Appends before x o → Inserts o before.len y o₁ → Appends before (y ++ x) o₁
append_before {before} {o} {o₁} {x} y l p q =
    let len = before.len in
    let e : drop len (take o.len o.words.now) ≡ x = ap (drop len) p.words ∙ drop_at (take len before.words.now) x len (length-take len before.words.now ∙ (let z : min len (length before.words.now) ≡ len = omega arith in z)) in
    record {
      ends = q.ends ∙ ap (λ (z : List ℕ). len + length (y ++ z)) e;
      words = q.words ∙ ap₂ ◌++◌ (front before o len x (omega arith) l p) (ap (λ (z : List ℕ). y ++ z) e);
      room = q.room ∙ p.room;
      same = q.same ∙ p.same;
    }
