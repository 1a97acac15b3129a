-- Words copied, to another slice or down in the same one.
use Rattle.std.proofs.Common.{◌≡◌, ℕ, ◌+◌, ◌-◌, ◌*◌, ◌≤◌, List, [], ◌++◌, length, take, drop, ap, ◌∙◌, arith, length-drop, length-take}
use Rattle.std.proofs.lemmas.List.Edits.{take-paste}
use Rattle.std.proofs.lemmas.Slice.{between_is, take-put_mid}
use borrow.Rule.Slice.PartMut.{put_mid}
use lib.Seq.{paste}
use Rattle.theory.specs.Terms.{Term, size}
use Rattle.terms.specs.Words.{put, At}
use Rattle.terms.specs.Writing.{Appends}
use Rattle.terms.proofs.Appending.{append_as}
use Rattle.terms.proofs.Places.{at_words}

-- A part of a slice written whole.
pub part_written : (o new : List ℕ) (start stop k : ℕ) → start ≤ length o → stop ≡ start + length new → Appends o start new (put_mid start k o new) stop
part_written o new start stop k h e = record { ends = e; words = take-put_mid start k o new stop e h }

-- Words moved within a slice.
pub words_moved : (o : List ℕ) (to from end : ℕ) → from ≤ end → end ≤ length o → to ≤ from → Appends o to (drop from (take end o)) (paste o to (drop from o) (end - from)) (to + (end - from))
words_moved o to from end h k d = record {
  ends = omega (arith, length-drop from (take end o), length-take end o);
  words = take-paste o to (drop from o) (end - from) (omega arith) (omega (arith, length-drop from o)) ∙ ap (λ (z : List ℕ). take to o ++ z) (between_is o from end);
}

-- The words of a term copied are the term copied.
pub copy_term : (o₁ o₂ ws : List ℕ) (start p end n : ℕ) (t : Term) (rest : List ℕ) → At ws p t rest → end ≡ p + 3 * size t
    → Appends o₁ start (drop p (take end ws)) o₂ n → Appends o₁ start (put t []) o₂ n
copy_term o₁ o₂ ws start p end n t rest a e w = append_as _ _ _ _ _ _ (ap (λ (k : ℕ). drop p (take k ws)) e ∙ at_words ws p t rest a) w
