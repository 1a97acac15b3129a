use Rattle.std.proofs.Common.{◌≡◌, length, drop}
use Rattle.std.specs.Cmp.Lexicographic.{pointwise}
use Rattle.syntax.proofs.compare.same_items.Given as goal

abbrev pub invariant-loop-i : goal.invariant-loop-i
invariant-loop-i g l = (length l.left ≡ length l.right) × (pointwise g.T.PartialEq.eq l.left l.right ≡ pointwise g.T.PartialEq.eq (drop l.i l.left) (drop l.i l.right))
