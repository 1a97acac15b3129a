use Rattle.std.proofs.Common.{◌-◌, length}
use Rattle.terms.proofs.Walking.{Pairs}
use Rattle.terms.proofs.walk.equal.Given as goal

abbrev pub invariant-loop-pairs : goal.invariant-loop-pairs
invariant-loop-pairs l = Pairs l.left l.right l.i l.j l.p l.q l.pairs

abbrev pub decreases-loop-pairs : goal.decreases-loop-pairs
decreases-loop-pairs l = length l.left - l.p
