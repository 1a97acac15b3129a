use Rattle.std.proofs.Common.{◌-◌, length}
use Rattle.terms.proofs.Walking.{ToCome}
use Rattle.terms.proofs.walk.end_of.Given as goal

abbrev pub invariant-loop-pending : goal.invariant-loop-pending
invariant-loop-pending l = ToCome l.words l.at l.place l.pending

abbrev pub decreases-loop-pending : goal.decreases-loop-pending
decreases-loop-pending l = length l.words - l.place
