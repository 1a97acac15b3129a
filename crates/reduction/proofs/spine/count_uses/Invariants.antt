use Rattle.std.proofs.Common.{◌-◌, length}
use Rattle.reduction.proofs.Reading.{Down}
use Rattle.reduction.proofs.spine.count_uses.Given as goal

abbrev pub invariant-loop-place : goal.invariant-loop-place
invariant-loop-place l = Down l.words l.at l.place l.count

abbrev pub decreases-loop-place : goal.decreases-loop-place
decreases-loop-place l = length l.words - l.place
