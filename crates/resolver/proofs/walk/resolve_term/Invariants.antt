use Rattle.std.proofs.Common.{◌≡◌, ◌-◌, length}
use Rattle.resolver.proofs.Doing.{DoingAll}
use Rattle.resolver.proofs.walk.resolve_term.Given as goal

abbrev pub invariant-loop-sign : goal.invariant-loop-sign
invariant-loop-sign l = record {
  long : length l.stack ≡ length l.initial.stack;
  doing : DoingAll l.tree l.at l.table l.initial.stack l.top l.initial.out l.start l.place l.end l.free l.out l.stack;
}

abbrev pub decreases-loop-sign : goal.decreases-loop-sign
decreases-loop-sign l = length l.tree - l.place
