use Rattle.reduction.proofs.Turning.{State}
use Rattle.reduction.proofs.Looping.{left}
use Rattle.reduction.proofs.find.find.Given as goal

abbrev pub invariant-pass : goal.invariant-pass
invariant-pass l = State l.env.index.now l.env.store.now l.heap l.at l.place l.before l.hit l.stack l.free

abbrev pub decreases-pass : goal.decreases-pass
decreases-pass l = left l.heap l.place l.stack l.free l.hit
