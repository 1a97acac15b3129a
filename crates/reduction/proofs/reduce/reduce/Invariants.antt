use Rattle.std.proofs.Common.{◌-◌, length}
use Rattle.reduction.proofs.Running.{Running}
use Rattle.reduction.proofs.reduce.reduce.Given as goal

abbrev pub invariant-steps : goal.invariant-steps
invariant-steps l = Running l.env.index.now l.env.store.now l.initial.heap l.at l.end (length l.initial.scratch) (length l.initial.stack) l.aim l.budget.taken l.budget.most l.heap l.stop (length l.scratch) (length l.stack) l.steps

abbrev pub decreases-steps : goal.decreases-steps
decreases-steps l = l.budget.most - l.steps
