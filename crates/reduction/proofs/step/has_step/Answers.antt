use Rattle.std.proofs.Common.{length, take, drop, arith}
use Rattle.reduction.proofs.Standing.{findable, stands_here, stands_front, step_found}
use Rattle.reduction.proofs.step.has_step.Goals as goal

pub find-requires : goal.find-requires
find-requires c = findable c.args.env.index.now c.args.env.store.now c.args.heap.now c.args.at c.args.end (length c.args.stack.now) c.requires c.if-stack-end.false

pub returns-then-stack-end : goal.returns-then-stack-end
returns-then-stack-end c = λ e t v s. omega (arith, s.ends, c.if-stack-end.true)

pub returns : goal.returns
returns c = λ e t v s.
    rw c.is_some.ensures (step_found e c.args.heap.now (take c.args.at c.args.heap.now) t (drop c.args.end c.args.heap.now) (length c.args.stack.now) c.find.result
    (c.find.ensures e (take c.args.at c.args.heap.now) (drop c.args.end c.args.heap.now) t v (stands_here c.args.heap.now c.args.at t c.args.end s) (stands_front c.args.heap.now c.args.at t c.args.end s)))
