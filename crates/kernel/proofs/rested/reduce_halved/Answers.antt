use Rattle.std.proofs.Common.{length, arith}
use Rattle.kernel.proofs.Reduced.{reduce_limited}
use Rattle.kernel.proofs.rested.reduce_halved.Goals as goal

pub returns-in_err-reduce : goal.returns-in_err-reduce
returns-in_err-reduce c e t at s =
    reduce_limited e c.args.aim c.args.budget.taken c.args.budget.most c.args.heap.now c.args.at _ _ (length c.args.stack.now) t c.reduce.new.heap (omega (arith, c.split_at_mut-scratch.ensures.front_len)) (omega (arith, c.split_at_mut-scratch.ensures.back_len)) at.plain
    c.in_err-reduce.field-0.0 c.from_residual.result c.from_residual.ensures.1 (c.in_err-reduce.ensures e t at.at s)
