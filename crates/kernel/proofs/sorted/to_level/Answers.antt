use Rattle.std.proofs.Common.{length, arith}
use Rattle.kernel.proofs.Reduced.{stands_within, level_read, level_limited}
use Rattle.kernel.proofs.sorted.to_level.Goals as goal

pub overflow_add-result : goal.overflow_add-result
overflow_add-result c = omega (arith, (stands_within _ _ _ _ c.requires.ready.stands).0)

pub offset_bounds-heap-at : goal.offset_bounds-heap-at
offset_bounds-heap-at c = omega (arith, (stands_within _ _ _ _ c.requires.ready.stands).0)

pub bounds-heap-at : goal.bounds-heap-at
bounds-heap-at c = omega (arith, (stands_within _ _ _ _ c.requires.ready.stands).0)

pub returns-in-Reached : goal.returns-in-Reached
returns-in-Reached c e t at s = level_read e _ _ _ (length c.args.stack.now) _ t _ _ _ _ c.in-Reached.is s (c.in_ok-reduce_halved.ensures e t at s)

pub returns-in_err-reduce_halved : goal.returns-in_err-reduce_halved
returns-in_err-reduce_halved c e t at s = level_limited e _ _ _ _ t _ _ _ c.from_residual.ensures.1 (c.in_err-reduce_halved.ensures e t at s)
