use Rattle.std.proofs.Common.{length}
use Rattle.kernel.proofs.Reduced.{normal_rests}
use Rattle.kernel.proofs.rested.to_normal.Goals as goal

pub returns-in-Reached : goal.returns-in-Reached
returns-in-Reached c e t at s = normal_rests e _ _ _ _ (length c.args.stack.now) t _ _ _ c.in-Reached.is (c.in_ok-end.ensures e t at s)
