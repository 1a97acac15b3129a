use Rattle.std.proofs.Common.{arith}
use Rattle.kernel.proofs.FrameViews.{frame_view, tag_bound}
use Rattle.kernel.proofs.machine.Machine.back.Goals as goal

pub of-requires : goal.of-requires
of-requires c =
    let b = c.requires.can.behind in
    omega (arith, tag_bound (frame_view b.way c.requires.can.task.start c.args.spot.free c.args.self.now.frames.now b.kept.frames_at c.requires.below))
