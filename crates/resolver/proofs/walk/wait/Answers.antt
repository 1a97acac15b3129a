use Rattle.std.proofs.Common.{ℕ, ◌-◌, set, ◌∙◌, subst as tr}
use denote.Enum.Declared.{tag_of}
use Rattle.resolver.specs.contracts.walk.FrameKind.{the_type}
use Rattle.resolver.specs.Frames.{PushesTwo}
use Rattle.resolver.proofs.Stacked.{pushed_two, frame_tag}
use Rattle.resolver.proofs.walk.wait.Goals as goal

pub returns : goal.returns
returns c =
    tr (λ (v : ℕ). PushesTwo c.args.stack.now c.args.free v c.args.name (set (set c.args.stack.now (c.args.free - 2) (tag_of the_type c.kind_of.result)) (c.args.free - 1) c.args.name) (c.args.free - 2))
    (frame_tag c.kind_of.result ∙ c.kind_of.ensures) (pushed_two _ _ _ _ c.requires.low c.requires.within)
