use Rattle.std.proofs.Common.{rules}
use Rattle.resolver.proofs.Shapes.{plain_within, plain_tagged}
use Rattle.resolver.proofs.nodes.tag_at.Goals as goal

pub offset_bounds-tree-place : goal.offset_bounds-tree-place
offset_bounds-tree-place c = let h = plain_within _ _ c.requires in search rules

pub bounds-tree-place : goal.bounds-tree-place
bounds-tree-place c = let h = plain_within _ _ c.requires in search rules

pub unreachable-requires : goal.unreachable-requires
unreachable-requires c = plain_tagged _ _ c.requires c.in_default.ensures

pub returns-clause-within : goal.returns-clause-within
returns-clause-within c = plain_within _ _ c.requires
