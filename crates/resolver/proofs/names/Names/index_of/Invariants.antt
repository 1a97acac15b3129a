use Rattle.std.proofs.Common.{◌≡◌, ◌+◌, ◌≤◌, length}
use Rattle.resolver.proofs.Bindings.{LookingAll}
use Rattle.resolver.proofs.names.Names.index_of.Given as goal

abbrev pub invariant-loop-frame : goal.invariant-loop-frame
invariant-loop-frame l = record {
  size : l.frame-iterator.size ≡ 2;
  few : l.index + length l.frame-iterator.rest.now ≤ length l.self.frames.now;
  looking : LookingAll l.self.tree.now l.self.frames.now l.name l.frame-iterator.rest.now l.index;
}
