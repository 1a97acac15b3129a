use Rattle.std.proofs.Common.{◌≡◌}
use Rattle.resolver.proofs.Naming.{RowingAll}
use Rattle.resolver.proofs.names.Names.lookup.Given as goal

abbrev pub invariant-loop-row : goal.invariant-loop-row
invariant-loop-row l = record { size : l.row-iterator.size ≡ 4; rowing : RowingAll l.self.tree.now l.self.table.now l.name l.row-iterator.rest.now }
