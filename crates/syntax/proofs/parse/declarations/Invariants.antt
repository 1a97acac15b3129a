use Rattle.std.proofs.Common.{◌≡◌, ◌+◌, ◌≤◌, length}
use Rattle.syntax.specs.Surface.{decl_names, decl_stage}
use Rattle.syntax.specs.Declaring.{read_all, decl_words}
use Rattle.syntax.proofs.Items.{Items}
use Rattle.syntax.proofs.parse.declarations.Given as goal

abbrev pub invariant-loop-tree : goal.invariant-loop-tree
invariant-loop-tree l = (v : Items read_all decl_words decl_names decl_stage l.bytes l.initial.tree l.initial.names l.tree l.names l.all.rest.now l.all.stage) × (l.count ≡ length v.items) × (l.initial.tree.len + l.count ≤ l.tree.len)

abbrev pub decreases-loop-tree : goal.decreases-loop-tree
decreases-loop-tree l = length l.all.rest.now
