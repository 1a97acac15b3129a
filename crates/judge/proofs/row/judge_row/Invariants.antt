use Rattle.std.proofs.Common.{ℕ, List, length}
use Rattle.syntax.specs.Surface.{Decl}
use Rattle.judge.specs.Judging.{Begins}
use Rattle.judge.proofs.Rows.{Along}
use Rattle.judge.proofs.row.judge_row.Given as goal

abbrev pub invariant-loop-after : goal.invariant-loop-after
invariant-loop-after l =
    (t : List ℕ) (ds : List Decl) → Begins t l.tree l.count (length l.fn.names) (length l.fn.work) ds → Along t l.tree l.index l.table l.store (length l.names) l.spot l.after ds
