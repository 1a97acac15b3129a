use Rattle.std.proofs.Common.{take}
use Rattle.syntax.specs.Writing.{Appends}
use Rattle.syntax.proofs.write.Writer.push_bytes.Given as goal

abbrev pub invariant-loop-b : goal.invariant-loop-b
invariant-loop-b l = Appends l.initial.self (take l.b-index l.name) l.self
