use Rattle.std.proofs.Common.{◌≡◌, ◌<◌, drop}
use Rattle.syntax.specs.Grammar.{digits}
use Rattle.syntax.proofs.Scanning.{tens}
use Rattle.syntax.proofs.scan.value_of.Given as goal

abbrev pub invariant-loop-b : goal.invariant-loop-b
invariant-loop-b l = (digits 0 l.word ≡ digits l.value (drop l.b-index l.word)) × (l.value < tens l.b-index)
