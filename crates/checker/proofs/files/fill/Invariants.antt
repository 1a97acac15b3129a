use Rattle.std.proofs.Common.{◌≤◌, length}
use Rattle.checker.proofs.files.fill.Given as goal

abbrev pub invariant-loop : goal.invariant-loop
invariant-loop g l = l.at ≤ length l.buf
