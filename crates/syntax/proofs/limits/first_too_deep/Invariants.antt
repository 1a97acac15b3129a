use Rattle.std.proofs.Common.{◌≡◌, length}
use Rattle.syntax.specs.Tokens.{tokens}
use Rattle.syntax.specs.Grammar.{shallow}
use Rattle.syntax.proofs.limits.first_too_deep.Given as goal

abbrev pub invariant-loop-cut : goal.invariant-loop-cut
invariant-loop-cut l = shallow 0 (tokens l.text) ≡ shallow l.open (tokens l.rest)

abbrev pub decreases-loop-cut : goal.decreases-loop-cut
decreases-loop-cut l = length l.rest
