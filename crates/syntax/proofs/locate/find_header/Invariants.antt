use Rattle.std.proofs.Common.{◌≡◌, ℕ, List, ◌++◌, length}
use Rattle.syntax.specs.Tokens.{tokens}
use Rattle.syntax.specs.Headers.{nth_decl}
use Rattle.syntax.proofs.locate.find_header.Given as goal

abbrev pub invariant-loop-cut : goal.invariant-loop-cut
invariant-loop-cut l = (nth_decl l.n (tokens l.text) ≡ nth_decl l.left (tokens l.rest)) × ((front : List ℕ) × (l.text ≡ front ++ l.rest))

abbrev pub decreases-loop-cut : goal.decreases-loop-cut
decreases-loop-cut l = length l.rest
