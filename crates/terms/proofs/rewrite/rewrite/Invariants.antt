use Rattle.std.proofs.Common.{◌-◌, length}
use Rattle.theory.specs.Terms.{Term}
use Rattle.terms.proofs.Rewriting.{Doing}
use Rattle.terms.proofs.rewrite.rewrite.Given as goal

abbrev pub invariant-nodes : goal.invariant-nodes
invariant-nodes g l = (u : Term) → g.R.Rule.argument l.rule u → Doing (g.R.Rule.fits l.rule) (g.R.Rule.words l.rule u) l.from l.at l.depth l.initial.out l.start l.place l.end l.free l.binders l.out l.stack

abbrev pub decreases-nodes : goal.decreases-nodes
decreases-nodes g l = length l.from - l.place
