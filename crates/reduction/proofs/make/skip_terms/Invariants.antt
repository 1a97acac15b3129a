use Rattle.reduction.proofs.Making.{Along}
use Rattle.reduction.proofs.make.skip_terms.Given as goal

abbrev pub invariant-loop : goal.invariant-loop
invariant-loop l = Along l.words l.at l.count l.counter l.place
