use Rattle.judge.proofs.Going.{entered_definition, entered_axiom}
use Rattle.judge.proofs.next.enter.Goals as goal

pub returns-in-Some : goal.returns-in-Some
returns-in-Some c d b = entered_definition _ _ _ _ _ _ _ _ _ b c.in-Some.is c.enter_definition.ensures

pub returns-in-None : goal.returns-in-None
returns-in-None c d b = entered_axiom _ _ _ _ _ _ _ _ b c.in-None.is c.enter_axiom.ensures
