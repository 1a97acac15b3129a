use Rattle.resolver.proofs.Stacked.{enter_waits, enter_body}
use Rattle.resolver.proofs.walk.enter.Goals as goal

pub returns-then-stack-free : goal.returns-then-stack-free
returns-then-stack-free c fs base a = enter_waits _ _ _ fs base a c.requires.some c.if-stack-free.true

pub returns : goal.returns
returns c fs base a = enter_body _ _ _ fs base a c.requires.some c.requires.framed.within c.if-stack-free.false
