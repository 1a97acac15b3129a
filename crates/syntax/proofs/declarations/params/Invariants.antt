use Rattle.std.proofs.Common.{[], length}
use Rattle.syntax.specs.Reader.{read_params}
use Rattle.syntax.specs.Declaring.{param_words, param_stage}
use Rattle.syntax.proofs.Items.{Items}
use Rattle.syntax.proofs.declarations.params.Given as goal

abbrev pub invariant-loop-inner : goal.invariant-loop-inner
invariant-loop-inner l = Items read_params param_words (λ p. []) param_stage l.bytes l.initial.out l.initial.out l.out l.initial.out l.all.rest.now l.all.stage

abbrev pub decreases-loop-inner : goal.decreases-loop-inner
decreases-loop-inner l = length l.all.rest.now
