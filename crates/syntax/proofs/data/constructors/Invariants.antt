use Rattle.std.proofs.Common.{length}
use Rattle.syntax.specs.Reader.{read_cons}
use Rattle.syntax.specs.Declaring.{con_words, con_name, con_stage}
use Rattle.syntax.proofs.Items.{Items}
use Rattle.syntax.proofs.data.constructors.Given as goal

abbrev pub invariant-loop-rest : goal.invariant-loop-rest
invariant-loop-rest l = Items read_cons con_words con_name con_stage l.bytes l.initial.tree l.initial.names l.tree l.names l.all.rest.now l.all.stage

abbrev pub decreases-loop-rest : goal.decreases-loop-rest
decreases-loop-rest l = length l.all.rest.now
