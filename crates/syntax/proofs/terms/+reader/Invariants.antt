use Rattle.std.proofs.Common.{◌+◌, ◌*◌, length}
use Rattle.syntax.specs.Reader.{readers}
use Rattle.syntax.specs.Parsing.{term_reader, script_reader}
use Rattle.syntax.proofs.Chains.{Chain}
use Rattle.syntax.proofs.Rows.{Row}
use Rattle.syntax.proofs.terms.+reader.Given as goal

abbrev pub decreases-apply : goal.decreases-apply
decreases-apply l = 8 * length l.bytes.now + 6

abbrev pub decreases-arrow : goal.decreases-arrow
decreases-arrow l = 8 * length l.bytes.now + 2

abbrev pub decreases-atom : goal.decreases-atom
decreases-atom l = 8 * length l.bytes.now

abbrev pub decreases-block : goal.decreases-block
decreases-block l = 8 * length l.bytes.now

abbrev pub decreases-bound : goal.decreases-bound
decreases-bound l = 8 * length l.word.rest.now + 5

abbrev pub decreases-exact : goal.decreases-exact
decreases-exact l = 8 * length l.bytes.now + 5

abbrev pub decreases-function : goal.decreases-function
decreases-function l = 8 * length l.bytes.now

abbrev pub decreases-function_type : goal.decreases-function_type
decreases-function_type l = 8 * length l.word.rest.now + 6

abbrev pub decreases-have : goal.decreases-have
decreases-have l = 8 * length l.bytes.now

abbrev pub decreases-script : goal.decreases-script
decreases-script l = 8 * length l.bytes.now + 4

abbrev pub decreases-script_link : goal.decreases-script_link
decreases-script_link l = 8 * length l.bytes.now + 3

abbrev pub decreases-term : goal.decreases-term
decreases-term l = 8 * length l.bytes.now + 4

abbrev pub decreases-term_link : goal.decreases-term_link
decreases-term_link l = 8 * length l.bytes.now + 3

abbrev pub decreases-uses : goal.decreases-uses
decreases-uses l = 8 * length l.bytes.now + 1

abbrev pub invariant-apply-loop-inner : goal.invariant-apply-loop-inner
invariant-apply-loop-inner l = Row (λ n. (readers n).args) l.initial.all.rest.now l.initial.out l.out l.all.rest.now l.initial.all.stage l.all.stage l.count

abbrev pub decreases-apply-loop-inner : goal.decreases-apply-loop-inner
decreases-apply-loop-inner l = length l.all.rest.now

abbrev pub invariant-script-loop-read : goal.invariant-script-loop-read
invariant-script-loop-read l = Chain script_reader l.bytes l.initial.out l.out l.all.rest.now l.all.stage

abbrev pub decreases-script-loop-read : goal.decreases-script-loop-read
decreases-script-loop-read l = length l.all.rest.now

abbrev pub invariant-term-loop-read : goal.invariant-term-loop-read
invariant-term-loop-read l = Chain term_reader l.bytes l.initial.out l.out l.all.rest.now l.all.stage

abbrev pub decreases-term-loop-read : goal.decreases-term-loop-read
decreases-term-loop-read l = length l.all.rest.now

abbrev pub invariant-uses-loop-out : goal.invariant-uses-loop-out
invariant-uses-loop-out l = Row (λ n. (readers n).row) l.initial.all.rest.now l.initial.out l.out l.all.rest.now l.initial.all.stage l.all.stage l.count

abbrev pub decreases-uses-loop-out : goal.decreases-uses-loop-out
decreases-uses-loop-out l = length l.all.rest.now
