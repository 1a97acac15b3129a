use Rattle.std.proofs.Common.{ap, ◌∙◌, arith, drop_of_length-le}
use Rattle.syntax.specs.Grammar.{digits}
use Rattle.syntax.proofs.Scanning.{tens_small, number_digits}
use Rattle.syntax.proofs.scan.value_of.Goals as goal

pub returns : goal.returns
returns c = (
  number_digits _ c.if-is_empty.ensures c.if-word-gt3.false ∙ c.loop-b.invariant.0
      ∙ ap (digits c.loop-b.value) (drop_of_length-le c.args.word.now c.loop-b-test.false),
  omega (arith, c.loop-b.invariant.1, tens_small c.loop-b.b-index (omega arith)),
)
