use Rattle.std.proofs.Common.{◌≡◌, drop, ap, ◌∙◌, arith}
use Rattle.terms.specs.Words.{puts}
use Rattle.reduction.proofs.Making.{along_start, along_holds, along_on}
use Rattle.reduction.proofs.make.skip_terms.Goals as goal

pub loop-init : goal.loop-init
loop-init c = along_start c.args.words.now c.args.at c.args.count

pub end_of-place-requires : goal.end_of-place-requires
end_of-place-requires c = along_holds c.args.words.now c.args.at c.args.count c.loop.counter c.loop.place c.loop.invariant c.requires c.loop-test.true

pub loop-preserved : goal.loop-preserved
loop-preserved c = along_on c.args.words.now c.args.at c.args.count c.loop.counter c.loop.place c.end_of-place.result c.loop.invariant c.loop-test.true c.end_of-place.ensures

pub returns : goal.returns
returns c = λ ts rest p l. c.loop.invariant.row ts rest p l ∙ ap (λ i. puts (drop i ts) rest) (let z : c.loop.counter ≡ c.args.count = omega arith in z)
