use Rattle.std.proofs.Common.{arith}
use Rattle.reduction.proofs.Reading.{down_start, down_on, down_end, down_holds}
use Rattle.reduction.proofs.spine.count_uses.Goals as goal

pub loop-place-init : goal.loop-place-init
loop-place-init c = down_start c.args.words.now c.args.at c.requires

pub sign_at-requires : goal.sign_at-requires
sign_at-requires c = down_holds c.args.words.now c.args.at c.loop-place.place c.loop-place.count c.requires c.loop-place.invariant

pub loop-place-preserved : goal.loop-place-preserved
loop-place-preserved c = down_on c.args.words.now c.args.at c.loop-place.place c.loop-place.count c.sign_at.result c.requires c.loop-place.invariant c.sign_at.ensures c.in-App.is

pub returns : goal.returns
returns c = record {
  within = omega (arith, c.loop-place.invariant.placed, c.loop-place.invariant.within);
  head = down_end c.args.words.now c.args.at c.loop-place.place c.loop-place.count c.sign_at.result c.loop-place.invariant c.sign_at.ensures c.in_default.not-App;
}
