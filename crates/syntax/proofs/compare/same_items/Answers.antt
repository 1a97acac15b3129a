use Rattle.std.proofs.Common.{◌+◌, ◌&&◌, drop, sym, refl, ap, ◌∙◌, arith}
use Rattle.std.specs.Cmp.Lexicographic.{pointwise}
use Rattle.syntax.proofs.Same.{pairs_left, no_pairs_left, not_true, not_false}
use Rattle.syntax.proofs.compare.same_items.Goals as goal

pub loop-i-init : goal.loop-i-init
loop-i-init g c = (c.if-left-right.false, refl)

pub returns-then-ne : goal.returns-then-ne
returns-then-ne g c =
    let E = g.T.PartialEq.eq in
    let xs = c.args.left.now in
    let ys = c.args.right.now in
    let i = c.loop-i.i in
    let inv = c.loop-i.invariant in
    let x = c.index-left-i in
    let y = c.index-right-i in
    sym (inv.1 ∙ pairs_left E xs ys i x.result y.result c.loop-i-test.true (omega (arith, c.loop-i-test.true, inv.0)) x.is y.is ∙ ap (λ b. b && pointwise E (drop (i + 1) xs) (drop (i + 1) ys)) (not_true _ c.if-ne.ensures))

pub loop-i-preserved : goal.loop-i-preserved
loop-i-preserved g c =
    let E = g.T.PartialEq.eq in
    let xs = c.args.left.now in
    let ys = c.args.right.now in
    let i = c.loop-i.i in
    let inv = c.loop-i.invariant in
    let x = c.index-left-i in
    let y = c.index-right-i in
    (inv.0, inv.1 ∙ pairs_left E xs ys i x.result y.result c.loop-i-test.true (omega (arith, c.loop-i-test.true, inv.0)) x.is y.is ∙ ap (λ b. b && pointwise E (drop (i + 1) xs) (drop (i + 1) ys)) (not_false _ c.if-ne.ensures))

pub returns : goal.returns
returns g c =
    let inv = c.loop-i.invariant in
    sym (inv.1 ∙ no_pairs_left g.T.PartialEq.eq c.args.left.now c.args.right.now c.loop-i.i c.loop-i-test.false (omega (arith, c.loop-i-test.false, inv.0)))
