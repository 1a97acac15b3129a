use Rattle.std.proofs.Common.{◌+◌, ◌||◌, drop, sym, refl, ap, ◌∙◌, drop_of_length-le}
use Rattle.std.proofs.lemmas.List.{at_drop_more}
use Rattle.std.specs.Prelude.{nat_eq}
use Rattle.std.specs.Cmp.Lexicographic.{pointwise}
use Rattle.std.specs.List.{list_any}
use Rattle.syntax.proofs.scan.is_listed.Goals as goal

pub loop-listed-init : goal.loop-listed-init
loop-listed-init c = refl

pub returns-then-same_items : goal.returns-then-same_items
returns-then-same_items c =
    let F = list_any (λ k. pointwise nat_eq k.now c.args.word.now) in
    let i = c.loop-listed.listed-index in
    sym (c.loop-listed.invariant ∙ at_drop_more F c.args.table.now i _ c.loop-listed-test.true ∙ ap (λ b. b || F (drop (i + 1) c.args.table.now)) (sym c.if-same_items.ensures))

pub loop-listed-preserved : goal.loop-listed-preserved
loop-listed-preserved c =
    let F = list_any (λ k. pointwise nat_eq k.now c.args.word.now) in
    let i = c.loop-listed.listed-index in
    c.loop-listed.invariant ∙ at_drop_more F c.args.table.now i _ c.loop-listed-test.true ∙ ap (λ b. b || F (drop (i + 1) c.args.table.now)) (sym c.if-same_items.ensures)

pub returns : goal.returns
returns c =
    let F = list_any (λ k. pointwise nat_eq k.now c.args.word.now) in
    sym (c.loop-listed.invariant ∙ ap F (drop_of_length-le c.args.table.now c.loop-listed-test.false))
