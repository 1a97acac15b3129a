use Rattle.std.proofs.Common.{ap, ◌∙◌, arith}
use mathlib.Core.Option.{Option}
use Rattle.theory.specs.Environment.{DataType}
use Rattle.reduction.specs.Lookup.{con_at}
use Rattle.reduction.proofs.Storing.{data_words, get_past, get_there}
use Rattle.reduction.proofs.store.Environment.con_numbers.Goals as goal

pub returns-then-self-place : goal.returns-then-self-place
returns-then-self-place c = λ e v.
    let (k, p, x) = c.in_ok-place.ensures.finds e v in
    let w = data_words c.args.self.store.now c.in_ok-place.place k x in
    ap (λ (o : Option DataType). con_at o c.args.which) p ∙ get_past k.cons c.args.which (omega (arith, w.cons, c.if-self-place.true))

pub returns : goal.returns
returns c = λ e v.
    let (k, p, x) = c.in_ok-place.ensures.finds e v in
    let w = data_words c.args.self.store.now c.in_ok-place.place k x in
    let (d, q) = get_there k.cons c.args.which (omega (arith, w.cons, c.if-self-place.false)) in
    (d, ap (λ (o : Option DataType). con_at o c.args.which) p ∙ q, w.fields c.args.which d q, w.recs c.args.which d q)
