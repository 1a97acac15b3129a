use Rattle.std.proofs.Common.{[], refl, ◌∙◌, arith}
use Rattle.syntax.specs.Tokens.{tokens}
use Rattle.syntax.specs.Reader.{read_params}
use Rattle.syntax.specs.Declaring.{param_words, param_stage}
use Rattle.syntax.proofs.Gives.{option_not}
use Rattle.syntax.proofs.Appending.{append_none, append_then, append_as}
use Rattle.syntax.proofs.Following.{fails}
use Rattle.syntax.proofs.Items.{items_start, items_more, items_as, items_none, items_end}
use Rattle.syntax.proofs.DeclReadings.{params_apart, params_level, params_next, params_stop}
use Rattle.syntax.proofs.declarations.params.Goals as goal

pub loop-inner-init : goal.loop-inner-init
loop-inner-init c = items_start read_params param_words (λ p. []) param_stage _ _ _

pub returns-in_err-read : goal.returns-in_err-read
returns-in_err-read c =
    let e = c.in-Some.ensures in
    fails _ _ _ _ _ _ _ _ c.from_residual.result c.from_residual.ensures.0
    (items_none read_params param_words (λ p. []) param_stage _ _ _ _ _ _ _ c.loop-inner.invariant (λ k l. params_stop k (tokens c.loop-inner.all.rest.now) _ e.0 (c.in_err-read.ensures k (omega (arith, l, e.1.fewer)))))

pub loop-inner-preserved : goal.loop-inner-preserved
loop-inner-preserved c =
    let e = c.in-Some.ensures in
    let d = c.in_ok-read.ensures in
    items_as read_params param_words (λ p. []) param_stage _ _ _ _ _ _ _ _ c.then-all.ensures.rest (items_more read_params param_words (λ p. []) param_stage _ _ _ _ _ _ _ _ _ _ _ _ d.value [] c.loop-inner.invariant
    (λ k l. params_next k (tokens c.loop-inner.all.rest.now) _ _ _ e.0 (d.reads k (omega (arith, l, e.1.fewer))))
    d.wrote refl (append_none _) d.stage c.then-all.ensures.stage
    (omega (arith, e.1.fewer, d.fewer)) (omega (arith, e.1.shorter, d.room)) (omega (arith, e.1.shorter, d.room, d.wrote.ends)))

pub returns : goal.returns
returns c =
    let v = c.loop-inner.invariant in
    record {
      value = v.items;
      reads = items_end read_params param_words (λ p. []) param_stage _ _ _ _ _ _ _ (tokens c.loop-inner.all.rest.now) v (λ k l. option_not _ _ _ c.in_default.ensures refl);
      wrote = append_as (params_apart v.items []) (append_then v.wrote c.push.ensures);
      stage = v.stages ∙ params_level v.items;
      fewer = omega (arith, v.fewer);
      room = omega (arith, v.room, c.push.ensures.ends);
    }
