use Rattle.std.proofs.Common.{[], refl, ◌∙◌, arith}
use Rattle.syntax.specs.Tokens.{tokens}
use Rattle.syntax.proofs.Appending.{append_then, append_as}
use Rattle.syntax.specs.Reader.{read_cons}
use Rattle.syntax.specs.Declaring.{con_words, con_name, con_stage}
use Rattle.syntax.proofs.Gives.{option_is}
use Rattle.syntax.proofs.Items.{items_start, items_more, items_as, items_none, items_end}
use Rattle.syntax.proofs.DeclReadings.{cons_next, cons_stop, cons_apart, cons_level, cons_named, declares_fail}
use Rattle.syntax.proofs.data.constructors.Goals as goal

pub loop-rest-init : goal.loop-rest-init
loop-rest-init c = items_start read_cons con_words con_name con_stage _ _ _

pub returns-in_err-con : goal.returns-in_err-con
returns-in_err-con c =
    declares_fail _ _ _ _ _ _ _ _ _ _ c.from_residual.result c.from_residual.ensures.0
    (λ n h. items_none read_cons con_words con_name con_stage _ _ _ _ _ _ _ c.loop-rest.invariant
    (λ k l. cons_stop k (tokens c.loop-rest.all.rest.now) c.in_default.ensures (c.in_err-con.ensures k (omega (arith, l)))) n (omega (arith, h)))

pub loop-rest-preserved : goal.loop-rest-preserved
loop-rest-preserved c =
    let d = c.in_ok-con.ensures in
    items_as read_cons con_words con_name con_stage _ _ _ _ _ _ _ _ c.then-all.ensures.rest (items_more read_cons con_words con_name con_stage _ _ _ _ _ _ _ _ _ _ _ _ d.value d.notes c.loop-rest.invariant
    (λ k l. cons_next k (tokens c.loop-rest.all.rest.now) _ d.value c.in_default.ensures (d.reads k (omega (arith, l))))
    d.wrote d.named d.noted d.stage c.then-all.ensures.stage d.fewer d.room d.note_room)

pub returns-in-Some : goal.returns-in-Some
returns-in-Some c =
    let v = c.loop-rest.invariant in
    let e = c.in-Some.ensures in
    record {
      value = v.items;
      reads = λ n h. items_end read_cons con_words con_name con_stage _ _ _ _ _ _ _ (tokens c.in-Some.rest.now) v (λ k l. option_is _ _ _ e.0 refl) n (omega (arith, h));
      wrote = append_as (cons_apart v.items []) (append_then v.wrote c.push.ensures);
      notes = v.notes;
      named = v.named ∙ cons_named v.items;
      noted = v.noted;
      stage = v.stages ∙ cons_level v.items;
      fewer = omega (arith, v.fewer, e.1.fewer);
      room = omega (arith, v.room, e.1.shorter, c.push.ensures.ends);
      note_room = omega (arith, v.note_room, e.1.shorter);
    }
