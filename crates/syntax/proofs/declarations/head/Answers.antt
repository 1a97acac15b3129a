use Rattle.std.proofs.Common.{[], ◌∷◌, length, refl, ◌∙◌, arith}
use Rattle.syntax.proofs.Gives.{then_is}
use Rattle.syntax.proofs.Appending.{append_then, append_as}
use Rattle.syntax.proofs.DeclReadings.{note_alone, hidden_none, hidden_some}
use Rattle.syntax.proofs.declarations.head.Goals.{then-hidden-eq0, else-hidden-eq0}
use Rattle.syntax.proofs.declarations.head.Goals as goal

pub returns : goal.returns
returns c =
    let w = c.in_ok-word.ensures in
    let h = c.in_ok-hidden.ensures in
    record {
      value = record { name = c.in_ok-word.word.name.now; hidden = c.in_ok-hidden.hidden.value };
      reads = λ n l. then_is _ _ w.reads (then_is _ _ h.reads refl);
      wrote = append_then c.push_named.ensures c.push.ensures;
      notes = record { left = length c.in_ok-word.word.rest.now; name = c.in_ok-word.word.name.now } ∷ [];
      named = refl;
      noted = append_as (note_alone _ _) c.push_note.ensures;
      stage = elim c.if-hidden-eq0.branch [ then-hidden-eq0 w ↦ w.stage-is ∙ hidden_none _ w.if-hidden-eq0.true | else-hidden-eq0 w ↦ w.stage-is ∙ hidden_some _ w.if-hidden-eq0.false ];
      fewer = omega (arith, w.fewer, h.fewer);
      room = omega (arith, w.shorter, w.some_bytes, h.shorter, c.push_named.ensures.ends, c.push.ensures.ends);
      note_room = omega (arith, w.shorter, w.some_bytes, h.shorter, c.push_note.ensures.ends);
    }
