use Rattle.std.proofs.Common.{ℕ, List, [], ◌∷◌, ◌++◌, length, sym, refl, ap, ◌∙◌, append_assoc, arith}
use Rattle.syntax.proofs.Appending.{append_then, append_as}
use Rattle.syntax.proofs.Gives.{then_is}
use Rattle.syntax.proofs.TermReadings.{bind_is}
use Rattle.syntax.proofs.DeclReadings.{note_alone, params_then}
use Rattle.syntax.proofs.data.constructor.Goals as goal

pub returns : goal.returns
returns c =
    let w = c.in_ok-word.ensures in
    let p = c.in_ok-fields.ensures in
    let a = c.in_ok-rest.ensures in
    let k = c.in_ok-recs.ensures in
    let s = c.in_ok-rest-2.ensures in
    let x = c.in_ok-word.word.name.now in
    let m = c.in_ok-recs.recs.value in
    record {
      value = record { name = x; fields = p.value; recs = m };
      reads = λ n h. then_is _ _ w.reads (then_is _ _ (p.reads n (omega (arith, h, w.fewer))) (bind_is _ _ a.0 (then_is _ _ k.reads (bind_is _ _ s.0 refl))));
      wrote = append_as (ap (λ (z : List ℕ). 12 ∷ length x ∷ z) (append_assoc x _ _ ∙ ap (λ (z : List ℕ). x ++ z) (sym (params_then p.value [] (m ∷ [])))))
          (append_then (append_then c.push_named.ensures p.wrote) c.push.ensures);
      notes = record { left = length c.in_ok-word.word.rest.now; name = x } ∷ [];
      named = refl;
      noted = append_as (note_alone _ _) c.push_note.ensures;
      stage = p.stage;
      fewer = omega (arith, w.fewer, p.fewer, a.1.fewer, k.behind.fewer, s.1.fewer);
      room = omega (arith, w.shorter, w.some_bytes, c.push_named.ensures.ends, p.room, a.1.shorter, k.behind.shorter, s.1.shorter, c.push.ensures.ends);
      note_room = omega (arith, w.shorter, w.some_bytes, c.push_note.ensures.ends, p.room, p.wrote.ends, a.1.shorter, k.behind.shorter, s.1.shorter);
    }
