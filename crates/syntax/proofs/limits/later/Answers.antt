use Rattle.std.proofs.Common.{sym, ap, ◌∙◌}
use Rattle.syntax.specs.Surface.{same, listed}
use Rattle.syntax.specs.Declaring.{note_names}
use Rattle.syntax.proofs.Same.{pointwise_same}
use Rattle.syntax.proofs.Notes.{reads_some, listed_first, listed_rest}
use Rattle.syntax.proofs.limits.later.Goals as goal

pub returns-then-same_items : goal.returns-then-same_items
returns-then-same_items c ns e =
    let x = c.args.name.now in
    let v = c.loop-note.invariant ns e in
    let f = reads_some v.0 _ (c.in-Some.ensures v.0 v.1) in
    v.2 ∙ ap (λ ms. listed x (note_names ms)) f.2 ∙ listed_first x f.0.name _ (sym (ap (same x) f.3.name) ∙ sym (pointwise_same x c.in-Some.note.name.now) ∙ sym c.if-same_items.ensures)

pub loop-note-preserved : goal.loop-note-preserved
loop-note-preserved c ns e =
    let x = c.args.name.now in
    let v = c.loop-note.invariant ns e in
    let f = reads_some v.0 _ (c.in-Some.ensures v.0 v.1) in
    (f.1, f.3.rest, v.2 ∙ ap (λ ms. listed x (note_names ms)) f.2 ∙ listed_rest x f.0.name _ (sym (ap (same x) f.3.name) ∙ sym (pointwise_same x c.in-Some.note.name.now) ∙ sym c.if-same_items.ensures))
