use Rattle.std.proofs.Common.{ℕ, max, List, ◌∷◌, sym, refl, ap, ◌∙◌, ap₂, append_assoc, arith}
use Rattle.syntax.specs.Surface.{d_def}
use Rattle.syntax.specs.Tokens.{tokens}
use Rattle.syntax.specs.Tree.{put_name}
use Rattle.syntax.specs.Declaring.{head_words, read_head}
use Rattle.syntax.proofs.Appending.{append_then, append_as}
use Rattle.syntax.proofs.TreeWords.{expr_then}
use Rattle.syntax.proofs.Gives.{then_is, bind_not}
use Rattle.syntax.proofs.TermReadings.{bind_is, then_not, term_at}
use Rattle.syntax.proofs.DeclReadings.{def_parts, def_rest, head_apart, declares_fail}
use Rattle.syntax.proofs.declarations.definition.Goals as goal

pub returns-in_err-start : goal.returns-in_err-start
returns-in_err-start c =
    declares_fail _ _ _ _ _ _ _ _ _ _ c.from_residual.result c.from_residual.ensures.0 (λ n h. def_parts n (tokens c.args.bytes.now) ∙ then_not (read_head n (tokens c.args.bytes.now)) (def_rest n) (c.in_err-start.ensures n h))

pub returns-in_err-of_type : goal.returns-in_err-of_type
returns-in_err-of_type c =
    let s = c.in_ok-start.ensures in
    declares_fail _ _ _ _ _ _ _ _ _ _ c.from_residual-in_err-of_type.result c.from_residual-in_err-of_type.ensures.0
    (λ n h. def_parts n (tokens c.args.bytes.now) ∙ then_is (read_head n (tokens c.args.bytes.now)) (def_rest n) (s.reads n h) (then_not _ _ (c.in_err-of_type.ensures n (omega (arith, h, s.fewer)))))

pub returns-in_err-rest : goal.returns-in_err-rest
returns-in_err-rest c =
    let s = c.in_ok-start.ensures in
    let t = c.in_ok-of_type.ensures in
    declares_fail _ _ _ _ _ _ _ _ _ _ c.from_residual-in_err-rest.result c.from_residual-in_err-rest.ensures.0
    (λ n h. def_parts n (tokens c.args.bytes.now) ∙ then_is (read_head n (tokens c.args.bytes.now)) (def_rest n) (s.reads n h) (then_is _ _ (t.reads n (omega (arith, h, s.fewer))) (bind_not _ _ c.in_err-rest.ensures)))

pub returns-in_err-body : goal.returns-in_err-body
returns-in_err-body c =
    let s = c.in_ok-start.ensures in
    let t = c.in_ok-of_type.ensures in
    let e = c.in_ok-rest.ensures in
    declares_fail _ _ _ _ _ _ _ _ _ _ c.from_residual-in_err-body.result c.from_residual-in_err-body.ensures.0
    (λ n h. def_parts n (tokens c.args.bytes.now) ∙ then_is (read_head n (tokens c.args.bytes.now)) (def_rest n) (s.reads n h) (then_is _ _ (t.reads n (omega (arith, h, s.fewer))) (bind_is _ _ e.0
    (then_not _ _ (term_at n _ ∙ c.in_err-body.ensures n (omega (arith, h, s.fewer, t.fewer, e.1.fewer)))))))

pub returns-in_err-rest-2 : goal.returns-in_err-rest-2
returns-in_err-rest-2 c =
    let s = c.in_ok-start.ensures in
    let t = c.in_ok-of_type.ensures in
    let e = c.in_ok-rest.ensures in
    let b = c.in_ok-body.ensures in
    declares_fail _ _ _ _ _ _ _ _ _ _ c.from_residual-in_err-rest-2.result c.from_residual-in_err-rest-2.ensures.0
    (λ n h. def_parts n (tokens c.args.bytes.now) ∙ then_is (read_head n (tokens c.args.bytes.now)) (def_rest n) (s.reads n h) (then_is _ _ (t.reads n (omega (arith, h, s.fewer))) (bind_is _ _ e.0
    (then_is _ _ (term_at n _ ∙ b.reads n (omega (arith, h, s.fewer, t.fewer, e.1.fewer))) (bind_not _ _ c.in_err-rest-2.ensures)))))

pub returns : goal.returns
returns c =
    let s = c.in_ok-start.ensures in
    let t = c.in_ok-of_type.ensures in
    let e = c.in_ok-rest.ensures in
    let b = c.in_ok-body.ensures in
    let f = c.in_ok-rest-2.ensures in
    record {
      value = d_def s.value.name s.value.hidden t.value b.value;
      reads = λ n h. def_parts n (tokens c.args.bytes.now) ∙ then_is (read_head n (tokens c.args.bytes.now)) (def_rest n) (s.reads n h) (then_is _ _ (t.reads n (omega (arith, h, s.fewer))) (bind_is _ _ e.0
          (then_is _ _ (term_at n _ ∙ b.reads n (omega (arith, h, s.fewer, t.fewer, e.1.fewer))) (bind_is _ _ f.0 refl))));
      wrote = append_as (append_assoc (head_words 13 s.value) _ _ ∙ head_apart 13 s.value _ ∙ ap (λ (z : List ℕ). 13 ∷ put_name s.value.name (s.value.hidden ∷ z)) (sym (expr_then t.value _)))
          (append_then (append_then s.wrote t.wrote) b.wrote);
      notes = s.notes;
      named = s.named;
      noted = s.noted;
      stage = c.max.ensures ∙ ap₂ max s.stage (c.max-inner.ensures ∙ ap₂ max t.stage b.stage);
      fewer = omega (arith, s.fewer, t.fewer, e.1.fewer, b.fewer, f.1.fewer);
      room = omega (arith, s.room, t.room, e.1.shorter, b.room, f.1.shorter);
      note_room = omega (arith, s.note_room, t.room, t.wrote.ends, e.1.shorter, b.room, b.wrote.ends, f.1.shorter);
    }
