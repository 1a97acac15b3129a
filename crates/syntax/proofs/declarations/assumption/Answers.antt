use Rattle.std.proofs.Common.{max, refl, ◌∙◌, ap₂, arith}
use Rattle.syntax.specs.Surface.{d_axiom}
use Rattle.syntax.specs.Tokens.{tokens}
use Rattle.syntax.specs.Declaring.{read_head}
use Rattle.syntax.proofs.Appending.{append_then, append_as}
use Rattle.syntax.proofs.Gives.{then_is, bind_not}
use Rattle.syntax.proofs.TermReadings.{bind_is, then_not}
use Rattle.syntax.proofs.DeclReadings.{axiom_parts, axiom_rest, head_apart, declares_fail}
use Rattle.syntax.proofs.declarations.assumption.Goals as goal

pub returns-in_err-start : goal.returns-in_err-start
returns-in_err-start c =
    declares_fail _ _ _ _ _ _ _ _ _ _ c.from_residual.result c.from_residual.ensures.0 (λ n h. axiom_parts n (tokens c.args.bytes.now) ∙ then_not (read_head n (tokens c.args.bytes.now)) (axiom_rest n) (c.in_err-start.ensures n h))

pub returns-in_err-of_type : goal.returns-in_err-of_type
returns-in_err-of_type c =
    let s = c.in_ok-start.ensures in
    declares_fail _ _ _ _ _ _ _ _ _ _ c.from_residual-in_err-of_type.result c.from_residual-in_err-of_type.ensures.0
    (λ n h. axiom_parts n (tokens c.args.bytes.now) ∙ then_is (read_head n (tokens c.args.bytes.now)) (axiom_rest n) (s.reads n h) (then_not _ _ (c.in_err-of_type.ensures n (omega (arith, h, s.fewer)))))

pub returns-in_err-rest : goal.returns-in_err-rest
returns-in_err-rest c =
    let s = c.in_ok-start.ensures in
    let t = c.in_ok-of_type.ensures in
    declares_fail _ _ _ _ _ _ _ _ _ _ c.from_residual-in_err-rest.result c.from_residual-in_err-rest.ensures.0
    (λ n h. axiom_parts n (tokens c.args.bytes.now) ∙ then_is (read_head n (tokens c.args.bytes.now)) (axiom_rest n) (s.reads n h) (then_is _ _ (t.reads n (omega (arith, h, s.fewer))) (bind_not _ _ c.in_err-rest.ensures)))

pub returns : goal.returns
returns c =
    let s = c.in_ok-start.ensures in
    let t = c.in_ok-of_type.ensures in
    let e = c.in_ok-rest.ensures in
    record {
      value = d_axiom s.value.name s.value.hidden t.value;
      reads = λ n h. axiom_parts n (tokens c.args.bytes.now) ∙ then_is (read_head n (tokens c.args.bytes.now)) (axiom_rest n) (s.reads n h) (then_is _ _ (t.reads n (omega (arith, h, s.fewer))) (bind_is _ _ e.0 refl));
      wrote = append_as (head_apart 14 s.value _) (append_then s.wrote t.wrote);
      notes = s.notes;
      named = s.named;
      noted = s.noted;
      stage = c.max.ensures ∙ ap₂ max s.stage t.stage;
      fewer = omega (arith, s.fewer, t.fewer, e.1.fewer);
      room = omega (arith, s.room, t.room, e.1.shorter);
      note_room = omega (arith, s.note_room, t.room, t.wrote.ends, e.1.shorter);
    }
