use Rattle.std.proofs.Common.{ℕ, List, [], ◌∷◌, ◌++◌, sym, refl, ap, ◌∙◌, append_assoc, arith}
use Rattle.syntax.specs.Surface.{d_data}
use Rattle.syntax.specs.Tokens.{tokens}
use Rattle.syntax.specs.Tree.{put_name, put_params, put_cons}
use Rattle.syntax.proofs.Appending.{append_then, append_as}
use Rattle.syntax.proofs.Gives.{then_is, bind_not}
use Rattle.syntax.proofs.TermReadings.{bind_is, then_not}
use Rattle.syntax.specs.Declaring.{read_head, head_words}
use Rattle.syntax.proofs.DeclReadings.{data_parts, data_rest, head_apart, params_then, declares_fail}
use Rattle.syntax.proofs.Items.{append_notes, notes_named}
use Rattle.syntax.proofs.data.data_type.Goals as goal

pub returns-in_err-start : goal.returns-in_err-start
returns-in_err-start c =
    declares_fail _ _ _ _ _ _ _ _ _ _ c.from_residual.result c.from_residual.ensures.0
    (λ n h. data_parts n (tokens c.args.bytes.now) ∙ then_not (read_head n (tokens c.args.bytes.now)) (data_rest n) (c.in_err-start.ensures n h))

pub returns-in_err-params : goal.returns-in_err-params
returns-in_err-params c =
    let s = c.in_ok-start.ensures in
    declares_fail _ _ _ _ _ _ _ _ _ _ c.from_residual-in_err-params.result c.from_residual-in_err-params.ensures.0
    (λ n h. data_parts n (tokens c.args.bytes.now) ∙ then_is (read_head n (tokens c.args.bytes.now)) (data_rest n) (s.reads n h) (then_not _ _ (c.in_err-params.ensures n (omega (arith, h, s.fewer)))))

pub returns-in_err-rest : goal.returns-in_err-rest
returns-in_err-rest c =
    let s = c.in_ok-start.ensures in
    let p = c.in_ok-params.ensures in
    declares_fail _ _ _ _ _ _ _ _ _ _ c.from_residual-in_err-rest.result c.from_residual-in_err-rest.ensures.0
    (λ n h. data_parts n (tokens c.args.bytes.now) ∙ then_is (read_head n (tokens c.args.bytes.now)) (data_rest n) (s.reads n h) (then_is _ _ (p.reads n (omega (arith, h, s.fewer))) (bind_not _ _ c.in_err-rest.ensures)))

pub returns-in_err-rest-2 : goal.returns-in_err-rest-2
returns-in_err-rest-2 c =
    let s = c.in_ok-start.ensures in
    let p = c.in_ok-params.ensures in
    let e = c.in_ok-rest.ensures in
    declares_fail _ _ _ _ _ _ _ _ _ _ c.from_residual-in_err-rest-2.result c.from_residual-in_err-rest-2.ensures.0
    (λ n h. data_parts n (tokens c.args.bytes.now) ∙ then_is (read_head n (tokens c.args.bytes.now)) (data_rest n) (s.reads n h) (then_is _ _ (p.reads n (omega (arith, h, s.fewer))) (bind_is _ _ e.0 (bind_not _ _ c.in_err-rest-2.ensures))))

pub returns-in_err-level : goal.returns-in_err-level
returns-in_err-level c =
    let s = c.in_ok-start.ensures in
    let p = c.in_ok-params.ensures in
    let e = c.in_ok-rest.ensures in
    let f = c.in_ok-rest-2.ensures in
    declares_fail _ _ _ _ _ _ _ _ _ _ c.from_residual-in_err-level.result c.from_residual-in_err-level.ensures.0
    (λ n h. data_parts n (tokens c.args.bytes.now) ∙ then_is (read_head n (tokens c.args.bytes.now)) (data_rest n) (s.reads n h) (then_is _ _ (p.reads n (omega (arith, h, s.fewer))) (bind_is _ _ e.0 (bind_is _ _ f.0 (then_not _ _ c.in_err-level.ensures)))))

pub returns-in_err-rest-3 : goal.returns-in_err-rest-3
returns-in_err-rest-3 c =
    let s = c.in_ok-start.ensures in
    let p = c.in_ok-params.ensures in
    let e = c.in_ok-rest.ensures in
    let f = c.in_ok-rest-2.ensures in
    let l = c.in_ok-level.ensures in
    declares_fail _ _ _ _ _ _ _ _ _ _ c.from_residual-in_err-rest-3.result c.from_residual-in_err-rest-3.ensures.0
    (λ n h. data_parts n (tokens c.args.bytes.now) ∙ then_is (read_head n (tokens c.args.bytes.now)) (data_rest n) (s.reads n h) (then_is _ _ (p.reads n (omega (arith, h, s.fewer))) (bind_is _ _ e.0 (bind_is _ _ f.0 (then_is _ _ l.reads (bind_not _ _ c.in_err-rest-3.ensures))))))

pub returns-in_err-cons : goal.returns-in_err-cons
returns-in_err-cons c =
    let s = c.in_ok-start.ensures in
    let p = c.in_ok-params.ensures in
    let e = c.in_ok-rest.ensures in
    let f = c.in_ok-rest-2.ensures in
    let l = c.in_ok-level.ensures in
    let g = c.in_ok-rest-3.ensures in
    declares_fail _ _ _ _ _ _ _ _ _ _ c.from_residual-in_err-cons.result c.from_residual-in_err-cons.ensures.0
    (λ n h. data_parts n (tokens c.args.bytes.now) ∙ then_is (read_head n (tokens c.args.bytes.now)) (data_rest n) (s.reads n h) (then_is _ _ (p.reads n (omega (arith, h, s.fewer))) (bind_is _ _ e.0 (bind_is _ _ f.0 (then_is _ _ l.reads (bind_is _ _ g.0 (then_not _ _ (c.in_err-cons.ensures n (omega (arith, h, s.fewer, p.fewer, e.1.fewer, f.1.fewer, l.behind.fewer, g.1.fewer))))))))))

pub returns : goal.returns
returns c =
    let s = c.in_ok-start.ensures in
    let p = c.in_ok-params.ensures in
    let e = c.in_ok-rest.ensures in
    let f = c.in_ok-rest-2.ensures in
    let l = c.in_ok-level.ensures in
    let g = c.in_ok-rest-3.ensures in
    let k = c.in_ok-cons.ensures in
    let v = c.in_ok-level.level.value in
    record {
      value = d_data s.value.name s.value.hidden p.value v k.value;
      reads = λ n h. data_parts n (tokens c.args.bytes.now) ∙ then_is (read_head n (tokens c.args.bytes.now)) (data_rest n) (s.reads n h) (then_is _ _ (p.reads n (omega (arith, h, s.fewer))) (bind_is _ _ e.0 (bind_is _ _ f.0 (then_is _ _ l.reads (bind_is _ _ g.0 (then_is _ _ (k.reads n (omega (arith, h, s.fewer, p.fewer, e.1.fewer, f.1.fewer, l.behind.fewer, g.1.fewer))) refl))))));
      wrote = append_as (append_assoc (head_words 15 s.value ++ put_params p.value []) _ _ ∙ append_assoc (head_words 15 s.value) _ _ ∙ head_apart 15 s.value _
          ∙ ap (λ (z : List ℕ). 15 ∷ put_name s.value.name (s.value.hidden ∷ z)) (sym (params_then p.value [] (v ∷ put_cons k.value []))))
          (append_then (append_then (append_then s.wrote p.wrote) c.push.ensures) k.wrote);
      notes = s.notes ++ k.notes;
      named = notes_named s.notes k.notes _ _ s.named k.named;
      noted = append_notes s.notes k.notes s.noted k.noted;
      stage = omega (arith, c.max.ensures, c.max-most.ensures, c.max-inner.ensures, s.stage, p.stage, k.stage);
      fewer = omega (arith, s.fewer, p.fewer, e.1.fewer, f.1.fewer, l.behind.fewer, g.1.fewer, k.fewer);
      room = omega (arith, s.room, p.room, e.1.shorter, f.1.shorter, l.behind.shorter, g.1.shorter, c.push.ensures.ends, k.room);
      note_room = omega (arith, s.note_room, p.room, p.wrote.ends, e.1.shorter, f.1.shorter, l.behind.shorter, g.1.shorter, k.note_room);
    }
