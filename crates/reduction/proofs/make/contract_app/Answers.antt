use Rattle.std.proofs.Common.{Ok, Err, length, sym, ◌∙◌, subst as tr, arith}
use Rattle.std.proofs.lemmas.Result.{err_from_is_err_and}
use Rattle.theory.specs.Terms.{app}
use Rattle.terms.specs.Words.{put, At}
use Rattle.terms.specs.Copying.{Copies}
use Rattle.terms.proofs.Places.{at_length}
use Rattle.terms.proofs.Subterms.{at_function}
use Rattle.reduction.specs.Spines.{head_term}
use Rattle.reduction.proofs.Reading.{from_lam, along_head}
use Rattle.reduction.proofs.Spelling.{rec_redex, beta_result, copies_err, fits_make}
use Rattle.reduction.proofs.make.contract_app.Goals as goal

pub overflow_add-at : goal.overflow_add-at
overflow_add-at c = let h = at_length c.args.words.now c.args.at (app c.requires.fun c.requires.arg) c.requires.rest c.requires.here in omega arith

pub sign_at-requires : goal.sign_at-requires
sign_at-requires c = record { term = c.requires.fun; rest = put c.requires.arg c.requires.rest; at = at_function c.args.words.now c.args.at c.requires.fun c.requires.arg c.requires.rest c.requires.here }

pub make_beta-requires : goal.make_beta-requires
make_beta-requires c =
    let p = c.requires in
    let (x, y, is) = from_lam p.fun (sym c.in-Lam.is ∙ c.sign_at.ensures p.fun _ (at_function c.args.words.now c.args.at p.fun p.arg p.rest p.here)) in
    record { domain = x; body = y; argument = p.arg; rest = p.rest; here = tr (λ z. At c.args.words.now c.args.at (app z p.arg) p.rest) is p.here; small = p.small }

pub returns-in-Lam : goal.returns-in-Lam
returns-in-Lam c = λ e f a u rest p s.
    let (x, y, is) = from_lam f (sym c.in-Lam.is ∙ c.sign_at.ensures f _ (at_function c.args.words.now c.args.at f a rest p)) in
    tr (λ z. Copies c.args.out.now 0 c.make_beta.new.out (length c.args.stack.now) z (Ok c.in_ok-end.end)) (beta_result e f a x y is s)
    (c.in_ok-end.ensures x y a rest (tr (λ z. At c.args.words.now c.args.at (app z a) rest) is p))

pub returns-in_err-end : goal.returns-in_err-end
returns-in_err-end c = λ e f a u rest p s.
    let (x, y, is) = from_lam f (sym c.in-Lam.is ∙ c.sign_at.ensures f _ (at_function c.args.words.now c.args.at f a rest p)) in
    let q = err_from_is_err_and c.from_residual.result c.from_residual.ensures.1 in
    rw (q.1, q.2) (copies_err e c.args.out.now c.make_beta.new.out (length c.args.stack.now) u c.in_err-end.field-0.0
    (tr (λ z. Copies c.args.out.now 0 c.make_beta.new.out (length c.args.stack.now) z (Err c.in_err-end.field-0.0)) (beta_result e f a x y is s)
    (c.in_err-end.ensures x y a rest (tr (λ z. At c.args.words.now c.args.at (app z a) rest) is p))))

pub make_along-requires : goal.make_along-requires
make_along-requires c =
    let p = c.requires in
    let h = c.count_uses-count.ensures.head (app p.fun p.arg) p.rest p.here in
    record {
      env = p.env;
      fun = p.fun;
      arg = p.arg;
      result = p.result;
      first = c.in-Along.field-0;
      second = c.in-Along.field-1;
      rest = p.rest;
      here = p.here;
      head = along_head _ _ _ (sym c.in-Along.is ∙ c.sign_at-2.ensures _ h.rest h.at);
      steps = p.steps;
    }

pub returns-in-Along : goal.returns-in-Along
returns-in-Along c = λ e f a u rest p s.
    let h = c.count_uses-count.ensures.head (app f a) rest p in
    rw c.ok_or.ensures.value (fits_make e c.args.out.now c.make_along.new.out (length c.args.stack.now) u c.make_along.result
    (c.make_along.ensures e f a u c.in-Along.field-0 c.in-Along.field-1 rest p (along_head _ _ _ (sym c.in-Along.is ∙ c.sign_at-2.ensures _ h.rest h.at)) s))

pub returns : goal.returns
returns c = λ e f a u rest p s.
    let h = c.count_uses-count.ensures.head (app f a) rest p in
    rec_redex e f a u c.sign_at.result c.sign_at-2.result (c.sign_at.ensures f _ (at_function c.args.words.now c.args.at f a rest p)) c.in_default.not-Lam
    (c.sign_at-2.ensures _ h.rest h.at) c.in_default-sign_at.not-Along s

pub sign_at-requires-2 : goal.sign_at-requires-2
sign_at-requires-2 c =
    let h = c.count_uses-count.ensures.head (app c.requires.fun c.requires.arg) c.requires.rest c.requires.here in
    record { term = head_term c.requires.fun; rest = h.rest; at = h.at }
