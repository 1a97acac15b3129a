-- The parser of terms and scripts follows the readers.
use Rattle.std.proofs.Common.{ℕ, suc, max, List, [], ◌∷◌, ◌++◌, length, sym, refl, ap, ◌∙◌, ap₂, append_assoc, subst as tr, arith}
use Rattle.std.proofs.lemmas.Bool.{cond-true, cond-false}
use Rattle.syntax.specs.Surface.{e_by}
use Rattle.syntax.specs.Tokens.{tokens}
use Rattle.syntax.specs.Reader.{readers, read_term, read_script, read_atom, read_arrow, read_exact, read_apply}
use Rattle.syntax.specs.Lexing.{FindsBinder}
use Rattle.syntax.specs.Parsing.{f_pi, f_lam, f_have, lower, level, read_uses, read_leaf, read_block, term_reader, script_reader}
use Rattle.syntax.proofs.Appending.{append_then, append_as, append_before}
use Rattle.syntax.proofs.TreeWords.{expr_then}
use Rattle.syntax.proofs.Gives.{then_is, option_is, option_not, bind_not}
use Rattle.syntax.proofs.Following.{fails, follows_by}
use Rattle.syntax.proofs.TermReadings.{bind_is, then_not, term_at, script_at, lower-none, lower-some, lower_is, follows_up, links_as, links_more, links_last, apply_args, links_fail, opens_fail, bound_then, wrap-then, arrow_none, arrow_alone, arrow_to, term_arrow, atom_leaf, atom_block}
use Rattle.syntax.proofs.Chains.{chain_start, chain_more, chain_last, chain_none}
use Rattle.syntax.proofs.Rows.{row_start, row_more, row_as, row_none, row_end, lower_link}
use Rattle.syntax.proofs.terms.+reader.Goals as goal

-- exact

pub exact-returns-in_err-read : goal.exact-returns-in_err-read
exact-returns-in_err-read t c =
    fails _ _ _ _ _ _ _ _ c.from_residual.result c.from_residual.ensures.0 (λ n h. then_not _ _ (term_at n _ ∙ c.in_err-read.ensures n h))

pub exact-returns-in_err-rest : goal.exact-returns-in_err-rest
exact-returns-in_err-rest t c =
    fails _ _ _ _ _ _ _ _ c.from_residual-in_err-rest.result c.from_residual-in_err-rest.ensures.0
    (λ n h. then_is _ _ (term_at n _ ∙ c.in_ok-read.ensures.reads n h) (bind_not _ _ c.in_err-rest.ensures))

pub exact-returns : goal.exact-returns
exact-returns t c =
    let d = c.in_ok-read.ensures in
    let e = c.in_ok-rest.ensures in
    record {
      value = d.value;
      reads = λ n h. then_is _ _ (term_at n _ ∙ d.reads n h) (bind_is _ _ e.0 refl);
      wrote = d.wrote;
      stage = d.stage;
      fewer = omega (arith, d.fewer, e.1.fewer);
      room = omega (arith, d.room, e.1.shorter);
    }

-- bound

pub bound-returns-in_err-read : goal.bound-returns-in_err-read
bound-returns-in_err-read t c =
    fails _ _ _ _ _ _ _ _ c.from_residual.result c.from_residual.ensures.0 (λ n h. then_not _ _ (term_at n _ ∙ c.in_err-read.ensures n h))

pub bound-returns-in_err-rest : goal.bound-returns-in_err-rest
bound-returns-in_err-rest t c =
    fails _ _ _ _ _ _ _ _ c.from_residual-in_err-rest.result c.from_residual-in_err-rest.ensures.0
    (λ n h. then_is _ _ (term_at n _ ∙ c.in_ok-read.ensures.reads n h) (bind_not _ _ c.in_err-rest.ensures))

pub bound-returns : goal.bound-returns
bound-returns t c =
    let d = c.in_ok-read.ensures in
    let e = c.in_ok-rest.ensures in
    record {
      value = d.value;
      reads = λ n h. then_is _ _ (term_at n _ ∙ d.reads n h) (bind_is _ _ e.0 refl);
      wrote = append_then c.push_named.ensures d.wrote;
      stage = d.stage;
      fewer = omega (arith, d.fewer, e.1.fewer);
      room = omega (arith, d.room, e.1.shorter, c.push_named.ensures.ends, c.requires.some);
    }

-- function and function_type

pub function-returns : goal.function-returns
function-returns t c =
    let b = tr (FindsBinder c.args.bytes.now) c.in_ok-word.ensures.ok_part c.read_binder.ensures in
    let d = c.in_ok-read.ensures in
    let e = c.in_ok-rest.ensures in
    let x = c.in_ok-word.word.name.now in
    record {
      frame = f_lam x d.value;
      opens = λ n h. then_is _ _ b.reads (bound_then (readers n) _ _ _ ∙ then_is _ _ (d.reads n (omega (arith, b.fewer))) (bind_is _ _ e.0 (wrap-then (f_lam x d.value) _)));
      wrote = d.wrote;
      stage = d.stage;
      fewer = omega (arith, b.fewer, d.fewer, e.1.fewer);
      room = omega (arith, d.room, e.1.shorter, b.shorter);
    }

pub function_type-returns : goal.function_type-returns
function_type-returns t c =
    let d = c.in_ok-read.ensures in
    let e = c.in_ok-rest.ensures in
    let x = c.args.word.name.now in
    record {
      frame = f_pi x d.value;
      opens = λ n h. bound_then (readers n) _ _ _ ∙ then_is _ _ (d.reads n (omega arith)) (bind_is _ _ e.0 (wrap-then (f_pi x d.value) _));
      wrote = d.wrote;
      stage = d.stage;
      fewer = omega (arith, d.fewer, e.1.fewer);
      room = omega (arith, d.room, e.1.shorter);
    }

-- arrow

pub arrow-returns-in_err-read : goal.arrow-returns-in_err-read
arrow-returns-in_err-read t c =
    links_fail read_arrow term_reader c.args.bytes.now c.args.out.now c.uses.new.out c.from_residual.result c.from_residual.ensures.0
    (lower-none read_arrow (tokens c.args.bytes.now) (λ m h. arrow_none (readers m) (tokens c.args.bytes.now) (c.in_err-read.ensures (suc m) (omega (arith, h)))))

pub arrow-returns-in_default : goal.arrow-returns-in_default
arrow-returns-in_default t c =
    let d = c.in_ok-read.ensures in
    record {
      value = d.value;
      reads = lower-some read_arrow (tokens c.args.bytes.now) _ (λ m h. arrow_alone (readers m) (tokens c.args.bytes.now) (tokens c.in_ok-read.read.rest.now) d.value (d.reads (suc m) (omega (arith, h))) c.in_default.ensures);
      wrote = d.wrote;
      stage = d.stage;
      fewer = d.fewer;
      room = d.room;
    }

pub arrow-insert-requires-2 : goal.arrow-insert-requires-2
arrow-insert-requires-2 t c =
    let d = c.in_ok-read.ensures in
    let w = append_before (0 ∷ []) (omega arith) d.wrote c.insert.ensures in
    record { order = omega (arith, w.ends); room = omega (arith, w.ends, w.room, d.wrote.ends, d.room, c.in-Some.ensures.1.shorter, c.requires) }

pub arrow-returns : goal.arrow-returns
arrow-returns t c =
    let d = c.in_ok-read.ensures in
    let e = c.in-Some.ensures in
    let w = append_before (5 ∷ []) (omega arith) (append_before (0 ∷ []) (omega arith) d.wrote c.insert.ensures) c.insert-2.ensures in
    record {
      frame = f_pi [] d.value;
      opens = λ n h. arrow_to (readers n) (tokens c.args.bytes.now) _ _ _ (d.reads (suc n) (omega (arith, h))) e.0;
      wrote = w;
      stage = d.stage;
      fewer = omega (arith, d.fewer, e.1.fewer);
      room = omega (arith, w.ends, d.wrote.ends, d.room, e.1.shorter);
    }

-- uses

pub uses-returns-in_err-first : goal.uses-returns-in_err-first
uses-returns-in_err-first t c =
    fails _ _ _ _ _ _ _ _ c.from_residual.result c.from_residual.ensures.0
    (lower-none read_uses (tokens c.args.bytes.now) (λ m h. then_not _ _ (c.in_err-first.ensures (suc m) (omega (arith, h)))))

pub uses-loop-out-init : goal.uses-loop-out-init
uses-loop-out-init t c = row_start (λ n. (readers n).row) _ _ _

pub uses-returns-in_err-next : goal.uses-returns-in_err-next
uses-returns-in_err-next t c =
    let d = c.in_ok-first.ensures in
    fails _ _ _ _ _ _ _ _ c.from_residual-in_err-next.result c.from_residual-in_err-next.ensures.0
    (lower-none read_uses (tokens c.args.bytes.now) (λ n l. then_is _ _ (d.reads (suc n) (omega (arith, l)))
    (row_none (λ n. (readers n).row) _ _ _ _ _ _ _ c.loop-out.invariant
    (λ h m k. cond-true _ _ _ (sym c.loop-out-test.ensures) ∙ then_not _ _ (c.in_err-next.ensures (suc m) (omega (arith, k)))) d.value n (omega (arith, l, d.fewer)))))

pub uses-loop-out-preserved : goal.uses-loop-out-preserved
uses-loop-out-preserved t c =
    let d = c.in_ok-next.ensures in
    row_as (λ n. (readers n).row) _ _ _ _ _ _ _ _ c.then-all.ensures.rest
    (row_more (λ n. (readers n).row) _ _ _ _ _ _ _ _ _ _ _ d.value c.loop-out.invariant
    (λ h m k. cond-true _ _ _ (sym c.loop-out-test.ensures) ∙ then_is _ _ (d.reads (suc m) (omega (arith, k))) refl)
    d.wrote d.stage c.then-all.ensures.stage d.fewer d.room)

pub uses-returns : goal.uses-returns
uses-returns t c =
    let d = c.in_ok-first.ensures in
    row_end (λ n. (readers n).row) (lower read_atom) (lower read_uses) _ _ _ _ c.in_ok-first.first _ _ _ _ _ _ (omega arith) d c.loop-out.invariant refl refl
    (lower_link read_uses (λ n. (readers n).row) _ _ d.value (λ m h. then_is _ _ (d.reads (suc m) (omega (arith, h))) refl) d.fewer)
    (λ h m. cond-false _ _ _ (sym c.loop-out-test.ensures)) c.insert.ensures

-- atom

pub atom-returns-in_err-read : goal.atom-returns-in_err-read
atom-returns-in_err-read t c =
    let e = c.in-Some.ensures in
    fails _ _ _ _ _ _ _ _ c.from_residual.result c.from_residual.ensures.0
    (lower-none read_atom _ (λ m h. option_is _ _ _ e.0 (then_not _ _ (term_at m _ ∙ c.in_err-read.ensures m (omega (arith, e.1.fewer))))))

pub atom-returns-in_err-rest : goal.atom-returns-in_err-rest
atom-returns-in_err-rest t c =
    let e = c.in-Some.ensures in
    let d = c.in_ok-read.ensures in
    fails _ _ _ _ _ _ _ _ c.from_residual-in_err-rest.result c.from_residual-in_err-rest.ensures.0
    (lower-none read_atom _ (λ m h. option_is _ _ _ e.0 (then_is _ _ (term_at m _ ∙ d.reads m (omega (arith, e.1.fewer))) (bind_not _ _ c.in_err-rest.ensures))))

pub atom-returns-in-Some : goal.atom-returns-in-Some
atom-returns-in-Some t c =
    let e = c.in-Some.ensures in
    let d = c.in_ok-read.ensures in
    let f = c.in_ok-rest.ensures in
    record {
      value = d.value;
      reads = lower-some read_atom _ _ (λ m h. option_is _ _ _ e.0 (then_is _ _ (term_at m _ ∙ d.reads m (omega (arith, e.1.fewer))) (bind_is _ _ f.0 refl)));
      wrote = d.wrote;
      stage = d.stage;
      fewer = omega (arith, e.1.fewer, d.fewer, f.1.fewer);
      room = omega (arith, e.1.shorter, d.room, f.1.shorter);
    }

pub atom-returns-in-Some-eat : goal.atom-returns-in-Some-eat
atom-returns-in-Some-eat t c =
    let e = c.in-Some-eat.ensures in
    follows_up read_block read_atom (tokens c.args.bytes.now) _ _ _ _ _ c.block.result (λ r. atom_block r (tokens c.args.bytes.now) _ c.in_default.ensures e.0) e.1.fewer (omega (arith, e.1.shorter)) c.block.ensures

pub atom-returns : goal.atom-returns
atom-returns t c =
    follows_by _ _ _ _ _ _ _ _ _ _ _ c.leaf.result (lower_is (λ n. read_leaf) read_atom (tokens c.args.bytes.now) (λ m. atom_leaf (readers m) (tokens c.args.bytes.now) c.in_default.ensures c.in_default-eat.ensures)) (omega arith) (omega arith) c.leaf.ensures

-- block

pub block-returns-in_err-read : goal.block-returns-in_err-read
block-returns-in_err-read t c =
    let e = c.in_ok-rest.ensures in
    fails _ _ _ _ _ _ _ _ c.from_residual-in_err-read.result c.from_residual-in_err-read.ensures.0
    (λ n h. bind_is _ _ e.0 (then_not _ _ (script_at n _ ∙ c.in_err-read.ensures n (omega (arith, e.1.fewer)))))

pub block-returns-in_err-rest-2 : goal.block-returns-in_err-rest-2
block-returns-in_err-rest-2 t c =
    let e = c.in_ok-rest.ensures in
    let d = c.in_ok-read.ensures in
    fails _ _ _ _ _ _ _ _ c.from_residual-in_err-rest-2.result c.from_residual-in_err-rest-2.ensures.0
    (λ n h. bind_is _ _ e.0 (then_is _ _ (script_at n _ ∙ d.reads n (omega (arith, e.1.fewer))) (bind_not _ _ c.in_err-rest-2.ensures)))

pub block-returns : goal.block-returns
block-returns t c =
    let e = c.in_ok-rest.ensures in
    let d = c.in_ok-read.ensures in
    let f = c.in_ok-rest-2.ensures in
    record {
      value = e_by d.value;
      reads = λ n h. bind_is _ _ e.0 (then_is _ _ (script_at n _ ∙ d.reads n (omega (arith, e.1.fewer))) (bind_is _ _ f.0 refl));
      wrote = append_then c.push.ensures d.wrote;
      stage = omega (arith, c.max.ensures, d.stage);
      fewer = omega (arith, e.1.fewer, d.fewer, f.1.fewer);
      room = omega (arith, e.1.shorter, d.room, f.1.shorter, c.push.ensures.ends);
    }

-- term and script

pub term-loop-read-init : goal.term-loop-read-init
term-loop-read-init t c = chain_start term_reader _ _

pub term-returns-in_err-read : goal.term-returns-in_err-read
term-returns-in_err-read t c =
    fails _ _ _ _ _ _ _ _ c.from_residual.result c.from_residual.ensures.0
    (chain_none term_reader read_term (λ ts. refl) (λ n ts. refl) _ _ _ _ _ c.loop-read.invariant c.in_err-read.ensures)

pub term-loop-read-preserved : goal.term-loop-read-preserved
term-loop-read-preserved t c =
    let bs = c.loop-read.all.rest.now in
    chain_more term_reader read_term (λ ts. refl) (λ n ts. refl) c.args.bytes.now c.args.out.now c.loop-read.out c.term_link.new.out bs c.loop-read.all.stage c.in-More.read c.then-all.result
    c.then-all.ensures.rest c.then-all.ensures.stage c.loop-read.invariant (links_more read_term term_reader bs c.loop-read.out c.term_link.new.out c.in_ok-read.field-0 c.in-More.read c.in-More.is c.in_ok-read.ensures)

pub term-returns-in-Last : goal.term-returns-in-Last
term-returns-in-Last t c =
    let bs = c.loop-read.all.rest.now in
    chain_last term_reader read_term (λ ts. refl) (λ n ts. refl) c.args.bytes.now c.args.out.now c.loop-read.out c.term_link.new.out bs c.loop-read.all.stage c.in-Last.read c.then.result c.then.ensures.rest
    c.then.ensures.stage c.loop-read.invariant (links_last read_term term_reader bs c.loop-read.out c.term_link.new.out c.in_ok-read.field-0 c.in-Last.read c.in-Last.is c.in_ok-read.ensures)

pub script-loop-read-init : goal.script-loop-read-init
script-loop-read-init t c = chain_start script_reader _ _

pub script-returns-in_err-read : goal.script-returns-in_err-read
script-returns-in_err-read t c =
    fails _ _ _ _ _ _ _ _ c.from_residual.result c.from_residual.ensures.0
    (chain_none script_reader read_script (λ ts. refl) (λ n ts. refl) _ _ _ _ _ c.loop-read.invariant c.in_err-read.ensures)

pub script-loop-read-preserved : goal.script-loop-read-preserved
script-loop-read-preserved t c =
    let bs = c.loop-read.all.rest.now in
    chain_more script_reader read_script (λ ts. refl) (λ n ts. refl) c.args.bytes.now c.args.out.now c.loop-read.out c.script_link.new.out bs c.loop-read.all.stage c.in-More.read c.then-all.result
    c.then-all.ensures.rest c.then-all.ensures.stage c.loop-read.invariant (links_more read_script script_reader bs c.loop-read.out c.script_link.new.out c.in_ok-read.field-0 c.in-More.read c.in-More.is c.in_ok-read.ensures)

pub script-returns-in-Last : goal.script-returns-in-Last
script-returns-in-Last t c =
    let bs = c.loop-read.all.rest.now in
    chain_last script_reader read_script (λ ts. refl) (λ n ts. refl) c.args.bytes.now c.args.out.now c.loop-read.out c.script_link.new.out bs c.loop-read.all.stage c.in-Last.read c.then.result c.then.ensures.rest
    c.then.ensures.stage c.loop-read.invariant (links_last read_script script_reader bs c.loop-read.out c.script_link.new.out c.in_ok-read.field-0 c.in-Last.read c.in-Last.is c.in_ok-read.ensures)

-- term_link

pub term_link-returns : goal.term_link-returns
term_link-returns t c =
    links_as read_arrow read_term term_reader c.args.bytes.now _ _ c.arrow.result (λ r. term_arrow r (tokens c.args.bytes.now) c.in_default.ensures c.in_default-read_binder.ensures) c.arrow.ensures

-- have

pub have-returns-in_err-typed : goal.have-returns-in_err-typed
have-returns-in_err-typed t c =
    let w = c.in_ok-word.ensures in
    let e = c.in_ok-rest.ensures in
    opens_fail _ _ _ _ _ _ c.from_residual-in_err-typed.result c.from_residual-in_err-typed.ensures.0
    (λ n h. then_is _ _ w.reads (bind_is _ _ e.0 (then_not _ _ (term_at n _ ∙ c.in_err-typed.ensures n (omega (arith, w.fewer, e.1.fewer))))))

pub have-returns-in_err-rest-2 : goal.have-returns-in_err-rest-2
have-returns-in_err-rest-2 t c =
    let w = c.in_ok-word.ensures in
    let e = c.in_ok-rest.ensures in
    let d = c.in_ok-typed.ensures in
    opens_fail _ _ _ _ _ _ c.from_residual-in_err-rest-2.result c.from_residual-in_err-rest-2.ensures.0
    (λ n h. then_is _ _ w.reads (bind_is _ _ e.0 (then_is _ _ (term_at n _ ∙ d.reads n (omega (arith, w.fewer, e.1.fewer))) (bind_not _ _ c.in_err-rest-2.ensures))))

pub have-returns-in_err-read : goal.have-returns-in_err-read
have-returns-in_err-read t c =
    let w = c.in_ok-word.ensures in
    let e = c.in_ok-rest.ensures in
    let d = c.in_ok-typed.ensures in
    let f = c.in_ok-rest-2.ensures in
    opens_fail _ _ _ _ _ _ c.from_residual-in_err-read.result c.from_residual-in_err-read.ensures.0
    (λ n h. then_is _ _ w.reads (bind_is _ _ e.0 (then_is _ _ (term_at n _ ∙ d.reads n (omega (arith, w.fewer, e.1.fewer))) (bind_is _ _ f.0
    (then_not _ _ (script_at n _ ∙ c.in_err-read.ensures n (omega (arith, w.fewer, e.1.fewer, d.fewer, f.1.fewer))))))))

pub have-returns-in_err-rest-3 : goal.have-returns-in_err-rest-3
have-returns-in_err-rest-3 t c =
    let w = c.in_ok-word.ensures in
    let e = c.in_ok-rest.ensures in
    let d = c.in_ok-typed.ensures in
    let f = c.in_ok-rest-2.ensures in
    let g = c.in_ok-read.ensures in
    opens_fail _ _ _ _ _ _ c.from_residual-in_err-rest-3.result c.from_residual-in_err-rest-3.ensures.0
    (λ n h. then_is _ _ w.reads (bind_is _ _ e.0 (then_is _ _ (term_at n _ ∙ d.reads n (omega (arith, w.fewer, e.1.fewer))) (bind_is _ _ f.0
    (then_is _ _ (script_at n _ ∙ g.reads n (omega (arith, w.fewer, e.1.fewer, d.fewer, f.1.fewer))) (bind_not _ _ c.in_err-rest-3.ensures))))))

pub have-returns : goal.have-returns
have-returns t c =
    let w = c.in_ok-word.ensures in
    let e = c.in_ok-rest.ensures in
    let d = c.in_ok-typed.ensures in
    let f = c.in_ok-rest-2.ensures in
    let g = c.in_ok-read.ensures in
    let k = c.in_ok-rest-3.ensures in
    let x = c.in_ok-word.word.name.now in
    record {
      frame = f_have x d.value g.value;
      opens = λ n h. then_is _ _ w.reads (bind_is _ _ e.0 (then_is _ _ (term_at n _ ∙ d.reads n (omega (arith, w.fewer, e.1.fewer))) (bind_is _ _ f.0
          (then_is _ _ (script_at n _ ∙ g.reads n (omega (arith, w.fewer, e.1.fewer, d.fewer, f.1.fewer))) (bind_is _ _ k.0 (wrap-then (f_have x d.value g.value) _))))));
      wrote = append_as (ap (λ (z : List ℕ). 10 ∷ length x ∷ z) (append_assoc x _ _ ∙ ap (λ (z : List ℕ). x ++ z) (sym (expr_then d.value _)))) (append_then (append_then c.push_named.ensures d.wrote) g.wrote);
      stage = c.max.ensures ∙ ap₂ max d.stage g.stage;
      fewer = omega (arith, w.fewer, e.1.fewer, d.fewer, f.1.fewer, g.fewer, k.1.fewer);
      room = omega (arith, w.shorter, w.some_bytes, e.1.shorter, d.room, f.1.shorter, g.room, k.1.shorter, c.push_named.ensures.ends);
    }

-- apply

pub apply-loop-inner-init : goal.apply-loop-inner-init
apply-loop-inner-init t c = row_start (λ n. (readers n).args) _ _ _

pub apply-returns-in_err-read : goal.apply-returns-in_err-read
apply-returns-in_err-read t c =
    let d = c.in_ok-first.ensures in
    let e = c.in-Some.ensures in
    fails _ _ _ _ _ _ _ _ c.from_residual-in_err-read.result c.from_residual-in_err-read.ensures.0
    (λ n l. apply_args (readers n) (tokens c.args.bytes.now) _ _ (d.reads n l) ∙ row_none (λ n. (readers n).args) _ _ _ _ _ _ _ c.loop-inner.invariant
    (λ h m k. option_is _ _ _ e.0 (then_not _ _ (script_at m _ ∙ c.in_err-read.ensures m (omega (arith, k, e.1.fewer))))) d.value n (omega (arith, l, d.fewer)))

pub apply-returns-in_err-rest : goal.apply-returns-in_err-rest
apply-returns-in_err-rest t c =
    let d = c.in_ok-first.ensures in
    let e = c.in-Some.ensures in
    let g = c.in_ok-read.ensures in
    fails _ _ _ _ _ _ _ _ c.from_residual-in_err-rest.result c.from_residual-in_err-rest.ensures.0
    (λ n l. apply_args (readers n) (tokens c.args.bytes.now) _ _ (d.reads n l) ∙ row_none (λ n. (readers n).args) _ _ _ _ _ _ _ c.loop-inner.invariant
    (λ h m k. option_is _ _ _ e.0 (then_is _ _ (script_at m _ ∙ g.reads m (omega (arith, k, e.1.fewer))) (bind_not _ _ c.in_err-rest.ensures))) d.value n (omega (arith, l, d.fewer)))

pub apply-loop-inner-preserved : goal.apply-loop-inner-preserved
apply-loop-inner-preserved t c =
    let e = c.in-Some.ensures in
    let g = c.in_ok-read.ensures in
    let b = c.in_ok-rest.ensures in
    row_as (λ n. (readers n).args) _ _ _ _ _ _ _ _ c.then-all.ensures.rest
    (row_more (λ n. (readers n).args) _ _ _ _ _ _ _ _ _ _ _ g.value c.loop-inner.invariant
    (λ h m k. option_is _ _ _ e.0 (then_is _ _ (script_at m _ ∙ g.reads m (omega (arith, k, e.1.fewer))) (bind_is _ _ b.0 refl)))
    g.wrote g.stage c.then-all.ensures.stage (omega (arith, e.1.fewer, g.fewer, b.1.fewer)) (omega (arith, e.1.shorter, g.room, b.1.shorter)))

pub apply-returns : goal.apply-returns
apply-returns t c =
    let d = c.in_ok-first.ensures in
    row_end (λ n. (readers n).args) (level read_exact) (level read_apply) _ _ _ _ c.in_ok-first.first _ _ _ _ _ _ (omega arith) d c.loop-inner.invariant refl refl
    (λ n h. (n, omega (arith, h, d.fewer), apply_args (readers n) (tokens c.args.bytes.now) _ _ (d.reads n h)))
    (λ h m. option_not _ _ _ c.in_default.ensures refl) c.insert.ensures
