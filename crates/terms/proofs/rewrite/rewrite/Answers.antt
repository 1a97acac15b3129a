use Rattle.std.proofs.Common.{Err, ◌≡◌, ◌-◌, length, take, sym, ap, arith, length-take, rules}
use Rattle.std.proofs.lemmas.Result.{err_from_is_err_and}
use Rattle.terms.specs.Words.{root}
use Rattle.terms.proofs.Rewriting.{doing_start, doing_at, doing_within, doing_inside, doing_low, doing_deep, doing_fits, doing_lent, doing_err, doing_full, doing_in, doing_out, doing_done}
use Rattle.terms.proofs.Lifting.{writes_as}
use Rattle.terms.proofs.rewrite.rewrite.Goals as goal

pub nodes-init : goal.nodes-init
nodes-init g c u b = doing_start c.args.stack.now c.requires.stands

pub put-requires : goal.put-requires
put-requires g c =
    let s = c.nodes.invariant _ c.requires.argument.1 in
    record { fits = doing_fits s (c.sign_at-sign.ensures _ _ (doing_at s)); order = doing_inside s c.requires.order }

pub returns-in_err-end : goal.returns-in_err-end
returns-in_err-end g c u t x b a =
    let s = c.nodes.invariant u b in
    let r : c.sign_at-sign.result ≡ root s.term = c.sign_at-sign.ensures _ _ (doing_at s) in
    let p = err_from_is_err_and c.from_residual.result c.from_residual.ensures.1 in
    let w = writes_as c.nodes.out c.nodes.end c.put.new.out _ c.nodes.free _ _ (Err c.in_err-end.field-0.0) (let k : length (take (c.nodes.free - 0) c.nodes.stack) ≡ c.nodes.free = omega (arith, doing_low s, length-take (c.nodes.free - 0) c.nodes.stack) in k) (ap (g.R.Rule.words c.args.rule.now u c.nodes.binders) r) (c.in_err-end.ensures u b) in
    rw (p.1, p.2) (doing_err s (c.requires.long u) (sym c.nodes.auto.out) (sym c.nodes.auto.stack) c.put.new.out c.in_err-end.field-0.0 w t x a)

pub overflow_add-place : goal.overflow_add-place
overflow_add-place g c = let h = doing_within (c.nodes.invariant _ c.requires.argument.1) in search rules

pub returns-then-free-lt2 : goal.returns-then-free-lt2
returns-then-free-lt2 g c u t x b a =
    let s = c.nodes.invariant u b in
    doing_full s (c.requires.long u) (sym c.nodes.auto.stack) (c.sign_at-sign.ensures _ _ (doing_at s)) c.if-has_parts.ensures c.if-free-lt2.true t x a

pub inner_depth-requires : goal.inner_depth-requires
inner_depth-requires g c =
    let s = c.nodes.invariant _ c.requires.argument.1 in
    let h = doing_within s in let d = doing_deep s in search rules

pub nodes-smaller-then-has_parts : goal.nodes-smaller-then-has_parts
nodes-smaller-then-has_parts g c = let h = doing_within (c.nodes.invariant _ c.requires.argument.1) in search rules

pub nodes-smaller : goal.nodes-smaller
nodes-smaller g c = let h = doing_within (c.nodes.invariant _ c.requires.argument.1) in search rules

pub sign_at-sign-requires : goal.sign_at-sign-requires
sign_at-sign-requires g c =
    let s = c.nodes.invariant _ c.requires.argument.1 in
    record { term = s.term; rest = _; at = doing_at s }

pub slice_bounds-put-end : goal.slice_bounds-put-end
slice_bounds-put-end g c = let h = doing_low (c.nodes.invariant _ c.requires.argument.1) in search rules

pub nodes-preserved-then-has_parts : goal.nodes-preserved-then-has_parts
nodes-preserved-then-has_parts g c u b =
    let s = doing_lent (c.nodes.invariant u b) _ c.put.auto.stack in
    doing_in s (c.sign_at-sign.ensures _ _ (doing_at s)) (c.in_ok-end.ensures u b) (c.requires.long u) c.if-has_parts.ensures c.inner_depth.ensures c.push_number-free.auto.stack c.push_number-free.ensures

pub returns-then-free-stack : goal.returns-then-free-stack
returns-then-free-stack g c u t x b a =
    let s = doing_lent (c.nodes.invariant u b) _ c.put.auto.stack in
    doing_done s (c.sign_at-sign.ensures _ _ (doing_at s)) (c.in_ok-end.ensures u b) c.if-has_parts.ensures c.if-free-stack.true t x a

pub nodes-preserved : goal.nodes-preserved
nodes-preserved g c u b =
    let s = doing_lent (c.nodes.invariant u b) _ c.put.auto.stack in
    doing_out s (c.sign_at-sign.ensures _ _ (doing_at s)) (c.in_ok-end.ensures u b) c.if-has_parts.ensures c.if-free-stack.false c.number_at-binders.result c.number_at-binders.ensures
