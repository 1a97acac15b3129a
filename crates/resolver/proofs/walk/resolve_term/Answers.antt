use Rattle.std.proofs.Common.{◌≤◌, length, sym, refl, ◌∙◌, arith, rules, subst as tr}
use Rattle.resolver.specs.Names.{Named}
use Rattle.std.proofs.lemmas.Result.{err_from_is_err_and}
use Rattle.resolver.proofs.Shapes.{plain_within}
use Rattle.resolver.proofs.Doing.{err_place, doing_start, doing_at, doing_plain, doing_scope, doing_known, doing_framed, doing_base, doing_room, doing_nowhere, doing_low, doing_in, doing_out, doing_done}
use Rattle.resolver.proofs.walk.resolve_term.Goals as goal

pub loop-sign-init : goal.loop-sign-init
loop-sign-init c = record { long = refl; doing = doing_start _ _ _ _ _ _ _ }

pub offset_bounds-stack-free : goal.offset_bounds-stack-free
offset_bounds-stack-free c =
    let s = c.requires.ready.setting in let d = c.loop-sign.invariant.doing _ _ _ _ s in
    let b : c.loop-sign.free ≤ length c.args.stack.now = omega (arith, s.within, d.framed.count) in search rules

pub slice_bounds-names-start : goal.slice_bounds-names-start
slice_bounds-names-start c =
    let s = c.requires.ready.setting in let d = c.loop-sign.invariant.doing _ _ _ _ s in
    let b : c.loop-sign.free ≤ length c.loop-sign.stack = omega (arith, s.within, d.framed.count, c.loop-sign.invariant.long) in search rules

pub slice_bounds-names-count : goal.slice_bounds-names-count
slice_bounds-names-count c =
    let s = c.requires.ready.setting in let d = c.loop-sign.invariant.doing _ _ _ _ s in
    omega (arith, (doing_framed s d c.loop-sign.invariant.long).within, d.framed.count)

pub node_sign-requires-clause-known : goal.node_sign-requires-clause-known
node_sign-requires-clause-known c = let s = c.requires.ready.setting in doing_known s (c.loop-sign.invariant.doing _ _ _ _ s)

pub node_sign-requires-clause-stands : goal.node_sign-requires-clause-stands
node_sign-requires-clause-stands c = let s = c.requires.ready.setting in doing_plain s (c.loop-sign.invariant.doing _ _ _ _ s)

pub overflow_add-place : goal.overflow_add-place
overflow_add-place c = let s = c.requires.ready.setting in let d = c.loop-sign.invariant.doing _ _ _ _ s in let h = plain_within _ _ (doing_plain s d) in search rules

pub shape_of-stack-in_err-sign : goal.shape_of-stack-in_err-sign
shape_of-stack-in_err-sign c = c.loop-sign.invariant.long

pub returns-in_err-sign : goal.returns-in_err-sign
returns-in_err-sign c gs ys e rest s =
    let d = c.loop-sign.invariant.doing gs ys e rest s in
    let p = err_from_is_err_and c.from_residual.result c.from_residual.ensures.1 in
    let w = doing_nowhere s d (sym c.in_err-sign.ensures.ok_part ∙ c.node_sign.ensures _ _ _ _ (record { globals = s.globals; scope = doing_scope s d }) (doing_at s d)) in
    rw (p.1, p.2) ((w.0, tr (Named c.args.tree.now) (sym (err_place c.in_err-sign.ensures.value c.in_err-sign.ensures.ok_part)) w.1), doing_base s d)

pub push_sign-end-requires : goal.push_sign-end-requires
push_sign-end-requires c = let s = c.requires.ready.setting in doing_room s (c.loop-sign.invariant.doing _ _ _ _ s) c.loop-sign.auto.out

pub overflow_add-name : goal.overflow_add-name
overflow_add-name c = let s = c.requires.ready.setting in let d = c.loop-sign.invariant.doing _ _ _ _ s in let h = plain_within _ _ (doing_plain s d) in search rules

pub parts_at-place-requires : goal.parts_at-place-requires
parts_at-place-requires c = let s = c.requires.ready.setting in doing_plain s (c.loop-sign.invariant.doing _ _ _ _ s)

pub wait-free-requires-clause-low : goal.wait-free-requires-clause-low
wait-free-requires-clause-low c =
    let s = c.requires.ready.setting in let d = c.loop-sign.invariant.doing _ _ _ _ s in
    doing_low s d c.in_ok-sign.sign (sym c.in_ok-sign.ensures.ok_part ∙ c.node_sign.ensures _ _ _ _ (record { globals = s.globals; scope = doing_scope s d }) (doing_at s d)) (sym c.if-has_parts.ensures)

pub wait-free-requires-clause-within : goal.wait-free-requires-clause-within
wait-free-requires-clause-within c =
    let s = c.requires.ready.setting in let d = c.loop-sign.invariant.doing _ _ _ _ s in
    omega (arith, (doing_framed s d c.loop-sign.invariant.long).within, d.framed.count)

pub wait-free-requires-clause-near : goal.wait-free-requires-clause-near
wait-free-requires-clause-near c =
    let s = c.requires.ready.setting in let d = c.loop-sign.invariant.doing _ _ _ _ s in
    omega (arith, plain_within _ _ (doing_plain s d), c.requires.near)

pub loop-sign-smaller-then-has_parts : goal.loop-sign-smaller-then-has_parts
loop-sign-smaller-then-has_parts c =
    let s = c.requires.ready.setting in let d = c.loop-sign.invariant.doing _ _ _ _ s in let h = c.parts_at-place.ensures _ _ (doing_at s d) in
    let a = h.later in let b = h.within in search rules

pub loop-sign-preserved-then-has_parts : goal.loop-sign-preserved-then-has_parts
loop-sign-preserved-then-has_parts c = record {
  long = c.wait-free.auto.stack ∙ c.loop-sign.invariant.long;
  doing = λ gs ys e rest s.
      let d = c.loop-sign.invariant.doing gs ys e rest s in
      doing_in s d c.in_ok-sign.sign (sym c.in_ok-sign.ensures.ok_part ∙ c.node_sign.ensures _ _ _ _ (record { globals = s.globals; scope = doing_scope s d }) (doing_at s d)) c.push_sign-end.ensures (c.parts_at-place.ensures _ _ (doing_at s d))
      (sym c.if-has_parts.ensures) c.wait-free.ensures;
}

pub next_open-free-requires : goal.next_open-free-requires
next_open-free-requires c = let s = c.requires.ready.setting in doing_framed s (c.loop-sign.invariant.doing _ _ _ _ s) c.loop-sign.invariant.long

pub returns-then-free-top : goal.returns-then-free-top
returns-then-free-top c gs ys e rest s =
    let d = c.loop-sign.invariant.doing gs ys e rest s in (
      doing_done s d c.in_ok-sign.sign (sym c.in_ok-sign.ensures.ok_part ∙ c.node_sign.ensures _ _ _ _ (record { globals = s.globals; scope = doing_scope s d }) (doing_at s d)) c.push_sign-end.ensures (c.parts_at-place.ensures _ _ (doing_at s d)) (sym c.if-has_parts.ensures)
          (c.next_open-free.ensures _ _ d.framed) c.if-free-top.true,
      doing_base s d,
    )

pub shape_of-stack-then-free-top : goal.shape_of-stack-then-free-top
shape_of-stack-then-free-top c = c.loop-sign.invariant.long

pub enter-free-requires-clause-framed : goal.enter-free-requires-clause-framed
enter-free-requires-clause-framed c =
    let s = c.requires.ready.setting in let d = c.loop-sign.invariant.doing _ _ _ _ s in let f = c.next_open-free.ensures _ _ d.framed in
    record { frames = _; base = _; at = f; within = (doing_framed s d c.loop-sign.invariant.long).within }

pub enter-free-requires-clause-some : goal.enter-free-requires-clause-some
enter-free-requires-clause-some c =
    let s = c.requires.ready.setting in let d = c.loop-sign.invariant.doing _ _ _ _ s in let f = c.next_open-free.ensures _ _ d.framed in
    omega (arith, f.count, c.if-free-top.false)

pub loop-sign-smaller : goal.loop-sign-smaller
loop-sign-smaller c =
    let s = c.requires.ready.setting in let d = c.loop-sign.invariant.doing _ _ _ _ s in let h = c.parts_at-place.ensures _ _ (doing_at s d) in
    let a = h.later in let b = h.within in search rules

pub loop-sign-preserved : goal.loop-sign-preserved
loop-sign-preserved c = record {
  long = c.enter-free.auto.stack ∙ c.loop-sign.invariant.long;
  doing = λ gs ys e rest s.
      let d = c.loop-sign.invariant.doing gs ys e rest s in let f = c.next_open-free.ensures _ _ d.framed in
      doing_out s d c.in_ok-sign.sign (sym c.in_ok-sign.ensures.ok_part ∙ c.node_sign.ensures _ _ _ _ (record { globals = s.globals; scope = doing_scope s d }) (doing_at s d)) c.push_sign-end.ensures (c.parts_at-place.ensures _ _ (doing_at s d))
      (sym c.if-has_parts.ensures) f c.if-free-top.false (c.enter-free.ensures _ _ f);
}
