use Rattle.std.proofs.Common.{Some, arith}
use Rattle.reduction.proofs.Turning.{starts}
use Rattle.reduction.proofs.Looping.{is_closed, is_open, less_move, ends_early, ends}
use Rattle.reduction.proofs.Turns.{state_bound, frame_whole, frame_says, turn_find, less_find, turn_fires, less_last, turn_stays, turn_keeps, less_kept, term_holds, end_later, turn_skips, turn_leaf, turn_pair, turn_redex, turn_spread, spread_one, need_order, need_bound, turn_need, less_needed}
use Rattle.reduction.proofs.find.find.Goals as goal

pub pass-init : goal.pass-init
pass-init c =
    starts c.args.env.index.now c.args.env.store.now c.args.heap.now c.args.stack.now c.args.at

pub returns-then-free-stack : goal.returns-then-free-stack
returns-then-free-stack c =
    ends c.args.env.index.now c.args.env.store.now c.args.heap.now c.args.at c.pass.place c.pass.before c.pass.hit c.pass.stack c.pass.free c.pass.invariant c.if-free-stack.true c.if-before-eq0.true

pub returns-then-free-stack-2 : goal.returns-then-free-stack-2
returns-then-free-stack-2 c =
    ends_early c.args.env.index.now c.args.env.store.now c.args.heap.now c.args.at c.pass.place c.pass.before c.pass.hit c.pass.stack c.pass.free (is_closed c.pass.hit c.is_some.result c.is_some.ensures c.if-is_some.true).0 c.pass.invariant c.if-free-stack-2.true (is_closed c.pass.hit c.is_some.result c.is_some.ensures c.if-is_some.true).1

pub frame_at-frame-requires : goal.frame_at-frame-requires
frame_at-frame-requires c = frame_whole c.requires c.pass.invariant c.if-before-eq0.true c.if-free-stack.false

pub pass-preserved-in-Find : goal.pass-preserved-in-Find
pass-preserved-in-Find c = rw c.or-hit.ensures (turn_find c.requires c.pass.invariant c.if-before-eq0.true c.if-free-stack.false c.frame_at-frame.ensures c.in-Find.is)

pub pass-smaller-in-Find : goal.pass-smaller-in-Find
pass-smaller-in-Find c = rw c.or-hit.ensures (less_find c.requires c.pass.invariant c.if-before-eq0.true c.if-free-stack.false c.frame_at-frame.ensures)

pub fires-requires : goal.fires-requires
fires-requires c = let p = frame_says c.requires c.pass.invariant c.if-before-eq0.true c.if-free-stack.false c.frame_at-frame.ensures in record { stands = p.whole c.in_default.not-Find; argument = p.arg c.in_default.not-Find }

pub overflow_add-before : goal.overflow_add-before
overflow_add-before c = let b = state_bound c.requires (turn_fires c.requires c.pass.invariant c.if-before-eq0.true c.if-free-stack.false c.frame_at-frame.ensures c.in_default.not-Find c.if-fires.ensures) in omega (arith, b.inside, b.heaped)

pub pass-preserved-then-fires : goal.pass-preserved-then-fires
pass-preserved-then-fires c = turn_fires c.requires c.pass.invariant c.if-before-eq0.true c.if-free-stack.false c.frame_at-frame.ensures c.in_default.not-Find c.if-fires.ensures

pub pass-smaller-then-fires : goal.pass-smaller-then-fires
pass-smaller-then-fires c = less_last c.requires c.pass.invariant c.if-before-eq0.true c.if-free-stack.false c.frame_at-frame.ensures c.in_default.not-Find (Some c.frame_at-frame.result.place)

pub push_frame-free-requires : goal.push_frame-free-requires
push_frame-free-requires c = record { low = omega arith; within = frame_whole c.requires c.pass.invariant c.if-before-eq0.true c.if-free-stack.false }

pub pass-preserved-in-Some : goal.pass-preserved-in-Some
pass-preserved-in-Some c = turn_keeps c.requires c.pass.invariant c.if-before-eq0.true c.if-free-stack.false c.frame_at-frame.ensures c.in_default.not-Find c.in-Some.is c.push_frame-free.ensures c.push_frame-free.auto.stack c.if-fires.ensures

pub pass-smaller-in-Some : goal.pass-smaller-in-Some
pass-smaller-in-Some c = less_kept c.requires c.pass.invariant c.if-before-eq0.true c.if-free-stack.false c.frame_at-frame.ensures c.in_default.not-Find c.push_frame-free.ensures

pub overflow_add-before-then-before-eq0 : goal.overflow_add-before-then-before-eq0
overflow_add-before-then-before-eq0 c = let b = state_bound c.requires (turn_stays c.requires c.pass.invariant c.if-before-eq0.true c.if-free-stack.false c.frame_at-frame.ensures c.in_default.not-Find c.in_default-hit.is c.if-fires.ensures) in omega (arith, b.inside, b.heaped)

pub pass-preserved-then-before-eq0 : goal.pass-preserved-then-before-eq0
pass-preserved-then-before-eq0 c = turn_stays c.requires c.pass.invariant c.if-before-eq0.true c.if-free-stack.false c.frame_at-frame.ensures c.in_default.not-Find c.in_default-hit.is c.if-fires.ensures

pub pass-smaller-then-before-eq0 : goal.pass-smaller-then-before-eq0
pass-smaller-then-before-eq0 c = less_last c.requires c.pass.invariant c.if-before-eq0.true c.if-free-stack.false c.frame_at-frame.ensures c.in_default.not-Find c.pass.hit

pub end_of-place-requires : goal.end_of-place-requires
end_of-place-requires c = term_holds c.requires c.pass.invariant c.if-before-eq0.false

pub pass-preserved-then-is_some : goal.pass-preserved-then-is_some
pass-preserved-then-is_some c = turn_skips c.requires c.pass.invariant c.if-before-eq0.false c.end_of-place.ensures (is_closed c.pass.hit c.is_some.result c.is_some.ensures c.if-is_some.true).1

pub pass-smaller-then-is_some : goal.pass-smaller-then-is_some
pass-smaller-then-is_some c = let b = state_bound c.requires (turn_skips c.requires c.pass.invariant c.if-before-eq0.false c.end_of-place.ensures (is_closed c.pass.hit c.is_some.result c.is_some.ensures c.if-is_some.true).1) in less_move c.args.heap.now c.pass.stack c.pass.place _ c.pass.free c.pass.hit (end_later c.requires c.pass.invariant c.if-before-eq0.false c.end_of-place.ensures) (omega (arith, b.inside, b.heaped))

pub look_at-requires : goal.look_at-requires
look_at-requires c = term_holds c.requires c.pass.invariant c.if-before-eq0.false

pub overflow_add-place : goal.overflow_add-place
overflow_add-place c = let b = state_bound c.requires (turn_leaf c.requires c.pass.invariant c.if-before-eq0.false (is_open c.pass.hit c.is_some.result c.is_some.ensures c.if-is_some.false) c.in-Leaf.ensures) in omega (arith, b.inside, b.heaped)

pub pass-preserved-in-Leaf : goal.pass-preserved-in-Leaf
pass-preserved-in-Leaf c = turn_leaf c.requires c.pass.invariant c.if-before-eq0.false (is_open c.pass.hit c.is_some.result c.is_some.ensures c.if-is_some.false) c.in-Leaf.ensures

pub pass-smaller-in-Leaf : goal.pass-smaller-in-Leaf
pass-smaller-in-Leaf c = let b = state_bound c.requires (turn_leaf c.requires c.pass.invariant c.if-before-eq0.false (is_open c.pass.hit c.is_some.result c.is_some.ensures c.if-is_some.false) c.in-Leaf.ensures) in less_move c.args.heap.now c.pass.stack c.pass.place _ c.pass.free c.pass.hit (omega arith) (omega (arith, b.inside, b.heaped))

pub overflow_add-place-in-Pair : goal.overflow_add-place-in-Pair
overflow_add-place-in-Pair c = let b = state_bound c.requires (turn_pair c.requires c.pass.invariant c.if-before-eq0.false (is_open c.pass.hit c.is_some.result c.is_some.ensures c.if-is_some.false) c.in-Pair.ensures) in omega (arith, b.inside, b.heaped)

pub overflow_add-before-in-Pair : goal.overflow_add-before-in-Pair
overflow_add-before-in-Pair c = let b = state_bound c.requires (turn_pair c.requires c.pass.invariant c.if-before-eq0.false (is_open c.pass.hit c.is_some.result c.is_some.ensures c.if-is_some.false) c.in-Pair.ensures) in omega (arith, b.inside, b.heaped)

pub pass-preserved-in-Pair : goal.pass-preserved-in-Pair
pass-preserved-in-Pair c = turn_pair c.requires c.pass.invariant c.if-before-eq0.false (is_open c.pass.hit c.is_some.result c.is_some.ensures c.if-is_some.false) c.in-Pair.ensures

pub pass-smaller-in-Pair : goal.pass-smaller-in-Pair
pass-smaller-in-Pair c = let b = state_bound c.requires (turn_pair c.requires c.pass.invariant c.if-before-eq0.false (is_open c.pass.hit c.is_some.result c.is_some.ensures c.if-is_some.false) c.in-Pair.ensures) in less_move c.args.heap.now c.pass.stack c.pass.place _ c.pass.free c.pass.hit (omega arith) (omega (arith, b.inside, b.heaped))

pub pass-preserved-in-Redex : goal.pass-preserved-in-Redex
pass-preserved-in-Redex c = turn_redex c.requires c.pass.invariant c.if-before-eq0.false (is_open c.pass.hit c.is_some.result c.is_some.ensures c.if-is_some.false) c.in-Redex.ensures

pub overflow_mul-place : goal.overflow_mul-place
overflow_mul-place c = let b = state_bound c.requires (turn_spread c.requires c.pass.invariant c.if-before-eq0.false (is_open c.pass.hit c.is_some.result c.is_some.ensures c.if-is_some.false) c.in-Spread.ensures) in omega (arith, b.inside, b.heaped)

pub overflow_add-place-in-Spread : goal.overflow_add-place-in-Spread
overflow_add-place-in-Spread c = let b = state_bound c.requires (turn_spread c.requires c.pass.invariant c.if-before-eq0.false (is_open c.pass.hit c.is_some.result c.is_some.ensures c.if-is_some.false) c.in-Spread.ensures) in omega (arith, b.inside, b.heaped)

pub overflow_add-before-in-Spread : goal.overflow_add-before-in-Spread
overflow_add-before-in-Spread c = let b = state_bound c.requires (turn_spread c.requires c.pass.invariant c.if-before-eq0.false (is_open c.pass.hit c.is_some.result c.is_some.ensures c.if-is_some.false) c.in-Spread.ensures) in omega (arith, b.inside, b.heaped)

pub pass-preserved-in-Spread : goal.pass-preserved-in-Spread
pass-preserved-in-Spread c = turn_spread c.requires c.pass.invariant c.if-before-eq0.false (is_open c.pass.hit c.is_some.result c.is_some.ensures c.if-is_some.false) c.in-Spread.ensures

pub pass-smaller-in-Spread : goal.pass-smaller-in-Spread
pass-smaller-in-Spread c = let b = state_bound c.requires (turn_spread c.requires c.pass.invariant c.if-before-eq0.false (is_open c.pass.hit c.is_some.result c.is_some.ensures c.if-is_some.false) c.in-Spread.ensures) in less_move c.args.heap.now c.pass.stack c.pass.place _ c.pass.free c.pass.hit (omega (arith, spread_one c.requires c.pass.invariant c.if-before-eq0.false (is_open c.pass.hit c.is_some.result c.is_some.ensures c.if-is_some.false) c.in-Spread.ensures)) (omega (arith, b.inside, b.heaped))

pub overflow_sub-last : goal.overflow_sub-last
overflow_sub-last c = omega (arith, (need_order c.requires c.pass.invariant c.if-before-eq0.false (is_open c.pass.hit c.is_some.result c.is_some.ensures c.if-is_some.false) c.in-Needs.ensures).1)

pub overflow_sub-last-in-Needs-2 : goal.overflow_sub-last-in-Needs-2
overflow_sub-last-in-Needs-2 c = omega (arith, (need_order c.requires c.pass.invariant c.if-before-eq0.false (is_open c.pass.hit c.is_some.result c.is_some.ensures c.if-is_some.false) c.in-Needs.ensures).1)

pub overflow_mul-last : goal.overflow_mul-last
overflow_mul-last c = let o = need_order c.requires c.pass.invariant c.if-before-eq0.false (is_open c.pass.hit c.is_some.result c.is_some.ensures c.if-is_some.false) c.in-Needs.ensures in let b = need_bound c.requires c.pass.invariant c.if-before-eq0.false (is_open c.pass.hit c.is_some.result c.is_some.ensures c.if-is_some.false) c.in-Needs.ensures in let d = state_bound c.requires c.pass.invariant in omega (arith, b.inside, b.heaped, d.inside, d.heaped, o.0, o.1)

pub overflow_add-last : goal.overflow_add-last
overflow_add-last c = let o = need_order c.requires c.pass.invariant c.if-before-eq0.false (is_open c.pass.hit c.is_some.result c.is_some.ensures c.if-is_some.false) c.in-Needs.ensures in let b = need_bound c.requires c.pass.invariant c.if-before-eq0.false (is_open c.pass.hit c.is_some.result c.is_some.ensures c.if-is_some.false) c.in-Needs.ensures in let d = state_bound c.requires c.pass.invariant in omega (arith, b.inside, b.heaped, d.inside, d.heaped, o.0, o.1)

pub overflow_add-last-in-Needs : goal.overflow_add-last-in-Needs
overflow_add-last-in-Needs c = let o = need_order c.requires c.pass.invariant c.if-before-eq0.false (is_open c.pass.hit c.is_some.result c.is_some.ensures c.if-is_some.false) c.in-Needs.ensures in let b = need_bound c.requires c.pass.invariant c.if-before-eq0.false (is_open c.pass.hit c.is_some.result c.is_some.ensures c.if-is_some.false) c.in-Needs.ensures in let d = state_bound c.requires c.pass.invariant in omega (arith, b.inside, b.heaped, d.inside, d.heaped, o.0, o.1)

pub overflow_mul-place-in-Needs : goal.overflow_mul-place-in-Needs
overflow_mul-place-in-Needs c = let o = need_order c.requires c.pass.invariant c.if-before-eq0.false (is_open c.pass.hit c.is_some.result c.is_some.ensures c.if-is_some.false) c.in-Needs.ensures in let b = need_bound c.requires c.pass.invariant c.if-before-eq0.false (is_open c.pass.hit c.is_some.result c.is_some.ensures c.if-is_some.false) c.in-Needs.ensures in let d = state_bound c.requires c.pass.invariant in omega (arith, b.inside, b.heaped, d.inside, d.heaped, o.0, o.1)

pub overflow_add-place-in-Needs : goal.overflow_add-place-in-Needs
overflow_add-place-in-Needs c = let o = need_order c.requires c.pass.invariant c.if-before-eq0.false (is_open c.pass.hit c.is_some.result c.is_some.ensures c.if-is_some.false) c.in-Needs.ensures in let b = need_bound c.requires c.pass.invariant c.if-before-eq0.false (is_open c.pass.hit c.is_some.result c.is_some.ensures c.if-is_some.false) c.in-Needs.ensures in let d = state_bound c.requires c.pass.invariant in omega (arith, b.inside, b.heaped, d.inside, d.heaped, o.0, o.1)

pub push_frame-free-requires-in-Needs : goal.push_frame-free-requires-in-Needs
push_frame-free-requires-in-Needs c = let o = need_order c.requires c.pass.invariant c.if-before-eq0.false (is_open c.pass.hit c.is_some.result c.is_some.ensures c.if-is_some.false) c.in-Needs.ensures in let b = need_bound c.requires c.pass.invariant c.if-before-eq0.false (is_open c.pass.hit c.is_some.result c.is_some.ensures c.if-is_some.false) c.in-Needs.ensures in record { low = omega (arith, b.inside, b.heaped, b.stacked, c.pass.invariant.used, c.pass.auto.stack, o.0, o.1); within = c.pass.invariant.bounded }

pub pass-preserved : goal.pass-preserved
pass-preserved c = turn_need c.requires c.pass.invariant c.if-before-eq0.false (is_open c.pass.hit c.is_some.result c.is_some.ensures c.if-is_some.false) c.in-Needs.ensures c.push_frame-free-in-Needs.ensures c.push_frame-free-in-Needs.auto.stack

pub pass-smaller : goal.pass-smaller
pass-smaller c = less_needed c.requires c.pass.invariant c.if-before-eq0.false (is_open c.pass.hit c.is_some.result c.is_some.ensures c.if-is_some.false) c.in-Needs.ensures c.push_frame-free-in-Needs.ensures
