use Rattle.std.proofs.Common.{◌+◌, ◌<◌, ◌≤◌, length, rules}
use Rattle.terms.proofs.Places.{holds_within}
use Rattle.terms.proofs.Walking.{pairs_start, pairs_left, pairs_right, pairs_few, pairs_in, pairs_out, pairs_differ, pairs_end, node_is}
use Rattle.terms.proofs.walk.equal.Goals as goal
use Rattle.terms.proofs.walk.equal.Goals.{then-has_parts, else-has_parts}

pub loop-pairs-init : goal.loop-pairs-init
loop-pairs-init c = pairs_start _ _ _ _ c.requires.left c.requires.right

pub same_node-requires : goal.same_node-requires
same_node-requires c = record { left = pairs_left _ _ _ _ _ _ _ c.loop-pairs.invariant c.loop-pairs-test.true; right = pairs_right _ _ _ _ _ _ _ c.loop-pairs.invariant c.loop-pairs-test.true }

pub returns-then-not-same_node : goal.returns-then-not-same_node
returns-then-not-same_node c = pairs_differ _ _ _ _ _ _ _ c.loop-pairs.invariant c.loop-pairs-test.true c.if-not-same_node.ensures

pub sign_at-requires : goal.sign_at-requires
sign_at-requires c = pairs_left _ _ _ _ _ _ _ c.loop-pairs.invariant c.loop-pairs-test.true

pub overflow_add-pairs : goal.overflow_add-pairs
overflow_add-pairs c =
    let h : c.loop-pairs.p + c.loop-pairs.pairs < length c.args.left.now = pairs_few _ _ c.args.i c.args.j _ c.loop-pairs.q _ c.loop-pairs.invariant c.loop-pairs-test.true in
    search rules

pub overflow_add-p : goal.overflow_add-p
overflow_add-p c = let h : c.loop-pairs.p + 3 ≤ length c.args.left.now = holds_within _ _ (pairs_left _ _ _ _ _ _ _ c.loop-pairs.invariant c.loop-pairs-test.true) in search rules

pub overflow_add-q : goal.overflow_add-q
overflow_add-q c = let h : c.loop-pairs.q + 3 ≤ length c.args.right.now = holds_within _ _ (pairs_right _ _ _ _ _ _ _ c.loop-pairs.invariant c.loop-pairs-test.true) in search rules

pub loop-pairs-smaller : goal.loop-pairs-smaller
loop-pairs-smaller c = let h : c.loop-pairs.p + 3 ≤ length c.args.left.now = holds_within _ _ (pairs_left _ _ _ _ _ _ _ c.loop-pairs.invariant c.loop-pairs-test.true) in search rules

pub loop-pairs-preserved : goal.loop-pairs-preserved
loop-pairs-preserved c = elim c.if-has_parts.branch [
  | then-has_parts w ↦ rw w.pairs-is (pairs_in _ _ _ _ _ _ _ c.loop-pairs.invariant c.loop-pairs-test.true c.if-not-same_node.ensures (node_is _ _ _ _ _ c.sign_at.ensures c.has_parts.ensures w.if-has_parts.true))
  | else-has_parts w ↦ rw w.pairs-is (pairs_out _ _ _ _ _ _ _ c.loop-pairs.invariant c.loop-pairs-test.true c.if-not-same_node.ensures (node_is _ _ _ _ _ c.sign_at.ensures c.has_parts.ensures w.if-has_parts.false))
]

pub returns : goal.returns
returns c = pairs_end _ _ _ _ _ _ _ c.loop-pairs.invariant c.loop-pairs-test.false
