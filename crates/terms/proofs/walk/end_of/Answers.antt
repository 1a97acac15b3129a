use Rattle.std.proofs.Common.{rules}
use Rattle.terms.proofs.Walking.{Turn, come_start, come_turn, come_in, come_out, come_end, node_is}
use Rattle.terms.proofs.walk.end_of.Goals as goal
use Rattle.terms.proofs.walk.end_of.Goals.{then-has_parts, else-has_parts}

pub loop-pending-init : goal.loop-pending-init
loop-pending-init c = come_start _ _ c.requires

pub sign_at-requires : goal.sign_at-requires
sign_at-requires c = (come_turn _ c.args.at _ _ c.loop-pending.invariant c.loop-pending-test.true).holds

pub overflow_add-pending : goal.overflow_add-pending
overflow_add-pending c = let h : Turn c.args.words.now c.loop-pending.place c.loop-pending.pending = come_turn _ c.args.at _ _ c.loop-pending.invariant c.loop-pending-test.true in search rules

pub overflow_add-place : goal.overflow_add-place
overflow_add-place c = let h : Turn c.args.words.now c.loop-pending.place c.loop-pending.pending = come_turn _ c.args.at _ _ c.loop-pending.invariant c.loop-pending-test.true in search rules

pub loop-pending-smaller : goal.loop-pending-smaller
loop-pending-smaller c = let h : Turn c.args.words.now c.loop-pending.place c.loop-pending.pending = come_turn _ c.args.at _ _ c.loop-pending.invariant c.loop-pending-test.true in search rules

pub loop-pending-preserved : goal.loop-pending-preserved
loop-pending-preserved c = elim c.if-has_parts.branch [
  | then-has_parts w ↦ rw w.pending-is (come_in _ _ _ _ c.loop-pending.invariant c.loop-pending-test.true (node_is _ _ _ _ _ c.sign_at.ensures c.has_parts.ensures w.if-has_parts.true))
  | else-has_parts w ↦ rw w.pending-is (come_out _ _ _ _ c.loop-pending.invariant c.loop-pending-test.true (node_is _ _ _ _ _ c.sign_at.ensures c.has_parts.ensures w.if-has_parts.false))
]

pub returns : goal.returns
returns c = come_end _ _ _ _ c.loop-pending.invariant c.loop-pending-test.false
