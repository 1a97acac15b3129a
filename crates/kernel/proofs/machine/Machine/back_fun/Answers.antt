use Rattle.std.proofs.Common.{length, subst as tr, arith}
use Rattle.std.specs.Prelude.{Ok}
use Rattle.reduction.specs.declared.reduce.Aim.TheVariants.{ToPi}
use Rattle.kernel.specs.Reducing.{Halts}
use Rattle.kernel.proofs.Backs.{behind_ready, halts_limited, top_frame, top_view}
use Rattle.kernel.proofs.Functions.{pi_view, fun_reached, fun_other}
use Rattle.kernel.proofs.Moves.{frame-room}
use Rattle.kernel.proofs.machine.Machine.back_fun.Goals as goal

pub reduce_halved-requires : goal.reduce_halved-requires
reduce_halved-requires c = behind_ready c.requires.can.given c.requires.can.behind

pub push_argument-free-requires : goal.push_argument-free-requires
push_argument-free-requires c =
    let b = c.requires.can.behind in
    record { room = omega (arith, frame-room b.kept); within = top_frame b.way b.kept c.requires.tagged.below }

pub returns-in-Reached-clause-turned : goal.returns-in-Reached-clause-turned
returns-in-Reached-clause-turned c k n b e =
    let (u, f, p, q, a) = tr (λ r. Halts k.env ToPi 0 c.args.self.now.most c.args.self.now.heap.now c.args.spot.top (length c.args.self.now.stack.now) b.type c.reduce_halved.new.heap (Ok r)) c.in-Reached.is (c.in_ok-steps.ensures k.env b.type n.stored b.stands) in
    fun_reached b.way (top_view b.way b.kept c.requires.tagged) (pi_view u f.is) b.kept b.at b.has f (omega (arith, p, q, e)) (omega (arith, p)) a c.push_argument-free.ensures (omega arith)
    (top_frame b.way b.kept c.requires.tagged.below)

pub returns-in-Resting-clause-turned : goal.returns-in-Resting-clause-turned
returns-in-Resting-clause-turned c k n b e =
    let (u, m, p, q, r, s, t, a) = tr (λ r. Halts k.env ToPi 0 c.args.self.now.most c.args.self.now.heap.now c.args.spot.top (length c.args.self.now.stack.now) b.type c.reduce_halved.new.heap (Ok r)) c.in-Resting.is (c.in_ok-steps.ensures k.env b.type n.stored b.stands) in
    fun_other m n.sensible b.way (top_view b.way b.kept c.requires.tagged) b.has r s t

pub returns-in_err-steps-clause-turned : goal.returns-in_err-steps-clause-turned
returns-in_err-steps-clause-turned c k n b e =
    halts_limited b.way c.args.self.now.most c.args.self.now.heap.now c.reduce_halved.new.heap _ _ _ _ _ n.sensible b.has b.kept.heap_top e (omega arith) n.stack_room _ c.from_residual.result c.from_residual.ensures.1
    (c.in_err-steps.ensures k.env b.type n.stored b.stands)
