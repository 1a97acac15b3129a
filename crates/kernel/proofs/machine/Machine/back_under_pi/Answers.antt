use Rattle.std.proofs.Common.{sym, subst as tr, arith, rules}
use Rattle.theory.specs.Terms.{sort}
use Rattle.theory.specs.Typing.{is_sort}
use Rattle.kernel.specs.Inference.{Worked}
use Rattle.kernel.proofs.Reduced.{stands_within}
use Rattle.kernel.proofs.Backs.{behind_ready, type_limited, top_frame, top_view}
use Rattle.kernel.proofs.Domains.{under_pi_unsorted}
use Rattle.kernel.proofs.Codomains.{under_pi_sorted}
use Rattle.kernel.proofs.machine.Machine.back_under_pi.Goals as goal

pub to_level-requires : goal.to_level-requires
to_level-requires c = record { ready = behind_ready c.requires.can.given c.requires.can.behind }

pub bounds-self-spot : goal.bounds-self-spot
bounds-self-spot c = omega (arith, top_frame c.requires.can.behind.way c.requires.can.behind.kept c.requires.tagged.below)

pub push_sign-end-requires : goal.push_sign-end-requires
push_sign-end-requires c = omega (arith, (stands_within _ _ _ _ c.requires.can.behind.stands).0)

pub returns-clause-turned : goal.returns-clause-turned
returns-clause-turned c k n b e =
    let (w, v) = c.in_ok-level.ensures k.env b.type n.stored b.stands in
    rw c.unbound.ensures
    (under_pi_sorted n.sensible b.way (top_view b.way b.kept c.requires.tagged) b.kept b.at b.has (tr (λ m. Worked k.env is_sort m b.type (sort c.in_ok-level.level)) (sym e) w) v
    (omega (arith, (stands_within _ _ _ _ b.stands).0)) (search rules) c.push_sign-end.ensures (top_frame b.way b.kept c.requires.tagged.below))

pub returns-in_err-level-clause-turned : goal.returns-in_err-level-clause-turned
returns-in_err-level-clause-turned c k n b e =
    type_limited b.way c.args.self.now.most c.args.self.now.heap.now c.to_level.new.heap _ _ _ _ _ n.sensible b.has b.kept.heap_top e (omega arith) n.stack_room _ c.from_residual.result c.from_residual.ensures.1
    (λ u. under_pi_unsorted n.sensible u b.way (top_view b.way b.kept c.requires.tagged) b.has) (c.in_err-level.ensures k.env b.type n.stored b.stands)
