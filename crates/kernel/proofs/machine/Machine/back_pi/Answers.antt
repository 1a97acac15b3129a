use Rattle.std.proofs.Common.{sym, subst as tr, arith}
use Rattle.theory.specs.Terms.{sort}
use Rattle.theory.specs.Typing.{is_sort}
use Rattle.kernel.specs.Inference.{Worked}
use Rattle.kernel.proofs.Moves.{name_room}
use Rattle.kernel.proofs.Backs.{behind_ready, type_limited, top_frame, top_view}
use Rattle.kernel.proofs.Domains.{pi_sorted, pi_unsorted}
use Rattle.kernel.proofs.machine.Machine.back_pi.Goals as goal

pub to_level-requires : goal.to_level-requires
to_level-requires c = record { ready = behind_ready c.requires.can.given c.requires.can.behind }

pub kept_number-place-requires : goal.kept_number-place-requires
kept_number-place-requires c = omega (arith, top_frame c.requires.can.behind.way c.requires.can.behind.kept c.requires.tagged.below)

pub push_number-names-requires : goal.push_number-names-requires
push_number-names-requires c = record { low = name_room c.requires.can.behind.kept; within = omega (arith, c.requires.can.behind.kept.names_end) }

pub push_kept-free-requires : goal.push_kept-free-requires
push_kept-free-requires c = record { room = omega arith; within = top_frame c.requires.can.behind.way c.requires.can.behind.kept c.requires.tagged.below }

pub returns-clause-turned : goal.returns-clause-turned
returns-clause-turned c k n b e =
    let (w, v) = c.in_ok-level.ensures k.env b.type n.stored b.stands in
    pi_sorted b.way (top_view b.way b.kept c.requires.tagged) b.kept b.at b.has (tr (λ m. Worked k.env is_sort m b.type (sort c.in_ok-level.level)) (sym e) w) v
    c.kept_number-place.ensures c.push_number-names.ensures (omega arith) (omega arith) c.push_kept-free.ensures (omega arith) (top_frame b.way b.kept c.requires.tagged.below)

pub returns-in_err-level-clause-turned : goal.returns-in_err-level-clause-turned
returns-in_err-level-clause-turned c k n b e =
    type_limited b.way c.args.self.now.most c.args.self.now.heap.now c.to_level.new.heap _ _ _ _ _ n.sensible b.has b.kept.heap_top e (omega arith) n.stack_room _ c.from_residual.result c.from_residual.ensures.1
    (λ u. pi_unsorted n.sensible u b.way (top_view b.way b.kept c.requires.tagged) b.has) (c.in_err-level.ensures k.env b.type n.stored b.stands)
