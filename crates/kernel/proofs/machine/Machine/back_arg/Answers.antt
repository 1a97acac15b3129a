use Rattle.std.proofs.Common.{◌≡◌, length, arith}
use Rattle.std.proofs.lemmas.Result.{err_from_is_err_and}
use Rattle.kernel.specs.declared.failure.Failure.TheVariants.{NoRoom}
use Rattle.theory.proofs.Closed.{typed_scoped}
use Rattle.terms.proofs.Subterms.{holds_small}
use Rattle.kernel.proofs.Backs.{type_scoped, closed_env, top_view}
use Rattle.kernel.proofs.Moves.{walk_short, top_within}
use Rattle.kernel.proofs.Arguments.{applied, pi_within, frame_seven, place_read, kept_read, steps_read, domain_scoped, domain_at, domain_below, function_at, argument_read}
use Rattle.kernel.proofs.Applying.{applied_typed, applied_full, applied_other, applied_limited, agrees_yes, agrees_no}
use Rattle.kernel.proofs.machine.Machine.back_arg.Goals as goal

pub kept_number-place-requires : goal.kept_number-place-requires
kept_number-place-requires c = let b = c.requires.can.behind in omega (arith, frame_seven (applied b.way (top_view b.way b.kept c.requires.tagged) b.kept))

pub kept_number-kept-requires : goal.kept_number-kept-requires
kept_number-kept-requires c = let b = c.requires.can.behind in omega (arith, frame_seven (applied b.way (top_view b.way b.kept c.requires.tagged) b.kept))

pub kept_number-taken-requires : goal.kept_number-taken-requires
kept_number-taken-requires c = let b = c.requires.can.behind in omega (arith, frame_seven (applied b.way (top_view b.way b.kept c.requires.tagged) b.kept))

pub overflow_add-kept : goal.overflow_add-kept
overflow_add-kept c =
    let b = c.requires.can.behind in
    let d = applied b.way (top_view b.way b.kept c.requires.tagged) b.kept in
    omega (arith, kept_read d c.kept_number-kept.result c.kept_number-kept.ensures, pi_within _ _ d.domain d.codomain _ d.type_at)

pub invariant_of-budget : goal.invariant_of-budget
invariant_of-budget c =
    let b = c.requires.can.behind in
    let d = applied b.way (top_view b.way b.kept c.requires.tagged) b.kept in
    omega (arith, steps_read d c.kept_number-taken.result c.kept_number-taken.ensures, d.worked.within, c.requires.can.steps)

pub agree-requires : goal.agree-requires
agree-requires c =
    let b = c.requires.can.behind in
    let n = c.requires.can.given in
    let d = applied b.way (top_view b.way b.kept c.requires.tagged) b.kept in
    let q = kept_read d c.kept_number-kept.result c.kept_number-kept.ensures in
    record {
      pair = record {
        env = c.requires.can.task.env;
        env_at = n.stored;
        closed = closed_env n.sensible;
        left = d.domain;
        right = b.type;
        rest = _;
        left_at = domain_at d c.kept_number-kept.result q;
        left_below = domain_below d c.kept_number-kept.result q;
        right_at = b.stands;
        within = b.within;
        scope = _;
        left_scoped = domain_scoped d n.sensible;
        few = omega (arith, walk_short b.way n.sensible);
      };
      right_scoped = type_scoped b.way n.sensible b.has;
    }

pub instantiate-requires : goal.instantiate-requires
instantiate-requires c =
    let b = c.requires.can.behind in
    let n = c.requires.can.given in
    let d = applied b.way (top_view b.way b.kept c.requires.tagged) b.kept in
    let q = kept_read d c.kept_number-kept.result c.kept_number-kept.ensures in
    let (o, v) = agrees_yes _ c.kept_number-taken.result c.args.self.now.most _ _ (length c.args.self.now.stack.now) _ _ _ _ (grind arith) (c.in_ok-agree.ensures c.requires.can.task.env d.domain b.type _ n.stored (domain_at d _ q) (domain_below d _ q) b.stands) in
    record {
      argument = holds_small _ _ b.term _ _ _ (argument_read d c.kept_number-place.result (place_read d c.kept_number-place.result c.kept_number-place.ensures)) (typed_scoped b.has.of) (omega (arith, walk_short b.way n.sensible));
      function = record { domain = d.domain; codomain = d.codomain; rest = _; at = function_at d c.kept_number-kept.result q c.agree.new.heap v };
    }

pub returns-clause-turned : goal.returns-clause-turned
returns-clause-turned c k n b e =
    let d = applied b.way (top_view b.way b.kept c.requires.tagged) b.kept in
    let q = kept_read d c.kept_number-kept.result c.kept_number-kept.ensures in
    let (o, v) = agrees_yes _ c.kept_number-taken.result c.args.self.now.most _ _ (length c.args.self.now.stack.now) _ _ _ _ (grind arith) (c.in_ok-agree.ensures k.env d.domain b.type _ n.stored (domain_at d _ q) (domain_below d _ q) b.stands) in
    let i = c.instantiate.ensures d.domain d.codomain b.term _ _ (function_at d _ q c.agree.new.heap v) (argument_read d c.kept_number-place.result (place_read d c.kept_number-place.result c.kept_number-place.ensures)) in
    applied_typed d n.sensible b.has b.kept b.at q v (omega arith) (omega (arith, q, d.top_is, top_within b.way b.kept)) o
    (rw c.in_ok-end.ensures.ok_part at i)

pub returns-in_err-end-clause-turned : goal.returns-in_err-end-clause-turned
returns-in_err-end-clause-turned c k n b e =
    let d = applied b.way (top_view b.way b.kept c.requires.tagged) b.kept in
    let q = kept_read d c.kept_number-kept.result c.kept_number-kept.ensures in
    let (o, v) = agrees_yes _ c.kept_number-taken.result c.args.self.now.most _ _ (length c.args.self.now.stack.now) _ _ _ _ (grind arith) (c.in_ok-agree.ensures k.env d.domain b.type _ n.stored (domain_at d _ q) (domain_below d _ q) b.stands) in
    let i = c.instantiate.ensures d.domain d.codomain b.term _ _ (function_at d _ q c.agree.new.heap v) (argument_read d c.kept_number-place.result (place_read d c.kept_number-place.result c.kept_number-place.ensures)) in
    let (y, p, z) = err_from_is_err_and c.from_residual-in_err-end.result c.from_residual-in_err-end.ensures.1 in
    let w : y ≡ NoRoom = grind arith in
    rw (p, w)
    (applied_full d n.sensible b.has (length c.agree.new.heap) (length c.instantiate.new.heap) (length c.agree.new.stack) c.kept_number-kept.result q (omega arith) (omega (arith, n.stack_room)) o
    (rw c.in_err-end.ensures.ok_part at i))

pub returns-then-not-branch-clause-turned : goal.returns-then-not-branch-clause-turned
returns-then-not-branch-clause-turned c k n b e =
    let d = applied b.way (top_view b.way b.kept c.requires.tagged) b.kept in
    let q = kept_read d c.kept_number-kept.result c.kept_number-kept.ensures in
    applied_other d n.sensible b.has
    (agrees_no _ c.kept_number-taken.result c.args.self.now.most c.args.self.now.heap.now c.args.spot.top (length c.args.self.now.stack.now) _ _ c.agree.new.heap _ (grind arith) (c.in_ok-agree.ensures k.env d.domain b.type _ n.stored (domain_at d _ q) (domain_below d _ q) b.stands))

pub returns-in_err-agree-clause-turned : goal.returns-in_err-agree-clause-turned
returns-in_err-agree-clause-turned c k n b e =
    let d = applied b.way (top_view b.way b.kept c.requires.tagged) b.kept in
    let q = kept_read d c.kept_number-kept.result c.kept_number-kept.ensures in
    applied_limited d n.sensible b.has c.kept_number-taken.result c.args.self.now.most c.args.self.now.heap.now c.agree.new.heap c.agree.new.heap _ _ _ (length c.args.self.now.stack.now) (steps_read d c.kept_number-taken.result c.kept_number-taken.ensures) e (omega arith) b.kept.heap_top n.stack_room
    _ c.from_residual.result c.from_residual.ensures.1 (c.in_err-agree.ensures k.env d.domain b.type _ n.stored (domain_at d _ q) (domain_below d _ q) b.stands)
