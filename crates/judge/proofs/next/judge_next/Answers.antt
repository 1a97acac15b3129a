use Rattle.std.proofs.Common.{◌≡◌, length, Some, None, refl, subst as tr, arith}
use Rattle.std.proofs.lemmas.Result.{err_from_is_err_and}
use Rattle.kernel.specs.declared.failure.Failure.TheVariants.{Refused}
use Rattle.judge.specs.Judging.{EntryWritten}
use Rattle.judge.proofs.Entering.{known, setting, ends, entering, ordered, failed, moved, room}
use Rattle.judge.proofs.next.judge_next.Goals as goal

pub resolve_next-requires-clause-ready : goal.resolve_next-requires-clause-ready
resolve_next-requires-clause-ready c =
    let j = c.requires.judging in
    record { globals = _; decl = _; rest = _; setting = setting j c.args.names.now refl }

pub returns-in_err-entry : goal.returns-in_err-entry
returns-in_err-entry c t done d rest gs e j =
    let n : c.resolve_next.result ≡ None = grind arith in
    let q = err_from_is_err_and c.from_residual.result c.from_residual.ensures.1 in
    let x = tr (EntryWritten _ _ _ _ _ _ _) n (c.resolve_next.ensures gs d _ (setting j c.args.names.now refl)) in
    let r : c.in_err-entry.field-0.0 ≡ Refused = grind arith in
    rw (q.1, q.2, r) (λ b a. x b a.0)

pub overflow_sub-entry : goal.overflow_sub-entry
overflow_sub-entry c =
    let j = c.requires.judging in
    let s : c.resolve_next.result ≡ Some c.in_ok-entry.entry = grind arith in
    let (d, x, b) = tr (EntryWritten _ _ _ _ _ _ _) s (c.resolve_next.ensures _ _ _ (setting j c.args.names.now refl)) in
    omega (arith, ends j x b)

pub invariant_of-env : goal.invariant_of-env
invariant_of-env c =
    let j = c.requires.judging in
    let s : c.resolve_next.result ≡ Some c.in_ok-entry.entry = grind arith in
    let (d, x, b) = tr (EntryWritten _ _ _ _ _ _ _) s (c.resolve_next.ensures _ _ _ (setting j c.args.names.now refl)) in
    record { stored = ∣ record { env = c.requires.env; at = (entering j x b).stored.at } ∣₁ }

pub settle-requires : goal.settle-requires
settle-requires c =
    let j = c.requires.judging in
    let s : c.resolve_next.result ≡ Some c.in_ok-entry.entry = grind arith in
    let (d, x, b) = tr (EntryWritten _ _ _ _ _ _ _) s (c.resolve_next.ensures _ _ _ (setting j c.args.names.now refl)) in
    record { env = _; entry = d; entering = entering j x b }

pub returns-in_err-settle : goal.returns-in_err-settle
returns-in_err-settle c t done d rest gs e j =
    let s : c.resolve_next.result ≡ Some c.in_ok-entry.entry = grind arith in
    let (k, x, b) = tr (EntryWritten _ _ _ _ _ _ _) s (c.resolve_next.ensures gs d _ (setting j c.args.names.now refl)) in
    let q = err_from_is_err_and c.from_residual-in_err-settle.result c.from_residual-in_err-settle.ensures.1 in
    rw (q.1, q.2) (failed j x b c.args.most (length c.args.work.now) c.args.index.now c.args.table.now c.resolve_next.new.store c.in_err-settle.field-0.0 (c.in_err-settle.ensures e k (entering j x b)))

pub enter-requires-clause-room : goal.enter-requires-clause-room
enter-requires-clause-room c = omega (arith, room c.requires.judging)

pub enter-requires-clause-order : goal.enter-requires-clause-order
enter-requires-clause-order c =
    let j = c.requires.judging in
    let s : c.resolve_next.result ≡ Some c.in_ok-entry.entry = grind arith in
    let (d, x, b) = tr (EntryWritten _ _ _ _ _ _ _) s (c.resolve_next.ensures _ _ _ (setting j c.args.names.now refl)) in
    ordered b

pub declare-more-requires-clause-stands : goal.declare-more-requires-clause-stands
declare-more-requires-clause-stands c =
    let j = c.requires.judging in
    record { decl = c.requires.next; at = record { rest = _; stands = j.tree_at; bare = (known j).shown } }

pub returns : goal.returns
returns c t done d rest gs e j =
    let s : c.resolve_next.result ≡ Some c.in_ok-entry.entry = grind arith in
    let (k, x, b) = tr (EntryWritten _ _ _ _ _ _ _) s (c.resolve_next.ensures gs d _ (setting j c.args.names.now refl)) in (
      k,
      moved j x b c.enter.new.index c.declare-more.new.table c.enter.new.store (length c.resolve_next.new.names) c.declare-more.result _ (omega arith) (omega arith) (omega arith) (omega arith) c.declare-more.ensures.ends refl
          (c.in_ok-settle.ensures e k (entering j x b)) (c.enter.ensures k b) (c.declare-more.ensures.adds gs d j.globals (record { rest = _; stands = j.tree_at; bare = (known j).shown })),
    )
