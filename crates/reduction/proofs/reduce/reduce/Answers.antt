use Rattle.std.proofs.Common.{true, false, ◌≡◌, ◌<◌, length, refl, ◌∙◌, arith}
use Rattle.std.proofs.lemmas.Result.{err_from_is_err_and}
use Rattle.theory.specs.Terms.{Term}
use Rattle.theory.specs.Environment.{Env}
use Rattle.reduction.specs.declared.reduce.ReduceError.TheVariants.{NoRoom}
use Rattle.reduction.specs.Store.{EnvAt}
use Rattle.reduction.specs.Stepping.{Stands}
use Rattle.reduction.proofs.Standing.{findable}
use Rattle.reduction.proofs.Running.{run_on, met_stands, normal_kept, run_reached, run_short, run_rests, run_err, run_blind, run_used, more_steps, no_steps}
use Rattle.reduction.proofs.reduce.reduce.Goals as goal

pub returns-then-stack-stop : goal.returns-then-stack-stop
returns-then-stack-stop c = run_short c.steps.invariant c.if-stack-stop.true

pub met-requires : goal.met-requires
met-requires c = findable c.args.env.index.now c.args.env.store.now c.steps.heap c.args.at c.steps.stop (length c.steps.stack) c.steps.invariant.ready c.if-stack-stop.false

pub returns-then-met : goal.returns-then-met
returns-then-met c = run_reached c.steps.invariant (met_stands c.steps.heap c.args.at c.steps.stop c.args.aim true c.if-met.ensures)

pub steps-preserved : goal.steps-preserved
steps-preserved c = run_on c.steps.invariant (let z : c.steps.steps < c.args.budget.most = omega (arith, c.if-steps-budget.false, c.steps.invariant.within) in z)
    (met_stands c.steps.heap c.args.at c.steps.stop c.args.aim false c.if-met.ensures) (λ e t v s. rw c.in-Some.is at (c.in_ok-next.ensures e t v s)) c.step.auto.heap c.step.auto.scratch (c.step.auto.stack ∙ c.met.auto.stack)

pub returns-in_err-next : goal.returns-in_err-next
returns-in_err-next c = λ e t v s.
    let q = err_from_is_err_and c.from_residual.result c.from_residual.ensures.1 in
    rw (q.1, q.2) (run_err c.steps.invariant (let z : c.steps.steps < c.args.budget.most = omega (arith, c.if-steps-budget.false, c.steps.invariant.within) in z) c.step.new.heap (length c.met.new.stack) c.in_err-next.field-0.0 c.met.auto.stack c.in_err-next.ensures e t v s)

pub returns-in_default : goal.returns-in_default
returns-in_default c = λ e t v s.
    let n = λ (e : Env) (t : Term) (v : EnvAt c.args.env.index.now c.args.env.store.now e) (s : Stands c.steps.heap c.args.at t c.steps.stop). rw c.in_default.is at (c.in_ok-next.ensures e t v s) in
    rw c.at_rest.ensures (run_rests c.steps.invariant c.step.new.heap (met_stands c.steps.heap c.args.at c.steps.stop c.args.aim false c.if-met.ensures) (λ e t v s. (n e t v s).0)
    (normal_kept c.args.env.index.now c.args.env.store.now c.steps.heap c.step.new.heap c.args.at c.steps.stop c.steps.invariant.ready n) e t v s)

pub returns-then-more : goal.returns-then-more
returns-then-more c = λ e t v s. run_used c.steps.invariant c.if-steps-budget.true (λ e t v s. more_steps e (length c.met.new.stack) t _ c.if-more.true (rw c.in_ok-more.ensures.ok_part at (c.has_step.ensures e t v s))) e t v s c.steps.heap

pub returns : goal.returns
returns c = λ e t v s.
    rw c.at_rest-2.ensures (run_rests c.steps.invariant c.steps.heap (met_stands c.steps.heap c.args.at c.steps.stop c.args.aim false c.if-met.ensures) (λ e t v s. no_steps e (length c.met.new.stack) t _ c.if-more.false (rw c.in_ok-more.ensures.ok_part at (c.has_step.ensures e t v s))) refl e t v s)

pub returns-in_err-more : goal.returns-in_err-more
returns-in_err-more c = λ e t v s.
    let q = err_from_is_err_and c.from_residual-in_err-more.result c.from_residual-in_err-more.ensures.1 in
    let k = rw c.in_err-more.ensures.ok_part at c.in_err-more.ensures.value in
    let y : c.in_err-more.field-0.0 ≡ NoRoom = cc in
    rw (q.1, q.2, y) (run_blind c.steps.invariant (length c.met.new.stack) c.met.auto.stack (λ e t v s. rw c.in_err-more.ensures.ok_part at (c.has_step.ensures e t v s)) e t v s c.steps.heap)
