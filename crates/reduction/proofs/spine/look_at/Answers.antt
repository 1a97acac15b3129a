use Rattle.std.proofs.Common.{sym, ◌∙◌, arith}
use Rattle.reduction.specs.Spines.{head_term}
use Rattle.reduction.proofs.Reading.{from_lam, no_lam}
use Rattle.reduction.proofs.Looking.{look_lam, look_def, look_spread, look_needs}
use Rattle.reduction.proofs.spine.look_at.Goals as goal

pub returns-in-Lam : goal.returns-in-Lam
returns-in-Lam c = λ e t rest v at.
    let h = c.count_uses-count.ensures.head t rest at in
    let (a, b, is) = from_lam _ (sym c.in-Lam.is ∙ c.sign_at-head.ensures _ h.rest h.at) in
    look_lam e c.args.at t a b c.count_uses-count.result h.count (omega arith) is

pub returns-then-unfolds : goal.returns-then-unfolds
returns-then-unfolds c = λ e t rest v at.
    let h = c.count_uses-count.ensures.head t rest at in
    let (u, is) = c.if-unfolds.ensures e (head_term t) v (c.sign_at-head.ensures _ h.rest h.at) in
    look_def e c.args.at t u c.count_uses-count.result h.count is

pub returns-in-Some : goal.returns-in-Some
returns-in-Some c = λ e t rest v at.
    let h = c.count_uses-count.ensures.head t rest at in
    let s = c.sign_at-head.ensures _ h.rest h.at in
    look_needs e c.args.at t c.count_uses-count.result c.in-Some.argument h.count c.in-Some.ensures.two c.if-argument-count.true (no_lam _ _ s c.in_default.not-Lam) (c.in-Some.ensures.wants e _ v s)

pub returns-in_default-needed : goal.returns-in_default-needed
returns-in_default-needed c = λ e t rest v at.
    let h = c.count_uses-count.ensures.head t rest at in
    let s = c.sign_at-head.ensures _ h.rest h.at in
    look_spread e c.args.at t c.count_uses-count.result _ h.count (omega arith) (no_lam _ _ s c.in_default.not-Lam) (c.needed.ensures.wants e _ v s) (rw c.in-Some.is c.if-argument-count.false)

pub returns-in_default-needed-2 : goal.returns-in_default-needed-2
returns-in_default-needed-2 c = λ e t rest v at.
    let h = c.count_uses-count.ensures.head t rest at in
    let s = c.sign_at-head.ensures _ h.rest h.at in
    look_spread e c.args.at t c.count_uses-count.result _ h.count (omega arith) (no_lam _ _ s c.in_default.not-Lam) (c.needed.ensures.wants e _ v s) (rw c.in_default-needed.is tt)
