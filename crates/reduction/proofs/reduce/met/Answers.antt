use Rattle.std.proofs.Common.{length, sym, ap, ◌∙◌, inr}
use Rattle.theory.specs.Typing.{is_pi}
use Rattle.reduction.proofs.Reading.{from_pi}
use Rattle.reduction.proofs.Aiming.{front_at, holds_at, not_pi, sort_root, not_sort}
use Rattle.reduction.proofs.reduce.met.Goals as goal

pub sign_at-requires : goal.sign_at-requires
sign_at-requires c = holds_at c.args.env.index.now c.args.env.store.now c.args.heap.now c.args.at (length c.args.stack.now) c.requires

pub sign_at-requires-in-ToSort : goal.sign_at-requires-in-ToSort
sign_at-requires-in-ToSort c = holds_at c.args.env.index.now c.args.env.store.now c.args.heap.now c.args.at (length c.args.stack.now) c.requires

pub returns-in-Pi : goal.returns-in-Pi
returns-in-Pi c = λ e front rest t v p q.
    let (a, b, is) = from_pi t (sym c.in-Pi.is ∙ c.sign_at.ensures t rest (front_at c.args.heap.now front rest t c.args.at p q)) in
    rw c.in-ToPi.is (ap is_pi is)

pub returns-in_default : goal.returns-in_default
returns-in_default c = λ e front rest t v p q.
    inr (rw c.in-ToPi.is (not_pi t c.sign_at.result (c.sign_at.ensures t rest (front_at c.args.heap.now front rest t c.args.at p q)) c.in_default.not-Pi))

pub returns-in-Sort : goal.returns-in-Sort
returns-in-Sort c = λ e front rest t v p q.
    rw c.in-ToSort.is (sort_root t c.in-Sort.field-0 (sym c.in-Sort.is ∙ c.sign_at-in-ToSort.ensures t rest (front_at c.args.heap.now front rest t c.args.at p q)))

pub returns-in_default-matches : goal.returns-in_default-matches
returns-in_default-matches c = λ e front rest t v p q.
    inr (rw c.in-ToSort.is (not_sort t c.sign_at-in-ToSort.result (c.sign_at-in-ToSort.ensures t rest (front_at c.args.heap.now front rest t c.args.at p q)) c.in_default-matches.not-Sort))
