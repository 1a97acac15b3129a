use Rattle.std.proofs.Common.{◌++◌, length, sym, ◌∙◌, arith}
use Rattle.terms.specs.Words.{put}
use Rattle.terms.proofs.Places.{holds_within}
use Rattle.reduction.proofs.Reading.{from_pi}
use Rattle.reduction.proofs.Finding.{node}
use Rattle.reduction.proofs.Aiming.{front_at, holds_at, not_pi, no_domain, domain_here, domain_place, domain_is, domain_findable, rests_found}
use Rattle.reduction.proofs.reduce.domain_rests.Goals as goal

pub sign_at-requires : goal.sign_at-requires
sign_at-requires c = holds_at c.args.env.index.now c.args.env.store.now c.args.heap.now c.args.at (length c.args.stack.now) c.requires

pub overflow_add-at : goal.overflow_add-at
overflow_add-at c = omega (arith, holds_within c.args.heap.now c.args.at (holds_at c.args.env.index.now c.args.env.store.now c.args.heap.now c.args.at (length c.args.stack.now) c.requires))

pub find-requires : goal.find-requires
find-requires c =
    let f = c.requires in
    let (a, b, is) = from_pi f.term (sym c.in-Pi.is ∙ c.sign_at.ensures f.term f.rest (front_at c.args.heap.now f.front f.rest f.term c.args.at f.here f.placed)) in
    domain_findable c.args.env.index.now c.args.env.store.now c.args.heap.now c.args.at (length c.args.stack.now) f a b is

pub returns-in-Pi : goal.returns-in-Pi
returns-in-Pi c = λ e front rest t v p q.
    let (a, b, is) = from_pi t (sym c.in-Pi.is ∙ c.sign_at.ensures t rest (front_at c.args.heap.now front rest t c.args.at p q)) in
    let s = c.find.ensures e (front ++ node 0) (put b rest) a v (domain_here c.args.heap.now front rest t a b p is) (domain_place front c.args.at q) in
    rests_found e c.args.heap.now (front ++ node 0) a (put b rest) c.find.result c.is_none.result s c.is_none.ensures ∙ sym (domain_is e t a b is)

pub returns-in_default : goal.returns-in_default
returns-in_default c = λ e front rest t v p q. no_domain e t (not_pi t c.sign_at.result (c.sign_at.ensures t rest (front_at c.args.heap.now front rest t c.args.at p q)) c.in_default.not-Pi)
