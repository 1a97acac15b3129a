use Rattle.std.specs.Prelude.{Ok}
use Rattle.std.proofs.Common.{◌≡◌, inl, inr, arith}
use Rattle.terms.proofs.Appending.{append_as}
use Rattle.terms.proofs.Places.{written_end}
use Rattle.terms.proofs.Subterms.{at_pi_domain, holds}
use Rattle.theory.specs.Terms.{subst}
use Rattle.kernel.proofs.Tops.{appended_within, copies_none}
use Rattle.kernel.proofs.Arguments.{codomain_at, pi_within}
use Rattle.kernel.proofs.argument.instantiate.Goals as goal

pub end_of-body-requires : goal.end_of-body-requires
end_of-body-requires c = let f = c.requires.function in holds _ _ f.domain _ (at_pi_domain _ _ f.domain f.codomain _ f.at)

pub subst-requires : goal.subst-requires
subst-requires c =
    let f = c.requires.function in
    record { stands = holds _ _ f.codomain _ (codomain_at _ _ _ f.domain f.codomain _ f.at c.end_of-body.ensures); argument = c.requires.argument; order = omega arith; shallow = omega arith }

pub returns-then-heap-kept : goal.returns-then-heap-kept
returns-then-heap-kept c a b t x y at ta =
    inl (omega (arith, c.if-heap-kept.true, pi_within _ _ a b _ at, written_end _ _ _ _ (subst 0 t b) (rw (let z : c.subst.result ≡ Ok c.in_ok-count.count = grind arith in z) at (c.subst.ensures b t x y (codomain_at _ _ _ a b x at c.end_of-body.ensures) ta))))

pub copy_words-requires : goal.copy_words-requires
copy_words-requires c =
    let f = c.requires.function in
    let g = c.requires.argument in
    let w = rw (let z : c.subst.result ≡ Ok c.in_ok-count.count = grind arith in z) at (c.subst.ensures f.codomain g.term _ _ (codomain_at _ _ _ f.domain f.codomain _ f.at c.end_of-body.ensures) g.at) in
    record { order = omega arith; within = appended_within _ _ 0 c.in_ok-count.count (subst 0 g.term f.codomain) (omega arith) w; room = omega (arith, c.if-heap-kept.false, pi_within _ _ f.domain f.codomain _ f.at) }

pub returns : goal.returns
returns c a b t x y at ta =
    let w = rw (let z : c.subst.result ≡ Ok c.in_ok-count.count = grind arith in z) at (c.subst.ensures b t x y (codomain_at _ _ _ a b x at c.end_of-body.ensures) ta) in
    append_as _ _ _ _ _ _ w.words c.copy_words.ensures

pub returns-in_err-count : goal.returns-in_err-count
returns-in_err-count c a b t x y at ta =
    let w = copies_none c.split_at_mut-out.result.0.now c.subst.new.out 0 c.subst.result (subst 0 t b) c.in_err-count.ensures.variant (c.subst.ensures b t x y (codomain_at _ _ _ a b x at c.end_of-body.ensures) ta) in
    rw c.from_residual.ensures (inr (elim w [ inl p ↦ omega (arith, p, c.split_at_mut-out.ensures.front_len) | inr p ↦ omega (arith, p, c.split_at_mut-out.ensures.back_len) ]))
