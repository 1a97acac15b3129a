use Rattle.std.proofs.Common.{inl, arith}
use Rattle.terms.proofs.Places.{written_end}
use Rattle.kernel.proofs.Tops.{appended_within}
use Rattle.kernel.proofs.agree.copy_above.Goals as goal

pub returns-then-heap-end : goal.returns-then-heap-end
returns-then-heap-end c a rest at = inl (omega (arith, c.if-heap-end.true, written_end _ _ _ _ a (c.in_ok-count.ensures a rest at)))

pub copy_words-requires : goal.copy_words-requires
copy_words-requires c =
    let t = c.requires.stands in
    let w = c.in_ok-count.ensures t.term t.rest t.at in
    record { order = omega arith; within = appended_within _ _ 0 c.in_ok-count.count t.term (omega arith) w; room = omega (arith, c.if-heap-end.false, c.requires.order) }
