use Rattle.std.proofs.Common.{◌≡◌, length, arith}
use Rattle.std.proofs.lemmas.Result.{err_from_is_err_and}
use Rattle.kernel.specs.declared.failure.Failure.TheVariants.{NoRoom}
use Rattle.kernel.proofs.Reduced.{stands_within}
use Rattle.kernel.proofs.Backs.{top_frame, top_view}
use Rattle.kernel.proofs.Codomains.{under_lam_typed, under_lam_full, under_lam_domain}
use Rattle.kernel.proofs.machine.Machine.back_under_lam.Goals as goal

pub kept_number-place-requires : goal.kept_number-place-requires
kept_number-place-requires c = omega (arith, top_frame c.requires.can.behind.way c.requires.can.behind.kept c.requires.tagged.below)

pub insert_pi-requires : goal.insert_pi-requires
insert_pi-requires c =
    let b = c.requires.can.behind in
    record { stands = under_lam_domain b.way (top_view b.way b.kept c.requires.tagged) b.kept c.kept_number-place.ensures; order = omega (arith, b.stands.ends); within = b.within }

pub returns-clause-turned : goal.returns-clause-turned
returns-clause-turned c k n b e =
    rw c.unbound.ensures
    (under_lam_typed n.sensible b.way (top_view b.way b.kept c.requires.tagged) b.kept b.at b.has c.kept_number-place.ensures (omega (arith, (stands_within _ _ _ _ b.stands).0))
    (λ a rest at. rw c.in_ok-end.ensures.ok_part at (c.insert_pi.ensures a b.type rest at b.stands)) (top_frame b.way b.kept c.requires.tagged.below))

pub returns-in_err-end-clause-turned : goal.returns-in_err-end-clause-turned
returns-in_err-end-clause-turned c k n b e =
    let (y, p, z) = err_from_is_err_and c.from_residual.result c.from_residual.ensures.1 in
    let w : y ≡ NoRoom = grind arith in
    rw (p, w)
    (under_lam_full (length c.insert_pi.new.heap) n.sensible b.way (top_view b.way b.kept c.requires.tagged) b.kept b.has c.kept_number-place.ensures (omega arith)
    (λ a rest at. rw c.in_err-end.ensures.ok_part at (c.insert_pi.ensures a b.type rest at b.stands)))
