use Rattle.std.proofs.Common.{sym, ◌∙◌}
use Rattle.theory.specs.Terms.{app}
use Rattle.reduction.proofs.Reading.{rec_head, along_head}
use Rattle.reduction.proofs.Firing.{rec_fires, along_fires, other_fires}
use Rattle.reduction.proofs.spine.fires.Goals as goal

pub returns-in-Rec : goal.returns-in-Rec
returns-in-Rec c = λ e f a x y v s t n.
    let h = c.count_uses-count.ensures.head (app f a) x s in
    rec_fires e f a c.in-Rec.i c.in-Rec.field-1 (rec_head _ _ _ (sym c.in-Rec.is ∙ c.sign_at.ensures _ h.rest h.at)) n c.con_fits.result (c.con_fits.ensures e a y v t)

pub returns-in-Along : goal.returns-in-Along
returns-in-Along c = λ e f a x y v s t n.
    let h = c.count_uses-count.ensures.head (app f a) x s in
    along_fires e f a c.in-Along.field-0 c.in-Along.field-1 (along_head _ _ _ (sym c.in-Along.is ∙ c.sign_at.ensures _ h.rest h.at)) n c.refl_fits.result (c.refl_fits.ensures a y t)

pub returns-in_default : goal.returns-in_default
returns-in_default c = λ e f a x y v s t n.
    let h = c.count_uses-count.ensures.head (app f a) x s in
    other_fires e f a c.sign_at.result (c.sign_at.ensures _ h.rest h.at) c.in_default.not-Rec c.in_default.not-Along n
