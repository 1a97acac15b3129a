use Rattle.std.proofs.Common.{arith, ◌∙◌, take, length-drop, length-take}
use Rattle.std.proofs.lemmas.Slice.{between_is}
use Rattle.terms.proofs.Moving.{part_written}
use Rattle.terms.proofs.copy.copy_words.Goals as goal

pub returns : goal.returns
returns c =
    let e = c.copy_from_slice.ensures.after ∙ between_is c.args.from.now c.args.at c.args.end in
    rw e (part_written _ _ _ _ _ (omega (arith, c.requires.room)) (omega (arith, c.requires.order, c.requires.within, length-drop c.args.at (take c.args.end c.args.from.now), length-take c.args.end c.args.from.now)))
