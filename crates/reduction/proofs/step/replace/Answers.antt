use Rattle.std.proofs.Common.{◌+◌, ◌*◌, inl, inr, arith}
use Rattle.theory.specs.Terms.{size}
use Rattle.reduction.proofs.Replacing.{new_length, behind-length}
use Rattle.reduction.proofs.step.replace.Goals as goal

pub returns-then-scratch-made : goal.returns-then-scratch-made
returns-then-scratch-made c = λ t rest a.
    inr (omega (arith, new_length c.args.heap.now c.args.scratch.now (c.args.at + 3 * size t) c.args.end c.args.made c.requires.within c.requires.room, c.end_of-behind.ensures t rest a, c.if-scratch-made.true, c.requires.room))

pub returns-then-heap-at : goal.returns-then-heap-at
returns-then-heap-at c = λ t rest a.
    inl (omega (arith, new_length c.args.heap.now c.args.scratch.now (c.args.at + 3 * size t) c.args.end c.args.made c.requires.within c.requires.room, c.end_of-behind.ensures t rest a, c.if-heap-at.true, c.copy_words-stop.ensures.ends, behind-length c.args.heap.now c.end_of-behind.result c.args.end c.requires.within, c.requires.before, c.requires.within))

pub copy_words-requires : goal.copy_words-requires
copy_words-requires c =
    record {
      order = omega arith;
      within = omega (arith, c.copy_words-stop.ensures.ends, behind-length c.args.heap.now c.end_of-behind.result c.args.end c.requires.within, c.if-scratch-made.false, c.requires.room, c.copy_words-stop.auto.out);
      room = omega (arith, c.if-heap-at.false, c.requires.before, c.requires.within);
    }
