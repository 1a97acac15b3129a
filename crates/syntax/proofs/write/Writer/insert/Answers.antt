use Rattle.std.proofs.Common.{replicate, sym, refl, arith, rules}
use lib.ListN.{length-replicate}
use Rattle.syntax.proofs.Appending.{append_front}
use Rattle.syntax.proofs.write.Writer.insert.Goals as goal

pub returns : goal.returns
returns c =
    let p = c.push_times.ensures in
    let n = length-replicate c.args.count c.args.word in
    append_front c.args.self.now c.push_times.new.self _ c.rotate_right.new.self c.args.start (replicate c.args.count c.args.word) c.args.count
    c.requires.order (omega arith) (omega (arith, p.ends, p.room, n, c.requires.room)) (sym n) p c.rotate_right.ensures.after
    refl refl (search rules) refl
