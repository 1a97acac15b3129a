use Rattle.std.proofs.Common.{ℕ, is_ok, ap, subst}
use Rattle.std.proofs.Output.{has_written_append}
use Rattle.std.specs.Fmt.{HasWritten}
use Rattle.checker.specs.Tallies.{summary_of}
use Rattle.checker.proofs.tally.TallyDisplay.fmt.Goals as goal

pub returns-clause-writes : goal.returns-clause-writes
returns-clause-writes g c = λ p ok.
    let cs = c.args.self.now.counts in
    let x = c.write.ensures.writes p (ap is_ok c.in_ok-write.was) in
    let t : ℕ → Type 0 = λ n. HasWritten g.W.Write.write_str_gives c.args.f.now (summary_of n cs) c.write-2.new.self in
    subst t c.texts-texts.ensures (has_written_append g.W.Write.write_str_gives c.args.f.now _ c.write.new.self _ c.write-2.new.self x (c.write-2.ensures.writes x.plain ok))
