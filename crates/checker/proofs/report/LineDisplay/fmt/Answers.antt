use Rattle.std.proofs.Common.{◌≡◌, ℕ, List, ◌++◌, sym, ap, subst}
use Rattle.std.specs.Fmt.{HasWritten}
use Rattle.checker.specs.Reports.{said_text}
use Rattle.checker.specs.declared.answer.Said.{Said}
use Rattle.checker.specs.declared.answer.Said.TheVariants.{Few}
use Rattle.checker.proofs.report.LineDisplay.fmt.Goals as goal

pub returns-in-Few-clause-writes : goal.returns-in-Few-clause-writes
returns-in-Few-clause-writes g c = λ p ok.
    let e : c.args.self.now.said ≡ Few c.in-Few.words c.in-Few.least = c.in-Few.is in
    let t : List ℕ → Type 0 = λ l. HasWritten g.W.Write.write_str_gives c.args.f.now l c.write-in-Few.new.self in
    subst t (ap (λ (s : Said). c.args.self.now.name.now ++ said_text s) (sym e)) (c.write-in-Few.ensures.writes p ok)
