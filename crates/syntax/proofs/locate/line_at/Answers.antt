use Rattle.std.proofs.Common.{◌≡◌, ◌+◌, take, ap, ◌∙◌, eqb, rules}
use Rattle.std.specs.List.{count_by}
use Rattle.std.proofs.iter.runs.Made.{chains}
use Rattle.syntax.proofs.Locating.{line_ends_count}
use Rattle.syntax.proofs.locate.line_at.Goals as goal

pub returns : goal.returns
returns c = let e : c.count.result ≡ count_by (λ b. eqb b 10) (take c.args.at c.args.text.now) = search (rules, chains) in ap (λ n. 1 + n) (e ∙ line_ends_count _)
