use Rattle.std.proofs.Common.{◌∙◌}
use Rattle.syntax.specs.Grammar.{reserved}
use Rattle.syntax.proofs.Same.{any_listed}
use Rattle.syntax.proofs.scan.is_reserved.Goals as goal

pub returns : goal.returns
returns c = c.is_listed.ensures ∙ any_listed c.args.word.now reserved
