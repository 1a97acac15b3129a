use Rattle.std.proofs.Common.{rules}
use Rattle.syntax.specs.Tokens.{tokens}
use Rattle.syntax.proofs.Scanning.{none_number}
use Rattle.syntax.proofs.scan.read_number.Goals as goal

pub returns-in_err-word : goal.returns-in_err-word
returns-in_err-word c = let p = none_number (tokens c.args.bytes.now) c.in_err-word.ensures in search rules
