use Rattle.std.proofs.Common.{sym, subst as tr}
use Rattle.syntax.specs.Grammar.{is_name}
use Rattle.syntax.specs.Lexing.{FindsWord}
use Rattle.syntax.proofs.Scanning.{name_short, word_tested}
use Rattle.syntax.proofs.scan.read_name.Goals as goal

pub returns : goal.returns
returns c = tr (FindsWord is_name c.args.bytes.now) (sym c.then_some.ensures) (word_tested is_name name_short c.args.bytes.now c.in_ok-word.word c.is_name.result c.is_name.ensures c.in_ok-word.ensures)
