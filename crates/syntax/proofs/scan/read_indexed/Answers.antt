use Rattle.std.proofs.Common.{sym, subst as tr}
use Rattle.syntax.specs.Tokens.{tokens}
use Rattle.syntax.specs.Grammar.{is_indexed_lem}
use Rattle.syntax.specs.Lexing.{FindsWord}
use Rattle.syntax.proofs.Scanning.{indexed_short, no_indexed, none_found, word_tested}
use Rattle.syntax.proofs.scan.read_indexed.Goals as goal

pub returns-in_err-word : goal.returns-in_err-word
returns-in_err-word c = none_found is_indexed_lem c.args.bytes.now c.from_residual.result c.from_residual.ensures (no_indexed (tokens c.args.bytes.now) c.in_err-word.ensures)

pub returns : goal.returns
returns c = tr (FindsWord is_indexed_lem c.args.bytes.now) (sym c.then_some.ensures) (word_tested is_indexed_lem indexed_short c.args.bytes.now c.in_ok-word.word c.is_indexed.result c.is_indexed.ensures c.in_ok-word.ensures)
