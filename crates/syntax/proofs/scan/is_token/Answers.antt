use Rattle.std.proofs.Common.{sym, ap, ◌∙◌}
use Rattle.syntax.specs.Surface.{Name, same}
use Rattle.syntax.specs.Lexing.{lexeme}
use Rattle.syntax.proofs.Same.{pointwise_same}
use Rattle.syntax.proofs.scan.is_token.Goals as goal

pub returns-in-Word : goal.returns-in-Word
returns-in-Word c = c.same_items.ensures ∙ pointwise_same c.in-Word.word.now c.args.wanted.now ∙ ap (λ (w : Name). same w c.args.wanted.now) (ap lexeme (sym c.in-Word.is))
