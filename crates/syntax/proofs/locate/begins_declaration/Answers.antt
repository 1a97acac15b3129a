use Rattle.std.proofs.Common.{[], ◌∷◌, ◌∙◌}
use Rattle.syntax.specs.Grammar.{k_def, k_theorem, k_axiom, k_data}
use Rattle.syntax.proofs.Same.{any_listed}
use Rattle.syntax.proofs.locate.begins_declaration.Goals as goal

pub returns : goal.returns
returns c = c.is_listed.ensures ∙ any_listed c.args.word.now (k_def ∷ k_theorem ∷ k_axiom ∷ k_data ∷ [])
