use Rattle.std.proofs.Common.{ap, ◌∙◌, List, ℕ}
use Rattle.syntax.specs.Surface.{same}
use Rattle.resolver.proofs.Naming.{words_same}
use Rattle.resolver.proofs.names.is_name.Goals as goal

pub returns : goal.returns
returns c x n = c.same_items.ensures ∙ words_same c.name_at.result.now c.args.name.now ∙ ap (λ (z : List ℕ). same z c.args.name.now) (c.name_at.ensures x n)
