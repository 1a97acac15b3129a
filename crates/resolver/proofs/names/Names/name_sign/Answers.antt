use Rattle.std.proofs.Common.{sym, ap, ◌∙◌}
use Rattle.resolver.specs.Names.{index_found, global_sign}
use Rattle.resolver.proofs.Shapes.{name_bound, name_free}
use Rattle.resolver.proofs.names.Names.name_sign.Goals as goal

pub returns-in-Some : goal.returns-in-Some
returns-in-Some c gs ys x k n = name_bound gs ys x _ (sym c.in-Some.is ∙ c.index_of.ensures ys k.scope ∙ ap (index_found ys) (c.name_at-name.ensures x n))

pub returns-in-None : goal.returns-in-None
returns-in-None c gs ys x k n =
    c.lookup.ensures gs k.globals ∙ ap (global_sign gs) (c.name_at-name.ensures x n) ∙ name_free gs ys x (sym c.in-None.is ∙ c.index_of.ensures ys k.scope ∙ ap (index_found ys) (c.name_at-name.ensures x n))
