use Rattle.std.proofs.Common.{sym, ap, ◌∙◌, ap₂}
use Rattle.elaboration.specs.Elaboration.{indexed_head}
use Rattle.resolver.specs.Names.{index_found}
use Rattle.resolver.specs.Nodes.{head_sign}
use Rattle.resolver.proofs.Shapes.{indexed_name, indexed_numbers, indexed_bound, indexed_free}
use Rattle.resolver.proofs.names.Names.indexed_sign.Goals as goal

pub name_at-numbers-requires : goal.name_at-numbers-requires
name_at-numbers-requires c = record { name = c.requires.indexed.numbers; at = indexed_numbers _ _ _ _ c.requires.indexed.at }

pub returns-in-Some : goal.returns-in-Some
returns-in-Some c gs ys x ns k n = indexed_bound gs ys x ns _ (sym c.in-Some.is ∙ c.index_of.ensures ys k.scope ∙ ap (index_found ys) (c.name_at-name.ensures x (indexed_name _ _ x ns n)))

pub returns-in-None : goal.returns-in-None
returns-in-None c gs ys x ns k n =
    c.numbered.ensures gs k.globals ∙ ap₂ (λ y ms. head_sign (indexed_head gs y ms)) (c.name_at-name.ensures x (indexed_name _ _ x ns n)) (c.name_at-numbers.ensures ns (indexed_numbers _ _ x ns n))
    ∙ indexed_free gs ys x ns (sym c.in-None.is ∙ c.index_of.ensures ys k.scope ∙ ap (index_found ys) (c.name_at-name.ensures x (indexed_name _ _ x ns n)))
