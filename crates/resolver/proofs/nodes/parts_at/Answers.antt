use Rattle.std.proofs.Common.{rules}
use Rattle.syntax.specs.declared.tag.Tag.TheVariants.{Indexed, Sort, App}
use Rattle.resolver.proofs.Naming.{named_within}
use Rattle.resolver.proofs.Shapes.{tagged, not_tagged, shape, plain_named, numbers_named, parts_app, parts_sort, parts_name, parts_indexed}
use Rattle.resolver.proofs.nodes.parts_at.Goals as goal

pub bounds-tree-behind : goal.bounds-tree-behind
bounds-tree-behind c = let h = named_within _ _ (numbers_named _ _ c.requires (tagged c.tag_at.ensures.tag Indexed c.in-Indexed.is)) in search rules

pub overflow_add-result-in_default-3 : goal.overflow_add-result-in_default-3
overflow_add-result-in_default-3 c = let h = named_within _ _ (plain_named _ _ c.requires (not_tagged c.tag_at.ensures.tag App c.in_default.not-App) (not_tagged c.tag_at.ensures.tag Sort c.in_default.not-Sort)) in search rules

pub returns-in-App : goal.returns-in-App
returns-in-App c e rest a = parts_app _ _ (shape _ _ _ _ a) (tagged c.tag_at.ensures.tag App c.in-App.is)

pub returns-in-Sort : goal.returns-in-Sort
returns-in-Sort c e rest a = parts_sort _ _ (shape _ _ _ _ a) (tagged c.tag_at.ensures.tag Sort c.in-Sort.is)

pub returns-in-Indexed : goal.returns-in-Indexed
returns-in-Indexed c e rest a = parts_indexed _ _ (shape _ _ _ _ a) (tagged c.tag_at.ensures.tag Indexed c.in-Indexed.is)

pub returns-in_default : goal.returns-in_default
returns-in_default c e rest a = parts_name _ _ (shape _ _ _ _ a) (not_tagged c.tag_at.ensures.tag App c.in_default.not-App) (not_tagged c.tag_at.ensures.tag Sort c.in_default.not-Sort) (not_tagged c.tag_at.ensures.tag Indexed c.in_default.not-Indexed)
