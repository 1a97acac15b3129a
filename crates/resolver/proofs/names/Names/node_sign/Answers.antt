use Rattle.syntax.specs.declared.tag.Tag.TheVariants.{Name, Indexed, Sort, Pi, Lam}
use Rattle.resolver.proofs.Shapes.{tagged, not_tagged, shape, plain_indexed, node_name, node_indexed, node_sort, node_pi, node_lam, node_app, plain_name}
use Rattle.resolver.proofs.names.Names.node_sign.Goals as goal

pub name_sign-requires-clause-named : goal.name_sign-requires-clause-named
name_sign-requires-clause-named c = plain_name _ _ c.requires.stands (tagged c.tag_at.ensures.tag Name c.in-Name.is)

pub indexed_sign-requires-clause-indexed : goal.indexed_sign-requires-clause-indexed
indexed_sign-requires-clause-indexed c = plain_indexed _ _ c.requires.stands (tagged c.tag_at.ensures.tag Indexed c.in-Indexed.is)

pub returns-in-Name : goal.returns-in-Name
returns-in-Name c gs ys e rest k a = node_name _ _ gs ys (shape _ _ _ _ a) (tagged c.tag_at.ensures.tag Name c.in-Name.is) _ (λ x n. c.name_sign.ensures gs ys x k n)

pub returns-in-Indexed : goal.returns-in-Indexed
returns-in-Indexed c gs ys e rest k a = node_indexed _ _ gs ys (shape _ _ _ _ a) (tagged c.tag_at.ensures.tag Indexed c.in-Indexed.is) _ (λ x ns n. c.indexed_sign.ensures gs ys x ns k n)

pub returns-in-Sort : goal.returns-in-Sort
returns-in-Sort c gs ys e rest k a = node_sort _ _ gs ys (shape _ _ _ _ a) (tagged c.tag_at.ensures.tag Sort c.in-Sort.is)

pub returns-in-Pi : goal.returns-in-Pi
returns-in-Pi c gs ys e rest k a = node_pi _ _ gs ys (shape _ _ _ _ a) (tagged c.tag_at.ensures.tag Pi c.in-Pi.is)

pub returns-in-Lam : goal.returns-in-Lam
returns-in-Lam c gs ys e rest k a = node_lam _ _ gs ys (shape _ _ _ _ a) (tagged c.tag_at.ensures.tag Lam c.in-Lam.is)

pub returns-in_default : goal.returns-in_default
returns-in_default c gs ys e rest k a = node_app _ _ gs ys (shape _ _ _ _ a)
    (not_tagged c.tag_at.ensures.tag Name c.in_default.not-Name) (not_tagged c.tag_at.ensures.tag Indexed c.in_default.not-Indexed) (not_tagged c.tag_at.ensures.tag Sort c.in_default.not-Sort)
    (not_tagged c.tag_at.ensures.tag Pi c.in_default.not-Pi) (not_tagged c.tag_at.ensures.tag Lam c.in_default.not-Lam)
