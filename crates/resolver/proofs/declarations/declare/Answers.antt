use Rattle.std.proofs.Common.{ℕ, List, ◌++◌, sym, subst as tr, arith}
use Rattle.elaboration.specs.Declarations.{globals_of}
use Rattle.resolver.specs.Names.{GlobalsAt}
use Rattle.resolver.proofs.Entering.{decl_within, declared_more}
use Rattle.resolver.proofs.declarations.declare.Goals as goal

pub add_row-requires-clause-near : goal.add_row-requires-clause-near
add_row-requires-clause-near c = omega (arith, decl_within _ _ _ c.requires.stands.at, c.requires.near)

pub returns-clause-adds : goal.returns-clause-adds
returns-clause-adds c gs d g a = tr (λ (z : List ℕ). GlobalsAt c.args.tree.now z (gs ++ globals_of c.args.number d)) (sym c.add_row.ensures.words) (declared_more g _ _ d a)
