use Rattle.std.proofs.Common.{[]}
use Rattle.theory.specs.Terms.{sort}
use Rattle.terms.proofs.Lifting.{lift_is, lift_fits, copies_term}
use Rattle.terms.proofs.lift.lift.Goals as goal

pub rewrite-requires-clause-stands : goal.rewrite-requires-clause-stands
rewrite-requires-clause-stands c =
    let h = c.requires.stands in
    record { term = h.term; rest = h.rest; at = h.at; each = lift_fits _ c.args.cut h.term h.small }

pub returns : goal.returns
returns c t rest a = copies_term _ _ _ _ _ _ (lift_is c.args.by c.args.cut t []) c.rewrite.result (c.rewrite.ensures (sort 0) t rest tt a)
