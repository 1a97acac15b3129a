use Rattle.std.proofs.Common.{◌*◌, ◌≤◌, [], length, ap, arith, length-drop, rules}
use Rattle.theory.specs.Terms.{size}
use Rattle.terms.proofs.Nodes.{put-length}
use Rattle.terms.proofs.Lifting.{subst_is, subst_long, depths_fit, copies_term}
use Rattle.terms.proofs.subst.subst.Goals as goal

pub rewrite-requires-clause-stands : goal.rewrite-requires-clause-stands
rewrite-requires-clause-stands c =
    let h = c.requires.stands in
    let k : 3 * size h.term ≤ length c.args.body.now =
    omega (arith, ap length h.at.stands, put-length h.term h.rest, length-drop c.args.at c.args.body.now) in
    record { term = h.term; rest = h.rest; at = h.at; each = depths_fit c.args.arg.now c.args.arg_at c.args.index h.term c.requires.argument (search rules) }

pub rewrite-requires-clause-long : goal.rewrite-requires-clause-long
rewrite-requires-clause-long c u d x = subst_long d u x

pub returns : goal.returns
returns c t u x y a b = copies_term _ _ _ _ _ _ (subst_is u c.args.index t []) c.rewrite.result (c.rewrite.ensures u t x (y, b) a)
