use Rattle.std.proofs.Common.{◌+◌, length, ap, arith}
use Rattle.theory.specs.Reduction.{map_option}
use Rattle.theory.specs.Terms.{lift}
use Rattle.terms.proofs.Nodes.{small_more}
use Rattle.kernel.proofs.Contexts.{get_none, found, lifted}
use Rattle.kernel.proofs.Written.{leaf_unwritten}
use Rattle.kernel.proofs.leaf.variable_type.Goals as goal

pub returns-then-context-names : goal.returns-then-context-names
returns-then-context-names c g at e = ap (map_option (lift 0 _)) (get_none g c.args.index.0 (omega (arith, c.if-context-names.true)))

pub lift-requires : goal.lift-requires
lift-requires c =
    let k = c.requires.context in
    let f = found c.args.terms.now c.args.context.now c.args.names c.args.index.0 c.number_at-place.result k.types k.at (omega (arith, c.if-context-names.false, k.ends)) c.number_at-place.ensures in
    record {
      stands = record { term = f.term; rest = f.rest; at = f.at; small = small_more f.term _ _ (k.small _ _ f.is) (omega (arith, c.if-context-names.false, k.ends, k.short)) };
      order = c.requires.order;
      shallow = omega arith;
    }

pub returns : goal.returns
returns c g at e =
    let f = found c.args.terms.now c.args.context.now c.args.names c.args.index.0 c.number_at-place.result g at (omega (arith, c.if-context-names.false, e)) c.number_at-place.ensures in
    (lift 0 (c.args.index.0 + 1) f.term, lifted g c.args.index.0 f.is, c.in_ok-lift.ensures f.term f.rest f.at)

pub returns-in_err-lift : goal.returns-in_err-lift
returns-in_err-lift c g at e =
    let f = found c.args.terms.now c.args.context.now c.args.names c.args.index.0 c.number_at-place.result g at (omega (arith, c.if-context-names.false, e)) c.number_at-place.ensures in
    leaf_unwritten c.args.heap.now c.lift.new.out c.args.top (length c.args.stack.now) _ (lift 0 (c.args.index.0 + 1) f.term) (lifted g c.args.index.0 f.is) c.in_err-lift.field-0.0 c.from_residual.result c.from_residual.ensures.1 (c.in_err-lift.ensures f.term f.rest f.at)
