use Rattle.std.proofs.Common.{length, arith}
use Rattle.theory.specs.Environment.{defined, assumed}
use Rattle.judge.proofs.Settling.{settled, checkable, as_definition, as_axiom, entry_lacks}
use Rattle.judge.proofs.settle.settle.Goals as goal

pub returns-then-work-nodes : goal.returns-then-work-nodes
returns-then-work-nodes c e d n = entry_lacks n.terms_at e _ _ (omega (arith, n.nodes_are, c.if-work-nodes.true))

pub check_definition-requires : goal.check_definition-requires
check_definition-requires c =
    let n = c.requires.entering in
    let v = as_definition n.terms_at _ c.in-Some.is in
    record {
      env = c.requires.env;
      type = v.type;
      body = v.body;
      type_rest = v.type_rest;
      body_rest = v.body_rest;
      type_stands = v.type_at;
      body_stands = v.body_at;
      fits = checkable (defined v.body v.type) c.split_at_mut-context.result.0.now c.split_at_mut-frames.result.0.now c.split_at_mut-heap.result.0.now c.split_at_mut-heap.result.1.now n v.is
          (omega arith) (omega arith) (omega arith);
    }

pub check_axiom-requires : goal.check_axiom-requires
check_axiom-requires c =
    let n = c.requires.entering in
    let v = as_axiom n.terms_at c.in-None.is in
    record {
      env = c.requires.env;
      type = v.type;
      rest = v.rest;
      stands = v.type_at;
      fits = checkable (assumed v.type) c.split_at_mut-context.result.0.now c.split_at_mut-frames.result.0.now c.split_at_mut-heap.result.0.now c.split_at_mut-heap.result.1.now n v.is
          (omega arith) (omega arith) (omega arith);
    }

pub returns-in-Some : goal.returns-in-Some
returns-in-Some c e d n =
    let v = as_definition n.terms_at _ c.in-Some.is in
    let f = checkable (defined v.body v.type) c.split_at_mut-context.result.0.now c.split_at_mut-frames.result.0.now c.split_at_mut-heap.result.0.now c.split_at_mut-heap.result.1.now n v.is
    (omega arith) (omega arith) (omega arith) in
    settled e d c.args.most (length c.args.work.now) (length c.check_definition.new.self.heap.now) c.check_definition.result
    (omega (arith, n.nodes_are)) v.is (c.check_definition.ensures.checks e v.body v.type _ _ v.type_at v.body_at f)

pub returns-in-None : goal.returns-in-None
returns-in-None c e d n =
    let v = as_axiom n.terms_at c.in-None.is in
    let f = checkable (assumed v.type) c.split_at_mut-context.result.0.now c.split_at_mut-frames.result.0.now c.split_at_mut-heap.result.0.now c.split_at_mut-heap.result.1.now n v.is
    (omega arith) (omega arith) (omega arith) in
    settled e d c.args.most (length c.args.work.now) (length c.check_axiom.new.self.heap.now) c.check_axiom.result
    (omega (arith, n.nodes_are)) v.is (c.check_axiom.ensures.checks e v.type _ v.type_at f)
