use Rattle.std.proofs.Common.{arith}
use Rattle.terms.proofs.Places.{at_length}
use Rattle.reduction.proofs.Making.{domain_at, body_at, argument_at}
use Rattle.reduction.proofs.make.make_beta.Goals as goal

pub overflow_add-at : goal.overflow_add-at
overflow_add-at c =
    let h = at_length c.args.words.now c.args.at _ c.requires.rest c.requires.here in
    omega arith

pub end_of-body-requires : goal.end_of-body-requires
end_of-body-requires c =
    record { term = c.requires.domain; rest = _; at = domain_at c.args.words.now c.args.at c.requires.domain c.requires.body c.requires.argument c.requires.rest c.requires.here }

pub end_of-argument-requires : goal.end_of-argument-requires
end_of-argument-requires c =
    record { term = c.requires.body; rest = _; at = body_at c.args.words.now c.args.at c.requires.domain c.requires.body c.requires.argument c.requires.rest c.end_of-body.result c.requires.here (c.end_of-body.ensures c.requires.domain _ (domain_at c.args.words.now c.args.at c.requires.domain c.requires.body c.requires.argument c.requires.rest c.requires.here)) }

pub subst-requires : goal.subst-requires
subst-requires c =
    let k = (c.end_of-body.ensures c.requires.domain _ (domain_at c.args.words.now c.args.at c.requires.domain c.requires.body c.requires.argument c.requires.rest c.requires.here)) in
    let b = body_at c.args.words.now c.args.at c.requires.domain c.requires.body c.requires.argument c.requires.rest c.end_of-body.result c.requires.here k in
    record {
      stands = record { term = c.requires.body; rest = _; at = b };
      argument = record { term = c.requires.argument; rest = c.requires.rest; at = argument_at c.args.words.now c.args.at c.requires.domain c.requires.body c.requires.argument c.requires.rest c.end_of-body.result c.end_of-argument.result c.requires.here k (c.end_of-argument.ensures c.requires.body _ b); small = c.requires.small };
      order = omega arith;
      shallow = omega arith;
    }

pub returns : goal.returns
returns c = λ x y a rest p.
    let k = c.end_of-body.ensures x _ (domain_at c.args.words.now c.args.at x y a rest p) in
    let b = body_at c.args.words.now c.args.at x y a rest c.end_of-body.result p k in
    c.subst.ensures y a _ rest b (argument_at c.args.words.now c.args.at x y a rest c.end_of-body.result c.end_of-argument.result p k (c.end_of-argument.ensures y _ b))
