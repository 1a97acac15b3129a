use Rattle.std.proofs.Common.{◌≡◌, sym, subst as tr, arith}
use Rattle.terms.specs.Words.{At}
use Rattle.reduction.proofs.Making.{delta_is}
use Rattle.reduction.proofs.make.make_delta.Goals as goal

pub copy_term-requires : goal.copy_term-requires
copy_term-requires c =
    let (t, a, q, x, y) = rw c.in-Definition.is at (c.in_ok-body.ensures c.requires.env c.requires.env_at) in
    record { stands = record { term = t; rest = y.rest; at = y.at }; order = omega arith }

pub returns-in-Definition : goal.returns-in-Definition
returns-in-Definition c = λ e u v s.
    let (t, a, q, x, y) = rw c.in-Definition.is at (c.in_ok-body.ensures e v) in
    let r : t ≡ u = sym (delta_is e c.args.number t a q s) in
    c.copy_term.ensures u y.rest (tr (λ z. At c.args.env.store.now c.in-Definition.body z y.rest) r y.at)
