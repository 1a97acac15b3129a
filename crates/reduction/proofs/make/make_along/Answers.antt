use Rattle.std.proofs.Common.{arith}
use Rattle.reduction.proofs.Spelling.{along_needs, along_place, along_room}
use Rattle.reduction.proofs.make.make_along.Goals as goal

pub overflow_add-at : goal.overflow_add-at
overflow_add-at c = let h = along_room c.args.words.now c.args.at c.requires in omega arith

pub skip_terms-place-requires : goal.skip_terms-place-requires
skip_terms-place-requires c = along_needs c.args.words.now c.args.at c.requires

pub copy_term-requires : goal.copy_term-requires
copy_term-requires c =
    let p = c.requires in
    let (x, at) = along_place c.args.words.now c.args.at c.skip_terms-place.result p.env p.fun p.arg p.result p.first p.second p.rest p.here p.head p.steps c.skip_terms-place.ensures in
    record { stands = record { term = p.result; rest = x; at = at }; order = omega arith }

pub returns : goal.returns
returns c = λ e f a u i j rest p h s.
    let (x, at) = along_place c.args.words.now c.args.at c.skip_terms-place.result e f a u i j rest p h s c.skip_terms-place.ensures in
    c.copy_term.ensures u x at
