use Rattle.std.proofs.Common.{[], arith}
use Rattle.theory.specs.Environment.{defined}
use Rattle.terms.specs.Words.{put}
use Rattle.terms.proofs.Nodes.{put-length}
use Rattle.reduction.proofs.Declaring.{end_within, copied_one, copied_two, entered_copy}
use Rattle.reduction.proofs.declare.declare_definition.Goals as goal

pub returns : goal.returns
returns c = λ t a x y u v e w.
    let k = c.end_of-type_end.ensures a x u in
    let l = c.end_of-body_end.ensures t y v in
    let z = copied_two _ _ _ _ _ _ _ a t x y _ _ _ _ c.copy_words-body.ensures c.copy_words-end.ensures u v k l in
    let b = copied_one _ _ _ _ _ a x _ _ c.copy_words-body.ensures u k in
    (entered_copy _ _ _ _ _ _ _ _ (defined t a) _ (omega arith) z (c.enter_definition.ensures t a (omega (arith, b.ends, put-length a []))) e w, omega (arith, z.ends, put-length a (put t []), put-length t []))

pub overflow_add-type_end : goal.overflow_add-type_end
overflow_add-type_end c = omega (arith, end_within c.args.terms.now c.args.type_at c.end_of-type_end.result c.requires.typed c.end_of-type_end.ensures, end_within c.args.terms.now c.args.body_at c.end_of-body_end.result c.requires.body c.end_of-body_end.ensures)

pub overflow_add-type_end-2 : goal.overflow_add-type_end-2
overflow_add-type_end-2 c = omega (arith, end_within c.args.terms.now c.args.type_at c.end_of-type_end.result c.requires.typed c.end_of-type_end.ensures, end_within c.args.terms.now c.args.body_at c.end_of-body_end.result c.requires.body c.end_of-body_end.ensures)

pub copy_words-body-requires-clause-within : goal.copy_words-body-requires-clause-within
copy_words-body-requires-clause-within c = end_within c.args.terms.now c.args.type_at c.end_of-type_end.result c.requires.typed c.end_of-type_end.ensures

pub copy_words-end-requires-clause-within : goal.copy_words-end-requires-clause-within
copy_words-end-requires-clause-within c = end_within c.args.terms.now c.args.body_at c.end_of-body_end.result c.requires.body c.end_of-body_end.ensures
