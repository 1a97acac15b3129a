use Rattle.std.proofs.Common.{[], arith}
use Rattle.theory.specs.Environment.{assumed}
use Rattle.terms.proofs.Nodes.{put-length}
use Rattle.reduction.proofs.Declaring.{end_within, copied_one, entered_copy}
use Rattle.reduction.proofs.declare.declare_axiom.Goals as goal

pub returns : goal.returns
returns c = λ a x u e v.
    let k = c.end_of-type_end.ensures a x u in
    let w = copied_one _ _ _ _ _ a x _ _ c.copy_words-end.ensures u k in
    (entered_copy _ _ _ _ _ _ _ _ (assumed a) _ (omega arith) w (c.enter_axiom.ensures a) e v, omega (arith, w.ends, put-length a []))

pub overflow_add-type_end : goal.overflow_add-type_end
overflow_add-type_end c = omega (arith, end_within c.args.terms.now c.args.type_at c.end_of-type_end.result c.requires.typed c.end_of-type_end.ensures)

pub copy_words-end-requires-clause-within : goal.copy_words-end-requires-clause-within
copy_words-end-requires-clause-within c = end_within c.args.terms.now c.args.type_at c.end_of-type_end.result c.requires.typed c.end_of-type_end.ensures
