use Rattle.std.proofs.Common.{arith}
use Rattle.terms.proofs.Places.{at_length}
use Rattle.terms.proofs.Moving.{copy_term}
use Rattle.terms.proofs.copy.copy_term.Goals as goal

pub copy_words-requires : goal.copy_words-requires
copy_words-requires c =
    let l = at_length _ _ _ _ c.requires.stands.at in
    let e = c.end_of-end.ensures _ _ c.requires.stands.at in
    record { order = omega arith; within = omega arith; room = omega arith }

pub returns : goal.returns
returns c t rest a = copy_term _ _ _ _ _ _ _ t rest a (c.end_of-end.ensures t rest a) c.copy_words.ensures
