use Rattle.std.proofs.Common.{refl, arith}
use Rattle.syntax.specs.Surface.{e_hole}
use Rattle.syntax.proofs.Following.{follows_by}
use Rattle.syntax.proofs.atoms.leaf.Goals as goal

pub returns-in-Some : goal.returns-in-Some
returns-in-Some c =
    let e = c.in-Some.ensures in
    follows_by _ _ _ _ _ _ _ _ _ _ _ c.full_name.result (λ n h. rw e.0 refl) (omega (arith, e.1.fewer)) (omega (arith, e.1.shorter)) c.full_name.ensures

pub returns-in-Some-eat : goal.returns-in-Some-eat
returns-in-Some-eat c =
    let e = c.in-Some-eat.ensures in
    follows_by _ _ _ _ _ _ _ _ _ _ _ c.sort.result (λ n h. rw (c.in_default.ensures, e.0) refl) (omega (arith, e.1.fewer)) (omega (arith, e.1.shorter)) c.sort.ensures

pub returns-in-Some-eat-2 : goal.returns-in-Some-eat-2
returns-in-Some-eat-2 c =
    let e = c.in-Some-eat-2.ensures in
    record {
      value = e_hole;
      reads = λ n h. rw (c.in_default.ensures, c.in_default-eat.ensures, e.0) refl;
      wrote = c.push.ensures;
      stage = refl;
      fewer = omega (arith, e.1.fewer);
      room = omega (arith, c.push.ensures.ends, e.1.shorter);
    }

pub returns : goal.returns
returns c =
    follows_by _ _ _ _ _ _ _ _ _ _ _ c.word.result (λ n h. rw (c.in_default.ensures, c.in_default-eat.ensures, c.in_default-eat-2.ensures) refl) (omega arith) (omega arith) c.word.ensures
