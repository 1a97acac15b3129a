use Rattle.std.proofs.Common.{refl, arith}
use Rattle.syntax.specs.Surface.{e_sort}
use Rattle.syntax.proofs.atoms.sort.Goals as goal

pub returns : goal.returns
returns c =
    let l = c.in_ok-level.ensures in
    record {
      value = e_sort c.in_ok-level.level.value;
      reads = λ n h. rw l.reads refl;
      wrote = c.push_two.ensures;
      stage = refl;
      fewer = omega (arith, l.behind.fewer);
      room = omega (arith, c.push_two.ensures.ends, l.behind.shorter);
    }
