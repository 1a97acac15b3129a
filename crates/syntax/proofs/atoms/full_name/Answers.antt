use Rattle.std.proofs.Common.{refl, arith}
use Rattle.syntax.specs.Surface.{e_full}
use Rattle.syntax.proofs.Appending.{append_as}
use Rattle.syntax.proofs.TreeWords.{named}
use Rattle.syntax.proofs.atoms.full_name.Goals as goal

pub returns : goal.returns
returns c =
    let w = c.in_ok-word.ensures in
    record {
      value = e_full c.in_ok-word.word.name.now;
      reads = λ n h. rw w.reads refl;
      wrote = append_as (named 3 _) c.push_named.ensures;
      stage = refl;
      fewer = omega (arith, w.fewer);
      room = omega (arith, c.push_named.ensures.ends, w.shorter, w.some_bytes);
    }
