use Rattle.std.proofs.Common.{refl, arith}
use Rattle.syntax.specs.Surface.{e_hole}
use Rattle.syntax.specs.Parsing.{f_lam}
use Rattle.syntax.proofs.Appending.{append_then}
use Rattle.syntax.proofs.Gives.{then_is}
use Rattle.syntax.proofs.TermReadings.{bind_is, wrap-then}
use Rattle.syntax.proofs.terms.intro.Goals as goal

pub returns : goal.returns
returns c =
    let w = c.in_ok-word.ensures in
    let e = c.in_ok-rest.ensures in
    record {
      frame = f_lam c.in_ok-word.word.name.now e_hole;
      opens = λ n h. then_is _ _ w.reads (bind_is _ _ e.0 (wrap-then (f_lam c.in_ok-word.word.name.now e_hole) _));
      wrote = append_then c.push_named.ensures c.push.ensures;
      stage = refl;
      fewer = omega (arith, w.fewer, e.1.fewer);
      room = omega (arith, c.push_named.ensures.ends, c.push.ensures.ends, w.shorter, e.1.shorter, w.some_bytes);
    }
