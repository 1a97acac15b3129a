use Rattle.std.proofs.Common.{sym, refl, subst as tr, arith}
use Rattle.syntax.specs.Surface.{e_name}
use Rattle.syntax.specs.Grammar.{is_indexed_lem}
use Rattle.syntax.specs.Lexing.{FindsWord}
use Rattle.syntax.proofs.Appending.{append_as}
use Rattle.syntax.proofs.TreeWords.{named}
use Rattle.syntax.proofs.Following.{follows_by, word_dots, word_name}
use Rattle.syntax.proofs.atoms.word.Goals as goal

pub returns-in-Some : goal.returns-in-Some
returns-in-Some c =
    let w = tr (FindsWord is_indexed_lem c.args.bytes.now) c.in_ok-word.ensures.ok_part c.read_indexed.ensures in
    let e = c.in-Some.ensures in
    follows_by _ _ _ _ _ _ _ _ _ _ _ c.dots.result (λ n h. word_dots _ _ _ _ w.passes w.first e.0) (omega (arith, e.1.fewer, w.fewer)) (omega (arith, e.1.shorter, w.shorter)) c.dots.ensures

pub returns : goal.returns
returns c =
    let w = tr (FindsWord is_indexed_lem c.args.bytes.now) c.in_ok-word.ensures.ok_part c.read_indexed.ensures in
    record {
      value = e_name c.in_ok-word.word.name.now;
      reads = λ n h. word_name _ _ _ w.passes (sym c.if-not-is_name.ensures) w.first c.in_default.ensures;
      wrote = append_as (named 1 _) c.push_named.ensures;
      stage = refl;
      fewer = omega (arith, w.fewer);
      room = omega (arith, c.push_named.ensures.ends, w.shorter, w.some_bytes);
    }
