use Rattle.std.proofs.Common.{ℕ, List, [], ◌∷◌, length, refl, ap, append_assoc, arith}
use Rattle.syntax.specs.Surface.{e_at}
use Rattle.syntax.proofs.Appending.{append_as, append_then}
use Rattle.syntax.proofs.atoms.dots.Goals as goal

pub returns-in_default : goal.returns-in_default
returns-in_default c =
    let f = c.in_ok-first.ensures in
    record {
      value = e_at c.args.name.now (c.in_ok-first.first.value ∷ []);
      reads = λ n h. rw (f.reads, c.in_default.ensures) refl;
      wrote = append_then c.push_named.ensures c.push_two.ensures;
      stage = c.indexed_stage-stage.ensures;
      fewer = omega (arith, f.behind.fewer);
      room = omega (arith, c.push_named.ensures.ends, c.push_two.ensures.ends, f.behind.shorter, c.requires.some);
    }

pub returns : goal.returns
returns c =
    let f = c.in_ok-first.ensures in
    let s = c.in_ok-second.ensures in
    record {
      value = e_at c.args.name.now (c.in_ok-first.first.value ∷ c.in_ok-second.second.value ∷ []);
      reads = λ n h. rw (f.reads, c.in-Some.ensures.0, s.reads) refl;
      wrote = append_as (ap (λ (r : List ℕ). 2 ∷ length c.args.name.now ∷ r) (append_assoc c.args.name.now _ _)) (append_then (append_then c.push_named.ensures c.push_two-2.ensures) c.push.ensures);
      stage = c.indexed_stage-stage.ensures;
      fewer = omega (arith, f.behind.fewer, c.in-Some.ensures.1.fewer, s.behind.fewer);
      room = omega (arith, c.push_named.ensures.ends, c.push_two-2.ensures.ends, c.push.ensures.ends, f.behind.shorter, s.behind.shorter, c.in-Some.ensures.1.shorter, c.requires.some);
    }
