use Rattle.std.proofs.Common.{ℕ, length, sym, ap, ◌∙◌, arith}
use Rattle.std.specs.declared.slice.ChunksExact.{ChunksExact}
use Rattle.resolver.proofs.Bindings.{few_missed, few_passed, look_start, look_named, look_hit, look_miss, look_pass, look_end}
use Rattle.resolver.proofs.names.Names.index_of.Goals as goal

pub loop-frame-init : goal.loop-frame-init
loop-frame-init c =
    let e = c.into_iter-frame-iterator.ensures.into_iter_gives in
    let rest = ap (λ (i : ChunksExact ℕ). i.rest.now) e ∙ c.chunks_exact-frame-items.ensures.rest in
    record {
      size = ap (λ (i : ChunksExact ℕ). i.size) e ∙ c.chunks_exact-frame-items.ensures.size;
      few = omega (arith, ap length rest);
      looking = look_start _ _ _ _ rest;
    }

pub is_name-requires : goal.is_name-requires
is_name-requires c =
    let s = c.in-Some.ensures.steps in let i = c.loop-frame.invariant in
    look_named _ _ _ _ (s.1.1 ∙ i.size) s.1.0 _ (i.looking _ c.requires.at).at c.if-frame.true

pub returns-then-is_name : goal.returns-then-is_name
returns-then-is_name c ys a =
    let s = c.in-Some.ensures.steps in let i = c.loop-frame.invariant in
    sym (look_hit _ _ _ _ (s.1.1 ∙ i.size) s.1.0 (i.looking ys a) c.if-frame.true (λ y n. sym (c.is_name.ensures y n) ∙ c.if-is_name.true))

pub loop-frame-preserved-then-frame : goal.loop-frame-preserved-then-frame
loop-frame-preserved-then-frame c =
    let s = c.in-Some.ensures.steps in let i = c.loop-frame.invariant in
    let long = s.1.1 ∙ i.size in
    record {
      size = s.0 ∙ i.size;
      few = few_missed _ _ _ _ _ long s.1.0 i.few;
      looking = λ ys a. look_miss _ _ _ _ long s.1.0 (i.looking ys a) c.if-frame.true (λ y n. sym (c.is_name.ensures y n) ∙ c.if-is_name.false);
    }

pub loop-frame-preserved : goal.loop-frame-preserved
loop-frame-preserved c =
    let s = c.in-Some.ensures.steps in let i = c.loop-frame.invariant in
    let long = s.1.1 ∙ i.size in
    record {
      size = s.0 ∙ i.size;
      few = few_passed _ _ _ _ _ long s.1.0 i.few;
      looking = λ ys a. look_pass _ _ _ _ long s.1.0 (i.looking ys a) c.if-frame.false;
    }

pub returns : goal.returns
returns c ys a = let i = c.loop-frame.invariant in sym (look_end _ _ (i.looking ys a) (omega (arith, c.in-None.ensures.steps.1.0, i.size)))
