use Rattle.std.proofs.Common.{ℕ, sym, ap, ◌∙◌, arith}
use Rattle.std.specs.declared.slice.ChunksExact.{ChunksExact}
use Rattle.resolver.proofs.Naming.{row_start, row_named, row_holds, row_hit, row_miss, row_end}
use Rattle.resolver.proofs.names.Names.lookup.Goals as goal

pub loop-row-init : goal.loop-row-init
loop-row-init c =
    let e = c.into_iter-row-iterator.ensures.into_iter_gives in
    record {
      size = ap (λ (i : ChunksExact ℕ). i.size) e ∙ c.chunks_exact-row-items.ensures.size;
      rowing = row_start _ _ _ _ (ap (λ (i : ChunksExact ℕ). i.rest.now) e ∙ c.chunks_exact-row-items.ensures.rest);
    }

pub is_name-requires : goal.is_name-requires
is_name-requires c =
    let s = c.in-Some.ensures.steps in let i = c.loop-row.invariant in
    row_named _ _ _ _ (s.1.1 ∙ i.size) s.1.0 _ (i.rowing _ c.requires.at).at

pub sign_at-requires : goal.sign_at-requires
sign_at-requires c =
    let s = c.in-Some.ensures.steps in let i = c.loop-row.invariant in
    row_holds _ _ _ _ (s.1.1 ∙ i.size) s.1.0 _ (i.rowing _ c.requires.at).at

pub returns-then-is_name : goal.returns-then-is_name
returns-then-is_name c gs a =
    let s = c.in-Some.ensures.steps in let i = c.loop-row.invariant in
    row_hit _ _ _ _ (s.1.1 ∙ i.size) s.1.0 (i.rowing gs a) (λ y n. sym (c.is_name.ensures y n) ∙ c.if-is_name.true) _ c.sign_at.ensures

pub loop-row-preserved : goal.loop-row-preserved
loop-row-preserved c =
    let s = c.in-Some.ensures.steps in let i = c.loop-row.invariant in
    record {
      size = s.0 ∙ i.size;
      rowing = λ gs a. row_miss _ _ _ _ (s.1.1 ∙ i.size) s.1.0 (i.rowing gs a) (λ y n. sym (c.is_name.ensures y n) ∙ c.if-is_name.false);
    }

pub returns : goal.returns
returns c gs a = let i = c.loop-row.invariant in row_end _ _ (i.rowing gs a) (omega (arith, c.in-None.ensures.steps.1.0, i.size))
