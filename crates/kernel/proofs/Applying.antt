-- What follows from comparing the argument's type with the domain.
use Rattle.std.proofs.Common.{◌≡◌, ℕ, suc, ◌+◌, ◌*◌, ◌<◌, ◌≤◌, ◌⊎◌, Bool, true, false, List, [], length, take, sym, ap, ◌∙◌, subst as tr, inl, inr, arith}
use mathlib.Core.Option.{some}
use Rattle.std.proofs.lemmas.List.{take-take}
use Rattle.theory.specs.Terms.{Term, pi, app, subst, size}
use Rattle.theory.specs.Reduction.{normal_steps}
use Rattle.theory.proofs.NormalSteps.{domain_reaches}
use Rattle.terms.specs.Words.{put}
use Rattle.terms.specs.Writing.{Appends}
use Rattle.terms.proofs.Appending.{append_keeps}
use Rattle.theory.specs.Question.{TakesLonger, entry_size}
use Rattle.kernel.specs.Inference.{Has, Untyped, NeedsMore, held}
use Rattle.kernel.specs.Machine.{place, Task, Way, Sensible, Kept}
use Rattle.std.specs.Prelude.{Ok, Err, Result, IsErrAnd}
use Rattle.std.proofs.lemmas.Result.{err_from_is_err_and}
use Rattle.theory.specs.Environment.{Env}
use Rattle.kernel.specs.Failures.{failure_of}
use Rattle.kernel.specs.declared.failure.Failure.{Failure}
use Rattle.kernel.specs.declared.failure.Limit.{Limit}
use Rattle.kernel.specs.declared.failure.Limit.TheVariants as limit
use Rattle.kernel.specs.declared.turn.Turn.{Turn}
use Rattle.kernel.specs.Resting.{Agrees, OneForm, TwoForms, FullPair}
use Rattle.kernel.specs.Turns.{Behind, Turned}
use Rattle.kernel.proofs.Walk.{walk_context, app_up, app_up_same, none_arg}
use Rattle.kernel.proofs.Room.{questioned, function_questioned, reached_start, reached_by}
use Rattle.kernel.proofs.Tops.{appended_stands, appended_within, no_room}
use Rattle.kernel.proofs.Reduced.{used_up}
use Rattle.kernel.proofs.Backs.{type_spent}
use Rattle.kernel.proofs.Arguments.{Applied, behind_words, frame_seven}

module _ {k : Task} {g : List Term} {t c : Term} {y : Way k g t} {terms frames₁ heap : List ℕ} {free top : ℕ} (d : Applied k y terms frames₁ heap free top) (s : Sensible k) (h : Has k.env g t c) where
  -- The type of the application.
  pub applied_has : (d.domain ≡ c) ⊎ OneForm k.env d.domain c → Has k.env g (app d.function t) (subst 0 t d.codomain)
  applied_has (inl p) = app_up_same s.wf (walk_context s.wf s.ctx y) d.has d.worked (tr (Has k.env g t) (sym p) h)
  applied_has (inr o) = app_up s.wf (walk_context s.wf s.ctx y) d.has d.worked h o.left o.right

  pub applied_typed : {context heap₁ heap₂ : List ℕ} {names at kept end : ℕ} → Kept k y terms context frames₁ heap names free top → at ≡ place k.start y + 3 * size t → kept ≡ 3 * held d.way
      → take top heap₁ ≡ take top heap → length heap ≡ length heap₁ → kept ≤ length heap → (d.domain ≡ c) ⊎ OneForm k.env d.domain c → Appends heap₁ kept (put (subst 0 t d.codomain) []) heap₂ end
      → Behind k terms context frames₁ heap₂ (record { at = at; names = names; free = free + 7; top = kept }) end
  applied_typed {heap₁} {heap₂} {kept = kept} {end} l e q v m n o w = record {
    types = g;
    term = app d.function t;
    way = d.way;
    at = omega (arith, e, d.place_is);
    kept = record {
      stands = l.stands;
      context_at = l.context_at;
      names_end = l.names_end;
      names_room = l.names_room;
      names_fit = l.names_fit;
      frames_at = behind_words d;
      frames_end = frame_seven d;
      frames_room = l.frames_room;
      heap_at = append_keeps heap₁ heap₂ kept end kept _ (omega arith) (omega (arith, m, n)) w ∙ below ∙ ap (λ (x : ℕ). take x heap) q ∙ d.kept_at;
      heap_top = q;
    };
    type = subst 0 t d.codomain;
    has = applied_has o;
    stands = appended_stands heap₁ heap₂ kept end (subst 0 t d.codomain) (omega (arith, m, n)) w;
    within = appended_within heap₁ heap₂ kept end (subst 0 t d.codomain) (omega (arith, m, n)) w;
  }
    where
      below : take kept heap₁ ≡ take kept heap
      below = sym (take-take kept top heap₁ (omega (arith, d.top_is, q))) ∙ ap (take kept) v ∙ take-take kept top heap (omega (arith, d.top_is, q))

  -- It does not fit.
  pub applied_full : (heap₁ heap₂ stack kept : ℕ) → kept ≡ 3 * held d.way → heap₁ ≡ heap₂ → heap₁ ≤ stack → (d.domain ≡ c) ⊎ OneForm k.env d.domain c
      → (heap₁ < kept + 3 * size (subst 0 t d.codomain)) ⊎ (stack < 6 * size (subst 0 t d.codomain)) → NeedsMore k.env k.entry k.most (16 * entry_size k.entry + 2 * heap₂)
  applied_full heap₁ heap₂ stack kept q m l o large =
      let r = reached_start {most = k.most} (questioned s.covers d.way (applied_has o)) in
      no_room d.way heap₂ s r r r (elim large [ inl a ↦ omega (arith, a, q) | inr b ↦ omega (arith, b, l) ])

  -- It is of another type.
  pub applied_other : TwoForms k.env d.domain c → Untyped k.env k.context k.term
  applied_other o = none_arg s.wf s.ctx d.way d.has d.worked h o.left o.right o.apart

  -- Finding out takes too many steps.
  pub applied_spent : (steps most : ℕ) → steps ≡ d.worked.first.n → k.most ≡ most
      → ((u : Term) × (m : ℕ) × (0 + m ≡ suc most) × (normal_steps k.env m c ≡ some u)) ⊎ ((u : Term) × (m : ℕ) × (steps + m ≡ suc most) × (normal_steps k.env m d.domain ≡ some u))
      → TakesLonger k.env k.entry k.most
  applied_spent steps most q e (inl (u, m, p, r)) = type_spent y s h (used_up k.env k.most c u m (omega (arith, p, e)) r)
  applied_spent steps most q e (inr (u, m, p, r)) = (
    d.function_type,
    pi u d.codomain,
    function_questioned s.covers d.way d.has,
    ap (λ (n : ℕ). normal_steps k.env n d.function_type) (let x : suc k.most ≡ d.worked.first.n + m = omega (arith, p, q, e) in x) ∙ domain_reaches k.env d.worked.first.n m d.function_type d.worked.first.reaches r,
  )

  -- Or too much room.
  pub applied_crowded : (steps most heap₁ heap₂ stack : ℕ) → steps ≡ d.worked.first.n → k.most ≡ most → heap₁ ≡ heap₂ → top ≡ 3 * held y → heap₁ ≤ stack → FullPair k.env steps most heap₁ top stack d.domain c
      → NeedsMore k.env k.entry k.most (16 * entry_size k.entry + 2 * heap₂)
  applied_crowded steps most heap₁ heap₂ stack q e i l m f =
      let left = reached_by {n = d.worked.first.n + f.left_steps} (function_questioned s.covers d.way d.has) (domain_reaches k.env d.worked.first.n f.left_steps d.function_type d.worked.first.reaches f.left_reaches) (omega (arith, f.left_within, q, e)) in
      let right = reached_by {n = f.right_steps} (questioned s.covers y h) f.right_reaches (omega (arith, f.right_within, e)) in
      no_room y heap₂ s left right right (elim f.large [ inl a ↦ omega (arith, a, l) | inr b ↦ omega (arith, b, m) ])

  -- Finding out meets a limit.
  pub applied_limited : (steps most : ℕ) (heap₁ heap₂ after context terms₂ frames₂ : List ℕ) (stack : ℕ) → steps ≡ d.worked.first.n → k.most ≡ most → length heap₁ ≡ length heap₂ → top ≡ 3 * held y → length heap₁ ≤ stack
      → (l : Limit) (r : Result Turn Failure) → IsErrAnd r (λ f. f ≡ failure_of l) → Agrees k.env steps most heap₁ top stack d.domain c after (Err l) → Turned k terms₂ context frames₂ heap₂ r
  applied_limited steps most heap₁ heap₂ after context terms₂ frames₂ stack q e i l m limit.Spent r w a =
      let (f, x, z) = err_from_is_err_and r w in rw (x, z) (applied_spent steps most q e a)
  applied_limited steps most heap₁ heap₂ after context terms₂ frames₂ stack q e i l m limit.NoRoom r w a =
      let (f, x, z) = err_from_is_err_and r w in rw (x, z) (applied_crowded steps most (length heap₁) (length heap₂) stack q e i l m a)

-- The answer to the comparison.
pub agrees_yes : (e : Env) (steps most : ℕ) (heap : List ℕ) (top stack : ℕ) (a c : Term) (after : List ℕ) (b : Bool) → b ≡ true → Agrees e steps most heap top stack a c after (Ok b)
    → ((a ≡ c) ⊎ OneForm e a c) × (take top after ≡ take top heap)
agrees_yes e steps most heap top stack a c after b p h = tr (λ (x : Bool). Agrees e steps most heap top stack a c after (Ok x)) p h

pub agrees_no : (e : Env) (steps most : ℕ) (heap : List ℕ) (top stack : ℕ) (a c : Term) (after : List ℕ) (b : Bool) → b ≡ false → Agrees e steps most heap top stack a c after (Ok b) → TwoForms e a c
agrees_no e steps most heap top stack a c after b p h = tr (λ (x : Bool). Agrees e steps most heap top stack a c after (Ok x)) p h
