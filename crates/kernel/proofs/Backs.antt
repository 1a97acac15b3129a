-- The walk behind a term: its type can be reduced, what follows where that fails, and the words of the frame on top.
use Rattle.std.proofs.Common.{◌≡◌, ℕ, ◌+◌, ◌*◌, ◌<◌, ◌≤◌, List, ◌∷◌, length, take, drop, ap, sym, ◌∙◌, subst as tr, inl, inr, arith, length-drop}
use Rattle.theory.specs.Terms.{Term}
use Rattle.theory.specs.Environment.{Env}
use Rattle.theory.proofs.Closed.{wf_closed}
use Rattle.theory.proofs.Validity.{valid}
use Rattle.terms.specs.Words.{At}
use Rattle.terms.specs.Writing.{Pushes}
use Rattle.reduction.specs.Stepping.{ClosedEnv, StaysScoped, Ready}
use Rattle.reduction.proofs.Staying.{typed_stays}
use Rattle.theory.specs.Question.{TakesLonger, entry_size}
use Rattle.kernel.specs.Inference.{Has, Untyped, Zipper, NeedsMore, z_end, z_pi, z_under_pi, z_lam, z_under_lam, z_fun, z_arg, held}
use Rattle.kernel.specs.Machine.{frame_words, kept_words, Task, Way, Sensible, Kept}
use Rattle.kernel.specs.Reducing.{Overspent, Overfull, Halts, NoSort, Sorts}
use Rattle.reduction.specs.declared.reduce.Aim.TheVariants.{ToPi}
use Rattle.kernel.specs.Failures.{failure_of}
use Rattle.kernel.specs.declared.failure.Limit.{Limit}
use Rattle.kernel.specs.declared.failure.Limit.TheVariants as limit
use Rattle.kernel.proofs.Reduced.{used_up}
use Rattle.std.specs.Prelude.{Err, Result, IsErrAnd}
use Rattle.std.proofs.lemmas.Result.{err_from_is_err_and}
use Rattle.kernel.specs.declared.failure.Failure.{Failure}
use Rattle.kernel.specs.declared.failure.Failure.TheVariants.{Refused, Spent, NoRoom}
use Rattle.kernel.specs.declared.turn.Turn.{Turn}
use Rattle.kernel.specs.Turns.{Behind, Given, Tagged, Turned}
use Rattle.kernel.specs.Frames.{kind_word}
use Rattle.kernel.specs.declared.frames.Kind.{Kind}
use Rattle.kernel.specs.declared.turn.Spot.{Spot}
use Rattle.kernel.proofs.Walk.{walk_context}
use Rattle.kernel.proofs.Room.{questioned, reached_by}
use Rattle.kernel.proofs.Moves.{walk_short}
use Rattle.kernel.proofs.Tops.{no_room}
use Rattle.kernel.proofs.FrameViews.{FrameView, frame_view}

-- The type can be reduced.
pub type_scoped : {k : Task} {g : List Term} {t c : Term} (z : Way k g t) → Sensible k → Has k.env g t c → StaysScoped k.env (length g) c
type_scoped z s h = let w = walk_context s.wf s.ctx z in let (i, p) = valid s.wf h.of w in typed_stays _ _ _ _ s.wf w p

pub closed_env : {k : Task} → Sensible k → ClosedEnv k.env
closed_env s = record { closed = λ i d p. wf_closed s.wf i p }

pub behind_ready : {k : Task} {index store terms context frames₁ heap stack : List ℕ} {s : Spot} {end : ℕ} → Given k index store heap stack → Behind k terms context frames₁ heap s end → Ready index store heap s.top end
behind_ready {k} n b = record {
  env = k.env;
  term = b.type;
  scope = length b.types;
  env_at = n.stored.at;
  closed = closed_env n.sensible;
  stands = b.stands;
  scoped = type_scoped b.way n.sensible b.has;
  few = omega (arith, walk_short b.way n.sensible);
}

-- It takes more steps than allowed, or more room than there is.
pub type_spent : {k : Task} {g : List Term} {t c : Term} (z : Way k g t) → Sensible k → Has k.env g t c → Overspent k.env k.most c → TakesLonger k.env k.entry k.most
type_spent {c} z s h o = (c, o.term, questioned s.covers z h, o.reaches)

pub type_full : {k : Task} {g : List Term} {t c : Term} (z : Way k g t) (heap heap₂ top stack : ℕ) → Sensible k → Has k.env g t c → top ≡ 3 * held z → heap ≡ heap₂ → heap ≤ stack
    → Overfull k.env k.most heap top stack c → NeedsMore k.env k.entry k.most (16 * entry_size k.entry + 2 * heap₂)
type_full z heap heap₂ top stack s h p l m o =
    let r = reached_by (questioned s.covers z h) o.reaches o.within in
    no_room z heap₂ s r r r (elim o.large [ inl a ↦ omega (arith, a, p) | inr b ↦ omega (arith, b) ])

-- What follows where it comes to no sort, or to no end.
pub type_limited : {k : Task} {g : List Term} {t c : Term} (z : Way k g t) {top : ℕ} (most : ℕ) (heap after heap₂ terms context frames₁ : List ℕ) (stack : ℕ) → Sensible k → Has k.env g t c → top ≡ 3 * held z → k.most ≡ most
    → length heap ≡ length heap₂ → length heap ≤ stack → (f : Failure) (r : Result Turn Failure) → IsErrAnd r (λ d. d ≡ f) → (NoSort k.env c → Untyped k.env k.context k.term)
    → Sorts k.env most heap top stack c after (Err f) → Turned k terms context frames₁ heap₂ r
type_limited z most heap after heap₂ terms context frames₁ stack s h p e l m Refused r w other o =
    let (d, q, i) = err_from_is_err_and r w in rw (q, i) (other o)
type_limited {k} {c} z most heap after heap₂ terms context frames₁ stack s h p e l m Spent r w other o =
    let (d, q, i) = err_from_is_err_and r w in rw (q, i) (type_spent z s h (tr (λ (n : ℕ). Overspent k.env n c) (sym e) o))
type_limited {k} {c} z {top} most heap after heap₂ terms context frames₁ stack s h p e l m NoRoom r w other o =
    let (d, q, i) = err_from_is_err_and r w in rw (q, i) (type_full z (length heap) (length heap₂) top stack s h p l m (tr (λ (n : ℕ). Overfull k.env n (length heap) top stack c) (sym e) o))

-- The same for a function type.
pub halts_limited : {k : Task} {g : List Term} {t c : Term} (z : Way k g t) {top : ℕ} (most : ℕ) (heap after heap₂ terms context frames₁ : List ℕ) (stack : ℕ) → Sensible k → Has k.env g t c → top ≡ 3 * held z → k.most ≡ most
    → length heap ≡ length heap₂ → length heap ≤ stack → (l : Limit) (r : Result Turn Failure) → IsErrAnd r (λ d. d ≡ failure_of l)
    → Halts k.env ToPi 0 most heap top stack c after (Err l) → Turned k terms context frames₁ heap₂ r
halts_limited {k} {c} z most heap after heap₂ terms context frames₁ stack s h p e l m limit.Spent r w (u, n, x, y) =
    let (d, q, i) = err_from_is_err_and r w in rw (q, i) (type_spent z s h (used_up k.env k.most c u n (omega (arith, x, e)) y))
halts_limited z {top} most heap after heap₂ terms context frames₁ stack s h p e l m limit.NoRoom r w (u, n, x, y, v) =
    let (d, q, i) = err_from_is_err_and r w in rw (q, i) (type_full z (length heap) (length heap₂) top stack s h p l m (record { term = u; steps = n; within = omega (arith, x, e); reaches = y; large = v }))

-- The frame on top has at least three words.
frame_three : {e : Env} {most : ℕ} {g₀ : List Term} {t₀ : Term} {g : List Term} {t : Term} (z : Zipper e most g₀ t₀ g t) (p : ℕ) → 0 < length (frame_words p z) → 3 ≤ length (frame_words p z)
frame_three z_end p l = omega arith
frame_three (z_pi z) p l = omega arith
frame_three (z_under_pi z h w) p l = omega arith
frame_three (z_lam z) p l = omega arith
frame_three (z_under_lam z h w) p l = omega arith
frame_three (z_fun z) p l = omega arith
frame_three (z_arg z h w) p l = omega arith

pub top_frame : {k : Task} {g : List Term} {t : Term} (z : Way k g t) {terms context frames₁ heap : List ℕ} {names free top : ℕ} → Kept k z terms context frames₁ heap names free top → free < length frames₁ → free + 3 ≤ length frames₁
top_frame {k} z {frames₁} {free} h l = omega (arith, length-drop free frames₁, ap length h.frames_at, frame_three z k.start (omega (arith, length-drop free frames₁, ap length h.frames_at)))

pub top_view : {k : Task} {g : List Term} {t : Term} (z : Way k g t) {terms context frames₁ heap : List ℕ} {names free top : ℕ} {kind : Kind} → Kept k z terms context frames₁ heap names free top → Tagged frames₁ free kind
    → FrameView k.env k.most k.context k.term g t z (kind_word kind)
top_view {k} z {frames₁} {free} h w = tr (FrameView _ _ _ _ _ _ z) w.is (frame_view z k.start free frames₁ h.frames_at w.below)

-- One name more.
pub kept_bind : {k : Task} {g : List Term} {t u a : Term} (z : Way k g t) (y : Way k (a ∷ g) u) {terms context context₂ frames₁ frames₂ heap heap₂ : List ℕ} {names names₂ free free₂ top p : ℕ} {r : List ℕ}
    → Kept k z terms context frames₁ heap names free top → take top heap₂ ≡ take top heap → Pushes context names p context₂ names₂ → length context ≡ length context₂ → At terms p a r
    → drop free₂ frames₂ ≡ frame_words k.start y → free₂ ≤ length frames₂ → length frames₁ ≡ length frames₂ → kept_words z ≡ kept_words y → held z ≡ held y
    → Kept k y terms context₂ frames₂ heap₂ names₂ free₂ top
kept_bind {g} z y {context} {names} {p} {r} h v q l at f n m w d = record {
  stands = h.stands;
  context_at = (p, r, drop names context, q.words, at, h.context_at);
  names_end = omega (arith, h.names_end, q.grows);
  names_room = omega (arith, h.names_room);
  names_fit = omega (arith, h.names_fit);
  frames_at = f;
  frames_end = n;
  frames_room = omega (arith, h.frames_room);
  heap_at = v ∙ h.heap_at ∙ w;
  heap_top = h.heap_top ∙ ap (λ (x : ℕ). 3 * x) d;
}
