-- The words of the walk when it moves: down into a first part.
use Rattle.std.proofs.Common.{◌≡◌, ℕ, zero, suc, ◌+◌, ◌*◌, ◌^◌, ◌<◌, ◌≤◌, List, [], ◌∷◌, ◌++◌, length, drop, refl, ap, ◌∙◌, subst as tr, arith, length-drop, length-take}
use mathlib.Core.Option.{some}
use lib.ListN.{get_elem?}
use Rattle.theory.specs.Terms.{Term, size}
use Rattle.theory.specs.Environment.{Env}
use Rattle.theory.specs.Typing.{WfContext, ctx_end, ctx_more}
use Rattle.theory.proofs.Options.{none-some, some_inj}
use Rattle.theory.proofs.Closed.{Scoped, scoped_more, typed_scoped}
use Rattle.terms.specs.declared.sign.Sign.TheVariants.{Pi, Lam, App}
use Rattle.terms.specs.Words.{number, At, Small}
use Rattle.terms.proofs.Nodes.{size-parts, scoped_small}
use Rattle.terms.proofs.Places.{at_length}
use Rattle.kernel.specs.Inference.{z_pi, z_lam, z_fun, held}
use Rattle.kernel.specs.Frames.{Stacks}
use Rattle.kernel.specs.Machine.{place, behind, frame_words, kept_words, ContextAt, Task, Way, Sensible, Kept}
use Rattle.kernel.specs.Leaves.{ContextFits}
use Rattle.kernel.specs.Turns.{Before}
use Rattle.kernel.specs.declared.turn.Spot.{Spot}
use Rattle.kernel.proofs.Walk.{frames_bound, context_bound, walk_context}
use Rattle.kernel.proofs.Places.{walk_at, frames_length, kept_length}
use Rattle.kernel.proofs.Contexts.{type_at}
use Rattle.kernel.proofs.Views.{View, v_pi, v_lam, v_app}

-- Where the walk stands, a term stands.
pub before_at : {k : Task} {terms context frames₁ heap : List ℕ} {s : Spot} (b : Before k terms context frames₁ heap s) → At terms s.at b.term (behind k.rest b.way)
before_at {k} {terms} b = rw b.at (walk_at terms k.start k.rest b.kept.stands b.way)

pub before_within : {k : Task} {terms context frames₁ heap : List ℕ} {s : Spot} → Before k terms context frames₁ heap s → s.at + 3 ≤ length terms
before_within {terms} {s} b = omega (arith, at_length terms s.at b.term _ (before_at b), size-parts b.term)

-- There is room for one more frame and for one more name.
pub frame-room : {k : Task} {g : List Term} {t : Term} {z : Way k g t} {terms context frames₁ heap : List ℕ} {names free top : ℕ} → Kept k z terms context frames₁ heap names free top → 7 ≤ free
frame-room {k} {t} {z} {frames₁} {free} h =
    omega (arith, h.frames_end, h.frames_room, ap length h.frames_at, length-drop free frames₁, frames_length k.start z, frames_bound z, size-parts t)

pub name_room : {k : Task} {g : List Term} {t : Term} {z : Way k g t} {terms context frames₁ heap : List ℕ} {names free top : ℕ} → Kept k z terms context frames₁ heap names free top → 2 ≤ names
name_room {k} {t} {z} h = omega (arith, h.names_end, h.names_room, context_bound z, frames_bound z, size-parts t)

-- One frame more, in the same context.
pub kept_push : {k : Task} {g : List Term} {t u : Term} (z : Way k g t) (y : Way k g u) {terms context frames₁ frames₂ heap : List ℕ} {names free free₂ top : ℕ} (new : List ℕ)
    → Kept k z terms context frames₁ heap names free top → Stacks frames₁ free new frames₂ free₂ → length frames₁ ≡ length frames₂
    → new ++ frame_words k.start z ≡ frame_words k.start y → kept_words z ≡ kept_words y → held z ≡ held y
    → Kept k y terms context frames₂ heap names free₂ top
kept_push z y new h s l f w n = record {
  stands = h.stands;
  context_at = h.context_at;
  names_end = h.names_end;
  names_room = h.names_room;
  names_fit = h.names_fit;
  frames_at = s.words ∙ ap (λ (x : List ℕ). new ++ x) h.frames_at ∙ f;
  frames_end = omega (arith, s.grows, h.frames_end);
  frames_room = omega (arith, h.frames_room);
  heap_at = h.heap_at ∙ w;
  heap_top = h.heap_top ∙ ap (λ (x : ℕ). 3 * x) n;
}

-- Down into the first part of a node.
pub down_pi : {k : Task} {g : List Term} {t : Term} (z : Way k g t) → View t Pi → {terms context frames₁ frames₂ heap : List ℕ} {names free free₂ top at : ℕ}
    → Kept k z terms context frames₁ heap names free top → at ≡ place k.start z → Stacks frames₁ free (0 ∷ number (at + 3) []) frames₂ free₂ → length frames₁ ≡ length frames₂
    → Before k terms context frames₂ heap (record { at = at + 3; names = names; free = free₂; top = top })
down_pi {k} z v_pi h p q l = record {
  types = _;
  term = _;
  way = z_pi z;
  at = ap (λ (n : ℕ). n + 3) p;
  kept = kept_push z (z_pi z) _ h q l (ap (λ (n : ℕ). 0 ∷ number (n + 3) (frame_words k.start z)) p) refl refl;
}

pub down_lam : {k : Task} {g : List Term} {t : Term} (z : Way k g t) → View t Lam → {terms context frames₁ frames₂ heap : List ℕ} {names free free₂ top at : ℕ}
    → Kept k z terms context frames₁ heap names free top → at ≡ place k.start z → Stacks frames₁ free (2 ∷ number (at + 3) []) frames₂ free₂ → length frames₁ ≡ length frames₂
    → Before k terms context frames₂ heap (record { at = at + 3; names = names; free = free₂; top = top })
down_lam {k} z v_lam h p q l = record {
  types = _;
  term = _;
  way = z_lam z;
  at = ap (λ (n : ℕ). n + 3) p;
  kept = kept_push z (z_lam z) _ h q l (ap (λ (n : ℕ). 2 ∷ number (n + 3) (frame_words k.start z)) p) refl refl;
}

pub down_app : {k : Task} {g : List Term} {t : Term} (z : Way k g t) → View t App → {terms context frames₁ frames₂ heap : List ℕ} {names free free₂ top at : ℕ}
    → Kept k z terms context frames₁ heap names free top → at ≡ place k.start z → Stacks frames₁ free (4 ∷ number (at + 3) []) frames₂ free₂ → length frames₁ ≡ length frames₂
    → Before k terms context frames₂ heap (record { at = at + 3; names = names; free = free₂; top = top })
down_app {k} z v_app h p q l = record {
  types = _;
  term = _;
  way = z_fun z;
  at = ap (λ (n : ℕ). n + 3) p;
  kept = kept_push z (z_fun z) _ h q l (ap (λ (n : ℕ). 4 ∷ number (n + 3) (frame_words k.start z)) p) refl refl;
}

-- The kept types stand within the heap.
pub top_within : {k : Task} {g : List Term} {t : Term} (z : Way k g t) {terms context frames₁ heap : List ℕ} {names free top : ℕ} → Kept k z terms context frames₁ heap names free top → top ≤ length heap
top_within z {heap} {top} h = omega (arith, h.heap_top, ap length h.heap_at, length-take top heap, kept_length z)

-- The types of a well-formed context are small.
context_scoped : {e : Env} {g : List Term} → WfContext e g → (x : ℕ) {a : Term} → get_elem? g x ≡ some a → Scoped (length g) a
context_scoped ctx_end x p = none-some p
context_scoped (ctx_more {g} {a} c h) zero p = tr (Scoped (suc (length g))) (some_inj p) (scoped_more a (length g) (suc (length g)) (typed_scoped h) (omega arith))
context_scoped (ctx_more {g} c h) (suc x) {a} p = scoped_more a (length g) (suc (length g)) (context_scoped c x p) (omega arith)

pub context_small : {e : Env} {g : List Term} (terms c : List ℕ) → WfContext e g → ContextAt terms g c → length g ≤ 2 ^ 32 → length terms < 2 ^ 64 → (x : ℕ) (a : Term) → get_elem? g x ≡ some a → Small (2 ^ 63) a
context_small {g} terms c ctx at few l x a p =
    let t = type_at terms g c x at p in
    scoped_small a (length g) (2 ^ 63) (context_scoped ctx x p) (omega (arith, at_length terms t.place a t.behind t.stands))

pub walk_short : {k : Task} {g : List Term} {t : Term} (z : Way k g t) → Sensible k → length g + size t ≤ 2 ^ 32
walk_short z s = omega (arith, s.few, context_bound z, frames_bound z)

pub context_fits : {k : Task} {g : List Term} {t : Term} (z : Way k g t) {terms context frames₁ heap : List ℕ} {names free top : ℕ} → Sensible k → length terms < 2 ^ 64
    → Kept k z terms context frames₁ heap names free top → ContextFits terms context names
context_fits {g} z {terms} {context} {names} s l h = record {
  types = g;
  at = h.context_at;
  ends = h.names_end;
  short = omega (arith, walk_short z s);
  small = context_small terms (drop names context) (walk_context s.wf s.ctx z) h.context_at (omega (arith, walk_short z s)) l;
}
