-- A type written on top of the heap, and the answer where it does not fit.
use Rattle.std.proofs.Common.{◌≡◌, ℕ, suc, ◌+◌, ◌*◌, ◌<◌, ◌≤◌, false, ◌⊎◌, List, [], ◌++◌, length, take, sym, refl, ap, ◌∙◌, subst as tr, inl, inr, arith, length-append, length-take}
use mathlib.Core.Option.{some, none}
use lib.ListN.{get_elem?}
use Rattle.theory.specs.Terms.{Term, sort, h_def, lift, size}
use Rattle.theory.specs.Environment.{head_type_lem}
use Rattle.theory.specs.Reduction.{map_option}
use Rattle.theory.proofs.Options.{some_inj, some-none, false-true}
use Rattle.terms.specs.declared.sign.Index.{Index}
use Rattle.terms.specs.declared.sign.Level.{Level}
use Rattle.terms.specs.declared.sign.Sign.TheVariants.{Var, Sort, Def}
use Rattle.terms.specs.Words.{put}
use Rattle.terms.specs.Writing.{Appends}
use Rattle.terms.specs.Copying.{Copies}
use Rattle.terms.specs.declared.copy.WriteError.{WriteError}
use Rattle.terms.specs.declared.copy.WriteError.TheVariants as write
use Rattle.std.specs.Result.{is_ok}
use Rattle.terms.proofs.Nodes.{put-length}
use Rattle.terms.proofs.Appending.{append_keeps}
use Rattle.reduction.specs.Stepping.{Stands}
use Rattle.theory.specs.Question.{entry_size}
use Rattle.kernel.specs.Inference.{Has, Untyped, held, Reached, NeedsMore}
use Rattle.kernel.specs.Machine.{Core, place, leaf_type, Task, Way, Sensible, Kept}
use Rattle.kernel.specs.Leaves.{LeafSays, turn_of}
use Rattle.kernel.specs.Turns.{Given, Turned}
use Rattle.kernel.specs.declared.turn.Spot.{Spot}
use Rattle.std.specs.Prelude.{Ok, Err, Result}
use Rattle.kernel.specs.declared.failure.Failure.{Failure}
use Rattle.kernel.specs.declared.failure.Failure.TheVariants.{Refused, Spent, NoRoom}
use Rattle.kernel.proofs.Walk.{refused, walk_context}
use Rattle.kernel.proofs.Room.{room, questioned, reached_start}
use Rattle.kernel.proofs.Written.{var_has, head_has, sort_has, var_none, head_none}
use Rattle.kernel.proofs.Views.{View, v_var, v_sort, v_def}

-- What was appended stands there, within the words.
pub appended_within : (before after : List ℕ) (top end : ℕ) (t : Term) → top ≤ length before → Appends before top (put t []) after end → end ≤ length after
appended_within before after top end t h p =
    omega (arith, p.ends, ap length p.words, length-take end after, length-take top before, length-append (take top before) (put t []))

-- The term does not fit.
pub copies_none : (before after : List ℕ) (start : ℕ) {stack : ℕ} (r : Result ℕ WriteError) (t : Term) → false ≡ is_ok r → Copies before start after stack t r → (length before < start + 3 * size t) ⊎ (stack < size t)
copies_none before after start (Ok end) t p h = false-true p
copies_none before after start (Err write.NoRoom) t p h = inl h
copies_none before after start (Err write.NoStack) t p h = inr h

pub appended_stands : (before after : List ℕ) (top end : ℕ) (t : Term) → top ≤ length before → Appends before top (put t []) after end → Stands after top t end
appended_stands before after top end t h p = record {
  ends = omega (arith, p.ends, put-length t []);
  words = p.words ∙ ap (λ (w : List ℕ). w ++ put t []) (sym (append_keeps before after top end top (put t []) (omega arith) h p));
}

-- The walk keeps its words when the heap changes above them.
pub kept_heap : {k : Task} {g : List Term} {t : Term} (z : Way k g t) {terms context frames₁ heap₁ heap₂ : List ℕ} {names free top : ℕ}
    → Kept k z terms context frames₁ heap₁ names free top → take top heap₂ ≡ take top heap₁ → Kept k z terms context frames₁ heap₂ names free top
kept_heap z h p = record {
  stands = h.stands;
  context_at = h.context_at;
  names_end = h.names_end;
  names_room = h.names_room;
  names_fit = h.names_fit;
  frames_at = h.frames_at;
  frames_end = h.frames_end;
  frames_room = h.frames_room;
  heap_at = p ∙ h.heap_at;
  heap_top = h.heap_top;
}

-- There is no room: the kept types and three terms in question say so.
pub no_room : {k : Task} {g : List Term} {t x y v : Term} (z : Way k g t) (heap : ℕ) → Sensible k
    → Reached k.env k.entry k.most x → Reached k.env k.entry k.most y → Reached k.env k.entry k.most v
    → heap < 3 * held z + 20 * (size x + (size y + size v)) → NeedsMore k.env k.entry k.most (16 * entry_size k.entry + 2 * heap)
no_room {k} {x} {y} {v} z heap s p q r l = room s.covers z (16 * entry_size k.entry + 2 * heap) s.shallow p q r (omega arith)

-- The type of a term without parts.
pub leaf_turn : {k : Task} {g : List Term} {t : Term} (z : Way k g t) (heap₂ : List ℕ) {terms context frames₁ heap₁ index store stack : List ℕ} (s : Spot) (r : Result ℕ Failure)
    → Given k index store heap₁ stack → Kept k z terms context frames₁ heap₁ s.names s.free s.top → s.at ≡ place k.start z → s.top ≤ length heap₁ → length heap₁ ≡ length heap₂
    → size t ≡ 1 → ((c : Term) → leaf_type k.env g t ≡ some c → Has k.env g t c) → (leaf_type k.env g t ≡ none → Untyped k.env g t)
    → LeafSays heap₁ s.top (length stack) heap₂ (leaf_type k.env g t) r → Turned k terms context frames₁ heap₂ (turn_of s r)
leaf_turn {k} {g} {t} z heap₂ {heap₁} s (Ok end) n h p l m one has absent (c, is, a) = record {
  types = g;
  term = t;
  way = z;
  at = omega (arith, p);
  kept = kept_heap z h (append_keeps heap₁ heap₂ s.top end s.top (put c []) (omega arith) l a);
  type = c;
  has = has c is;
  stands = appended_stands heap₁ heap₂ s.top end c l a;
  within = appended_within heap₁ heap₂ s.top end c l a;
}
leaf_turn z heap₂ s (Err Refused) n h p l m one has absent w = refused n.sensible.wf n.sensible.ctx z (absent w)
leaf_turn z heap₂ s (Err Spent) n h p l m one has absent w = absurd w
leaf_turn {k} z heap₂ {heap₁} s (Err NoRoom) n h p l m one has absent (c, is, w) =
    let q = reached_start {most = k.most} (questioned n.sensible.covers z (has c is)) in
    no_room z (length heap₂) n.sensible q q q (elim w [ inl a ↦ omega (arith, a, h.heap_top) | inr b ↦ omega (arith, b, n.stack_room) ])

module _ {k : Task} {g : List Term} {terms context frames₁ heap₁ index store stack : List ℕ} (heap₂ : List ℕ) (s : Spot) (r : Result ℕ Failure) (n : Given k index store heap₁ stack)
    (l : s.top ≤ length heap₁) (m : length heap₁ ≡ length heap₂) where
  pub var_turn : {t : Term} (z : Way k g t) {x : Index} → View t (Var x) → Kept k z terms context frames₁ heap₁ s.names s.free s.top → s.at ≡ place k.start z
      → LeafSays heap₁ s.top (length stack) heap₂ (map_option (lift 0 (suc x.0)) (get_elem? g x.0)) r → Turned k terms context frames₁ heap₂ (turn_of s r)
  var_turn z v_var h p says = leaf_turn z heap₂ s r n h p l m refl (λ c q. var_has q) (λ q. var_none n.sensible.wf (walk_context n.sensible.wf n.sensible.ctx z) q) says

  pub sort_turn : {t : Term} (z : Way k g t) {i : Level} → View t (Sort i) → Kept k z terms context frames₁ heap₁ s.names s.free s.top → s.at ≡ place k.start z
      → LeafSays heap₁ s.top (length stack) heap₂ (some (sort (suc i.0))) r → Turned k terms context frames₁ heap₂ (turn_of s r)
  sort_turn z v_sort h p says = leaf_turn z heap₂ s r n h p l m refl (λ c q. tr (Has k.env g _) (some_inj q) (sort_has _)) (λ q. some-none q) says

  pub head_turn : {t : Term} (z : Way k g t) {i : ℕ} → View t (Def i) → Kept k z terms context frames₁ heap₁ s.names s.free s.top → s.at ≡ place k.start z
      → LeafSays heap₁ s.top (length stack) heap₂ (head_type_lem k.env (h_def i)) r → Turned k terms context frames₁ heap₂ (turn_of s r)
  head_turn z v_def h p says = leaf_turn z heap₂ s r n h p l m refl (λ c q. head_has q) (λ q. head_none n.sensible.wf (walk_context n.sensible.wf n.sensible.ctx z) q) says

-- The level of a sort of the core is small.
pub core_level : {t : Term} {i : Level} → View t (Sort i) → Core t → i.0 < 1000
core_level v_sort c = c
