-- The walk of inference kept in words: where it stands in the terms, its frames, its context, and the function types on the heap.
use Rattle.std.specs.Prelude.{◌≡◌, ℕ, suc, ◌+◌, ◌*◌, ◌^◌, ◌<◌, ◌≤◌, List, [], ◌∷◌, ◌++◌, length, take, drop}
use Rattle.std.proofs.Math.Option.{Option, some, none}
use Rattle.std.proofs.Math.ListN.{get_elem?}
use Rattle.theory.specs.Terms.{Head, h_def, h_data, h_con, h_rec, h_eq, h_refl, h_along, Term, var, const, sort, pi, lam, app, lift, size, depth}
use Rattle.theory.specs.Environment.{Entry, Env, head_type_lem}
use Rattle.theory.specs.Reduction.{map_option}
use Rattle.theory.specs.Typing.{WfEnv, WfContext}
use Rattle.terms.specs.Words.{put, number, At}
use Rattle.theory.specs.Question.{entry_size, entry_depth}
use Rattle.kernel.specs.Inference.{Zipper, z_end, z_pi, z_under_pi, z_lam, z_under_lam, z_fun, z_arg, held, Covers}

-- The terms of the core: of the heads only definitions and axioms, and levels of at most three digits.
abbrev pub CoreHead : Head → Type 0
CoreHead (h_def i) = Unit {0}
CoreHead (h_data i) = ⊥
CoreHead (h_con i k) = ⊥
CoreHead (h_rec i j) = ⊥
CoreHead (h_eq i) = ⊥
CoreHead (h_refl i) = ⊥
CoreHead (h_along i j) = ⊥

abbrev pub Core : Term → Type 0
Core (var x) = Unit {0}
Core (const h) = CoreHead h
Core (sort i) = i < 1000
Core (pi a b) = Core a × Core b
Core (lam a b) = Core a × Core b
Core (app f a) = Core f × Core a

-- The type of a term without parts, if it has one.
abbrev pub leaf_type : Env → List Term → Term → Option Term
leaf_type e g (var x) = map_option (lift 0 (suc x)) (get_elem? g x)
leaf_type e g (const h) = head_type_lem e h
leaf_type e g (sort i) = some (sort (suc i))
leaf_type e g (pi a b) = none
leaf_type e g (lam a b) = none
leaf_type e g (app f a) = none

-- The place where the walk stands, if the whole stands at p; and the words behind it there, if r are behind the whole.
abbrev pub place : {e : Env} {most : ℕ} {g₀ : List Term} {t₀ : Term} {g : List Term} {t : Term} → ℕ → Zipper e most g₀ t₀ g t → ℕ
place p z_end = p
place p (z_pi z) = place p z + 3
place p (z_under_pi {a} z h w) = place p z + 3 + 3 * size a
place p (z_lam z) = place p z + 3
place p (z_under_lam {a} z h w) = place p z + 3 + 3 * size a
place p (z_fun z) = place p z + 3
place p (z_arg {f} z h w) = place p z + 3 + 3 * size f

abbrev pub behind : {e : Env} {most : ℕ} {g₀ : List Term} {t₀ : Term} {g : List Term} {t : Term} → List ℕ → Zipper e most g₀ t₀ g t → List ℕ
behind r z_end = r
behind r (z_pi {b} z) = put b (behind r z)
behind r (z_under_pi z h w) = behind r z
behind r (z_lam {b} z) = put b (behind r z)
behind r (z_under_lam z h w) = behind r z
behind r (z_fun {t} z) = put t (behind r z)
behind r (z_arg z h w) = behind r z

-- The words of the frames, the innermost first: a tag; the place of a node's first part, or its level, or the place of the argument,
-- the place of the function type on the heap and the number of steps that led to it.
abbrev pub frame_words : {e : Env} {most : ℕ} {g₀ : List Term} {t₀ : Term} {g : List Term} {t : Term} → ℕ → Zipper e most g₀ t₀ g t → List ℕ
frame_words p z_end = []
frame_words p (z_pi z) = 0 ∷ number (place p z + 3) (frame_words p z)
frame_words p (z_under_pi {i} z h w) = 1 ∷ i ∷ 0 ∷ frame_words p z
frame_words p (z_lam z) = 2 ∷ number (place p z + 3) (frame_words p z)
frame_words p (z_under_lam z h w) = 3 ∷ number (place p z + 3) (frame_words p z)
frame_words p (z_fun z) = 4 ∷ number (place p z + 3) (frame_words p z)
frame_words p (z_arg {f} z h w) = 5 ∷ number (place p z + 3 + 3 * size f) (number (3 * held z) (number w.first.n (frame_words p z)))

-- The words of the function types that are kept, the outermost first.
abbrev pub kept_words : {e : Env} {most : ℕ} {g₀ : List Term} {t₀ : Term} {g : List Term} {t : Term} → Zipper e most g₀ t₀ g t → List ℕ
kept_words z_end = []
kept_words (z_pi z) = kept_words z
kept_words (z_under_pi z h w) = kept_words z
kept_words (z_lam z) = kept_words z
kept_words (z_under_lam z h w) = kept_words z
kept_words (z_fun z) = kept_words z
kept_words (z_arg {a} {b} z h w) = kept_words z ++ put (pi a b) []

-- The words of a context: the places where its types stand, the innermost first.
abbrev pub ContextAt : List ℕ → List Term → List ℕ → Type 0
ContextAt ws [] c = c ≡ []
ContextAt ws (a ∷ g) c = (p : ℕ) × (r d : List ℕ) × (c ≡ number p d) × At ws p a r × ContextAt ws g d

-- What is to be inferred: the type of a term that stands at a place, in its context, for an entry, with so many steps allowed.
pub record Task : Type 0 where
  pub env : Env
  pub entry : Entry
  pub most : ℕ
  pub context : List Term
  pub term : Term
  pub start : ℕ
  pub rest : List ℕ

abbrev pub Way : Task → List Term → Term → Type 0
Way k g t = Zipper k.env k.most k.context k.term g t

-- The task makes sense.
pub record Sensible (k : Task) : Type 0 where
  pub wf : WfEnv k.env
  pub ctx : WfContext k.env k.context
  pub covers : Covers k.entry k.context k.term
  pub shallow : depth k.term ≤ entry_depth k.entry
  pub small : size k.term ≤ entry_size k.entry
  pub core : Core k.term
  pub few : length k.context + size k.term ≤ 2 ^ 32

-- The words of the walk z: its context, its frames, the function types that it keeps.
pub record Kept (k : Task) {g : List Term} {t : Term} (z : Way k g t) (terms context frames heap : List ℕ) (names free top : ℕ) : Type 0 where
  pub stands : At terms k.start k.term k.rest
  pub context_at : ContextAt terms g (drop names context)
  pub names_end : names + 2 * length g ≡ length context
  pub names_room : 2 * (length k.context + size k.term) ≤ length context
  pub names_fit : length context < 2 ^ 64
  pub frames_at : drop free frames ≡ frame_words k.start z
  pub frames_end : free ≤ length frames
  pub frames_room : 7 * size k.term ≤ length frames
  pub heap_at : take top heap ≡ kept_words z
  pub heap_top : top ≡ 3 * held z
