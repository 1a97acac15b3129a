-- Inference as a walk over a term: the place of the walk, with what was found on the way to it.
use Rattle.std.specs.Prelude.{◌≡◌, ℕ, suc, ◌+◌, ◌*◌, ◌<◌, ◌≤◌, Bool, List, ◌∷◌}
use Rattle.std.proofs.Math.Option.{some}
use Rattle.theory.specs.Terms.{Term, sort, pi, lam, app, size}
use Rattle.theory.specs.Environment.{Entry, Env}
use Rattle.theory.specs.Reduction.{normal_steps}
use Rattle.theory.specs.Typing.{HasType, Infers, FirstReduct, is_pi, is_sort, Subterm}
use Rattle.theory.specs.Question.{Mentions, InQuestion, entry_size, entry_depth}

-- The term has no type.
abbrev pub Untyped : Env → List Term → Term → Type 0
Untyped e g t = (c : Term) → HasType e g t c → ⊥

-- k is a type of t, and the inferred one.
pub record Has (e : Env) (g : List Term) (t k : Term) : Type 0 where
  pub of : HasType e g t k
  pub infers : Infers e g t k

-- u is the first reduct of k with the property, reached within the steps allowed.
pub record Worked (e : Env) (p : Term → Bool) (most : ℕ) (k u : Term) : Type 0 where
  pub first : FirstReduct e p k u
  pub within : first.n ≤ most

-- The walk through t₀ in context g₀ stands at t in context g. Where it is in the second part of a node it has the type of the first
-- part: the sort of a domain, the function type of a function.
pub data Zipper (e : Env) (most : ℕ) (g₀ : List Term) (t₀ : Term) : List Term → Term → Type 0 where
  z_end : Zipper e most g₀ t₀ g₀ t₀
  z_pi : {g : List Term} {a b : Term} → Zipper e most g₀ t₀ g (pi a b) → Zipper e most g₀ t₀ g a
  z_under_pi : {g : List Term} {a b k : Term} {i : ℕ} → Zipper e most g₀ t₀ g (pi a b) → Has e g a k → Worked e is_sort most k (sort i) → Zipper e most g₀ t₀ (a ∷ g) b
  z_lam : {g : List Term} {a b : Term} → Zipper e most g₀ t₀ g (lam a b) → Zipper e most g₀ t₀ g a
  z_under_lam : {g : List Term} {a b k : Term} {i : ℕ} → Zipper e most g₀ t₀ g (lam a b) → Has e g a k → Worked e is_sort most k (sort i) → Zipper e most g₀ t₀ (a ∷ g) b
  z_fun : {g : List Term} {f t : Term} → Zipper e most g₀ t₀ g (app f t) → Zipper e most g₀ t₀ g f
  z_arg : {g : List Term} {f t k a b : Term} → Zipper e most g₀ t₀ g (app f t) → Has e g f k → Worked e is_pi most k (pi a b) → Zipper e most g₀ t₀ g t

-- The frames of the walk; those among them that keep a function type; the nodes of these types.
abbrev pub frames : {e : Env} {most : ℕ} {g₀ : List Term} {t₀ : Term} {g : List Term} {t : Term} → Zipper e most g₀ t₀ g t → ℕ
frames z_end = 0
frames (z_pi z) = suc (frames z)
frames (z_under_pi z h w) = suc (frames z)
frames (z_lam z) = suc (frames z)
frames (z_under_lam z h w) = suc (frames z)
frames (z_fun z) = suc (frames z)
frames (z_arg z h w) = suc (frames z)

abbrev pub args : {e : Env} {most : ℕ} {g₀ : List Term} {t₀ : Term} {g : List Term} {t : Term} → Zipper e most g₀ t₀ g t → ℕ
args z_end = 0
args (z_pi z) = args z
args (z_under_pi z h w) = args z
args (z_lam z) = args z
args (z_under_lam z h w) = args z
args (z_fun z) = args z
args (z_arg z h w) = suc (args z)

abbrev pub held : {e : Env} {most : ℕ} {g₀ : List Term} {t₀ : Term} {g : List Term} {t : Term} → Zipper e most g₀ t₀ g t → ℕ
held z_end = 0
held (z_pi z) = held z
held (z_under_pi z h w) = held z
held (z_lam z) = held z
held (z_under_lam z h w) = held z
held (z_fun z) = held z
held (z_arg {a} {b} z h w) = held z + size (pi a b)

-- The parts of t₀ in context g₀ are parts of the entry.
abbrev pub Covers : Entry → List Term → Term → Type 0
Covers c g₀ t₀ = (d : List Term) (u : Term) → Subterm g₀ t₀ d u → Mentions c d u

-- A term in question comes to u within the steps allowed.
pub record Reached (e : Env) (c : Entry) (most : ℕ) (u : Term) : Type 0 where
  pub start : Term
  pub steps : ℕ
  pub asked : InQuestion e c start
  pub within : steps ≤ most
  pub reaches : normal_steps e steps start ≡ some u

-- A term in question comes, within the steps allowed, to one for which w words of workspace are too few.
pub record NeedsMore (e : Env) (c : Entry) (most w : ℕ) : Type 0 where
  pub term : Term
  pub reached : Reached e c most term
  pub large : w < 48 * (4 + entry_size c) + 128 * ((1 + entry_depth c) * size term)
