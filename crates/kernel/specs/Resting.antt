-- What reducing to normal forms and comparing them promises.
use Rattle.std.specs.Prelude.{◌≡◌, ℕ, suc, ◌+◌, ◌*◌, ◌^◌, ◌<◌, ◌≤◌, ◌⊎◌, List, [], length, take, Bool, true, false, Some, None, Option as Maybe, Ok, Err, Result, ◌≢◌}
use Rattle.std.proofs.Math.Option.{some}
use Rattle.theory.specs.Terms.{Term, pi, size}
use Rattle.theory.specs.Environment.{Env}
use Rattle.theory.specs.Reduction.{normal_steps}
use Rattle.theory.proofs.NormalForms.{NormalForm}
use Rattle.terms.specs.Words.{put, At}
use Rattle.terms.specs.Writing.{Appends}
use Rattle.reduction.specs.Stepping.{ClosedEnv, StaysScoped, Stands}
use Rattle.kernel.specs.Environments.{PlainAt}
use Rattle.kernel.specs.declared.failure.Limit.{Limit}
use Rattle.kernel.specs.declared.failure.Limit.TheVariants.{Spent, NoRoom}

-- The normal form of t, with count steps taken before; or too many steps; or no room.
abbrev pub Rests : Env → ℕ → ℕ → List ℕ → ℕ → ℕ → Term → List ℕ → Result ℕ Limit → Type 0
Rests e count most heap at stack t after (Ok end) = (u : Term) × (f : NormalForm e t u) × (count + f.n ≤ most) × Appends heap at (put u []) after end
Rests e count most heap at stack t after (Err Spent) = (u : Term) × (m : ℕ) × (count + m ≡ suc most) × (normal_steps e m t ≡ some u)
Rests e count most heap at stack t after (Err NoRoom) = (u : Term) × (m : ℕ) × (count + m ≤ most) × (normal_steps e m t ≡ some u) × ((length heap < at + 6 * size u) ⊎ (stack < 6 * size u))

-- The term a is written above, or the heap or the stack is too short for it.
abbrev pub Above : List ℕ → ℕ → ℕ → Term → List ℕ → Maybe ℕ → Type 0
Above heap end stack a after (Some stop) = Appends heap end (put a []) after stop
Above heap end stack a after None = (length heap < end + 3 * size a) ⊎ (stack < 3 * size a)

-- The term a, of few variables, stands below the term c, which is on top.
pub record Comparable (index store heap : List ℕ) (domain top end : ℕ) : Type 0 where
  pub env : Env
  pub env_at : PlainAt index store env
  pub closed : ClosedEnv env
  pub left : Term
  pub right : Term
  pub rest : List ℕ
  pub left_at : At heap domain left rest
  pub left_below : domain + 3 * size left ≤ top
  pub right_at : Stands heap top right end
  pub within : end ≤ length heap
  pub scope : ℕ
  pub left_scoped : StaysScoped env scope left
  pub few : scope ≤ 2 ^ 61

-- The term on top has few variables too.
pub record Reducible (index store heap : List ℕ) (domain top end : ℕ) : Type 0 where
  pub pair : Comparable index store heap domain top end
  pub right_scoped : StaysScoped pair.env pair.scope pair.right

-- The two are equal, or have one normal form; they have two.
pub record OneForm (e : Env) (a c : Term) : Type 0 where
  pub term : Term
  pub left : NormalForm e a term
  pub right : NormalForm e c term

pub record TwoForms (e : Env) (a c : Term) : Type 0 where
  pub left_term : Term
  pub right_term : Term
  pub left : NormalForm e a left_term
  pub right : NormalForm e c right_term
  pub apart : left_term ≡ right_term → ⊥

-- What both have come to is too large.
pub record FullPair (e : Env) (steps most heap top stack : ℕ) (a c : Term) : Type 0 where
  pub left_term : Term
  pub left_steps : ℕ
  pub left_within : steps + left_steps ≤ most
  pub left_reaches : normal_steps e left_steps a ≡ some left_term
  pub right_term : Term
  pub right_steps : ℕ
  pub right_within : right_steps ≤ most
  pub right_reaches : normal_steps e right_steps c ≡ some right_term
  pub large : (heap < top + (6 * size left_term + 6 * size right_term)) ⊎ (stack < 6 * size left_term + 6 * size right_term)

-- Whether a, to which steps were taken before, and c are convertible; the words below `top` are kept.
abbrev pub Agrees : Env → ℕ → ℕ → List ℕ → ℕ → ℕ → Term → Term → List ℕ → Result Bool Limit → Type 0
Agrees e steps most heap top stack a c after (Ok true) = ((a ≡ c) ⊎ OneForm e a c) × (take top after ≡ take top heap)
Agrees e steps most heap top stack a c after (Ok false) = TwoForms e a c
Agrees e steps most heap top stack a c after (Err Spent) = ((u : Term) × (m : ℕ) × (0 + m ≡ suc most) × (normal_steps e m c ≡ some u)) ⊎ ((u : Term) × (m : ℕ) × (steps + m ≡ suc most) × (normal_steps e m a ≡ some u))
Agrees e steps most heap top stack a c after (Err NoRoom) = FullPair e steps most (length heap) top stack a c

-- The same where c is normal.
abbrev pub AgreesNormal : Env → ℕ → ℕ → List ℕ → ℕ → ℕ → Term → Term → List ℕ → Result Bool Limit → Type 0
AgreesNormal e steps most heap top stack a c after (Ok true) = NormalForm e a c × (take top after ≡ take top heap)
AgreesNormal e steps most heap top stack a c after (Ok false) = (n : Term) × NormalForm e a n × (n ≢ c)
AgreesNormal e steps most heap top stack a c after (Err Spent) = (u : Term) × (m : ℕ) × (steps + m ≡ suc most) × (normal_steps e m a ≡ some u)
AgreesNormal e steps most heap top stack a c after (Err NoRoom) =
    (u : Term) × (m : ℕ) × (steps + m ≤ most) × (normal_steps e m a ≡ some u) × ((length heap < top + (6 * size u + 3 * size c)) ⊎ (stack < 6 * size u))

-- A function type stands there.
pub record HoldsPi (heap : List ℕ) (kept : ℕ) : Type 0 where
  pub domain : Term
  pub codomain : Term
  pub rest : List ℕ
  pub at : At heap kept (pi domain codomain) rest

-- The term v is written over what stood from `kept` on, or the heap or the stack is too short.
abbrev pub Instance : List ℕ → ℕ → ℕ → Term → List ℕ → Maybe ℕ → Type 0
Instance heap kept stack v after (Some end) = Appends heap kept (put v []) after end
Instance heap kept stack v after None = (length heap < kept + 3 * size v) ⊎ (stack < 6 * size v)
