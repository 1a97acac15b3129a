-- What reducing a type promises: towards an aim, and to a sort.
use Rattle.std.specs.Prelude.{◌≡◌, ℕ, suc, ◌+◌, ◌*◌, ◌<◌, ◌≤◌, false, ◌⊎◌, List, [], length, take, Ok, Err, Result}
use Rattle.std.proofs.Math.Option.{some, none}
use Rattle.theory.specs.Terms.{Term, sort, size}
use Rattle.theory.specs.Environment.{Env}
use Rattle.theory.specs.Reduction.{normal_step, normal_steps}
use Rattle.theory.specs.Typing.{FirstReduct, is_sort}
use Rattle.theory.proofs.NormalForms.{NormalForm}
use Rattle.terms.specs.Words.{put}
use Rattle.terms.specs.Writing.{Appends}
use Rattle.reduction.specs.Aims.{meets}
use Rattle.reduction.specs.declared.reduce.Aim.{Aim}
use Rattle.kernel.specs.Inference.{Worked}
use Rattle.reduction.specs.declared.reduce.Reduced.{Reduced}
use Rattle.reduction.specs.declared.reduce.Reduced.TheVariants.{Reached, Resting}
use Rattle.kernel.specs.declared.failure.Limit.{Limit}
use Rattle.kernel.specs.declared.failure.Limit.TheVariants as limit
use Rattle.kernel.specs.declared.failure.Failure.{Failure}
use Rattle.kernel.specs.declared.failure.Failure.TheVariants.{Refused, Spent, NoRoom}

-- It takes one more step than allowed.
pub record Overspent (e : Env) (most : ℕ) (t : Term) : Type 0 where
  pub term : Term
  pub reaches : normal_steps e (suc most) t ≡ some term

-- It comes to a term for which the heap behind `at`, or the stack, is too short.
pub record Overfull (e : Env) (most heap at stack : ℕ) (t : Term) : Type 0 where
  pub term : Term
  pub steps : ℕ
  pub within : steps ≤ most
  pub reaches : normal_steps e steps t ≡ some term
  pub large : (heap < at + 6 * size term) ⊎ (stack < 6 * size term)

-- It comes to no sort.
pub record NoSort (e : Env) (t : Term) : Type 0 where
  pub term : Term
  pub normal : NormalForm e t term
  pub other : is_sort term ≡ false

-- From t, with count steps taken before: the first reduct of the aim's form; the normal form, which is not of it; one step more than
-- allowed; or a reduct too large for the heap or the stack.
abbrev pub Halts : Env → Aim → ℕ → ℕ → List ℕ → ℕ → ℕ → Term → List ℕ → Result Reduced Limit → Type 0
Halts e aim count most heap at stack t after (Ok (Reached n end)) =
    (u : Term) × (f : FirstReduct e (meets e aim) t u) × (n ≡ count + f.n) × (n ≤ most) × Appends heap at (put u []) after end
Halts e aim count most heap at stack t after (Ok (Resting n end)) =
    (u : Term) × (m : ℕ) × (n ≡ count + m) × (n ≤ most) × (normal_steps e m t ≡ some u) × (normal_step e u ≡ none) × (meets e aim u ≡ false) × Appends heap at (put u []) after end
Halts e aim count most heap at stack t after (Err limit.Spent) = (u : Term) × (m : ℕ) × (count + m ≡ suc most) × (normal_steps e m t ≡ some u)
Halts e aim count most heap at stack t after (Err limit.NoRoom) =
    (u : Term) × (m : ℕ) × (count + m ≤ most) × (normal_steps e m t ≡ some u) × ((length heap < at + 6 * size u) ⊎ (stack < 6 * size u))

-- The level of the first sort that t comes to; the words below `at` are kept.
abbrev pub Sorts : Env → ℕ → List ℕ → ℕ → ℕ → Term → List ℕ → Result ℕ Failure → Type 0
Sorts e most heap at stack t after (Ok i) = Worked e is_sort most t (sort i) × (take at after ≡ take at heap)
Sorts e most heap at stack t after (Err Refused) = NoSort e t
Sorts e most heap at stack t after (Err Spent) = Overspent e most t
Sorts e most heap at stack t after (Err NoRoom) = Overfull e most (length heap) at stack t
