-- What reducing towards an aim with a number of steps promises.
use Rattle.std.specs.Prelude.{◌≡◌, ℕ, suc, ◌+◌, ◌*◌, ◌<◌, ◌≤◌, Bool, true, false, ◌⊎◌, List, [], length, Ok, Err, Result}
use Rattle.std.proofs.Math.Option.{Option, some, none}
use Rattle.theory.specs.Terms.{Term, sort, pi, var, const, lam, app, size}
use Rattle.theory.specs.Environment.{DataType, Env, data_at}
use Rattle.theory.specs.Reduction.{normal_step, normal_steps}
use Rattle.theory.specs.Typing.{is_pi, is_sort, FirstReduct}
use Rattle.terms.specs.Words.{put}
use Rattle.terms.specs.Writing.{Appends}
use Rattle.reduction.specs.declared.reduce.Aim.{Aim}
use Rattle.reduction.specs.declared.reduce.Aim.TheVariants.{ToNormal, ToPi, ToSort, ToDomain}
use Rattle.reduction.specs.declared.reduce.Reduced.{Reduced}
use Rattle.reduction.specs.declared.reduce.Reduced.TheVariants.{Reached, Resting}
use Rattle.reduction.specs.declared.reduce.ReduceError.{ReduceError}
use Rattle.reduction.specs.declared.reduce.ReduceError.TheVariants.{UsedUp, NoRoom, NotYet}
use Rattle.reduction.specs.declared.step.StepError.{StepError}
use Rattle.reduction.specs.declared.step.StepError.TheVariants as stepping

-- Is there nothing?
abbrev pub is_none : {A : Type 0} → Option A → Bool
is_none none = true
is_none (some x) = false

-- Is the term a function type whose domain is normal?
abbrev pub domain_rests_lem : Env → Term → Bool
domain_rests_lem e (var x) = false
domain_rests_lem e (const h) = false
domain_rests_lem e (sort i) = false
domain_rests_lem e (pi a b) = is_none (normal_step e a)
domain_rests_lem e (lam a b) = false
domain_rests_lem e (app f a) = false

-- Is the term of the aim's form?
abbrev pub meets : Env → Aim → Term → Bool
meets e ToNormal t = is_none (normal_step e t)
meets e ToPi t = is_pi t
meets e ToSort t = is_sort t
meets e ToDomain t = domain_rests_lem e t

-- From t, with count steps taken before, up to most: the first reduct of the aim's form; the normal form, which is not of it; one step
-- more than allowed; a reduct too large for the heap, the scratch words or the stack; or a recursor's step, which is not coded yet.
abbrev pub Reduces : Env → Aim → ℕ → ℕ → List ℕ → ℕ → ℕ → ℕ → Term → List ℕ → Result Reduced ReduceError → Type 0
Reduces e aim count most heap at scratch stack t after (Ok (Reached n end)) =
    (u : Term) × (f : FirstReduct e (meets e aim) t u) × (n ≡ count + f.n) × (n ≤ most) × Appends heap at (put u []) after end
Reduces e aim count most heap at scratch stack t after (Ok (Resting n end)) =
    (u : Term) × (m : ℕ) × (n ≡ count + m) × (n ≤ most) × (normal_steps e m t ≡ some u) × (normal_step e u ≡ none) × (meets e aim u ≡ false) × Appends heap at (put u []) after end
Reduces e aim count most heap at scratch stack t after (Err UsedUp) =
    (u : Term) × (m : ℕ) × (count + m ≡ suc most) × (normal_steps e m t ≡ some u)
Reduces e aim count most heap at scratch stack t after (Err NoRoom) =
    (u : Term) × (m : ℕ) × (count + m ≤ most) × (normal_steps e m t ≡ some u) × ((length heap < at + 3 * size u) ⊎ ((scratch < 3 * size u) ⊎ (stack < 3 * size u)))
Reduces e aim count most heap at scratch stack t after (Err NotYet) = (i : ℕ) × (k : DataType) × (data_at e i ≡ some k)

-- The test for the aim's form; for the normal form nothing is tested, since the step says whether there is one.
abbrev pub Met : Env → Aim → Term → Bool → Type 0
Met e aim t true = meets e aim t ≡ true
Met e aim t false = (aim ≡ ToNormal) ⊎ (meets e aim t ≡ false)

-- The answer for a normal term.
abbrev pub resting : Aim → ℕ → ℕ → Reduced
resting ToNormal n end = Reached n end
resting ToPi n end = Resting n end
resting ToSort n end = Resting n end
resting ToDomain n end = Resting n end

-- Why the aim was not reached, where there was no step.
abbrev pub reduce_error : StepError → ReduceError
reduce_error stepping.NoRoom = NoRoom
reduce_error stepping.NoStack = NoRoom
reduce_error stepping.NotYet = NotYet
