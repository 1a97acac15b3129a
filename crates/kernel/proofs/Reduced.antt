-- What reducing towards an aim gives: a first reduct within the steps, a normal form, a reason.
use Rattle.std.proofs.Common.{◌≡◌, ◌≢◌, ◌*◌, ℕ, suc, ◌+◌, ◌≤◌, true, List, [], length, get_or, take, sym, refl, ap, ◌∙◌, subst as tr, inl, inr, ◌⊎◌, arith, length-append, length-take}
use mathlib.Core.Option.{Option, some, none}
use Rattle.reduction.specs.Aims.{is_none}
use Rattle.theory.specs.Terms.{Term, var, const, sort, pi, lam, app}
use Rattle.theory.specs.Environment.{Env}
use Rattle.theory.specs.Reduction.{normal_steps}
use Rattle.theory.specs.Typing.{is_pi, is_sort, FirstReduct}
use Rattle.theory.proofs.Options.{false-true}
use Rattle.terms.specs.Words.{put}
use Rattle.terms.specs.Writing.{Appends}
use Rattle.terms.proofs.Nodes.{put-length, size-parts}
use Rattle.terms.proofs.Appending.{append_keeps}
use Rattle.terms.proofs.Places.{at_written, at_three}
use Rattle.reduction.specs.Stepping.{Stands}
use Rattle.kernel.specs.Inference.{Worked}
use Rattle.kernel.specs.Reducing.{Overspent, Overfull, Halts, Sorts}
use Rattle.kernel.specs.Resting.{Rests}
use Rattle.reduction.specs.declared.reduce.Reduced.{Reduced}
use Rattle.reduction.specs.declared.reduce.Reduced.TheVariants.{Reached, Resting}
use Rattle.std.proofs.lemmas.Result.{err_from_is_err_and}
use Rattle.std.specs.Prelude.{Ok, Err, Result, IsErrAnd}
use Rattle.theory.specs.Environment.{DataType, data_at}
use Rattle.reduction.specs.Aims.{Reduces}
use Rattle.reduction.specs.declared.reduce.ReduceError.{ReduceError}
use Rattle.reduction.specs.declared.reduce.ReduceError.TheVariants as reduce_error
use Rattle.reduction.specs.declared.reduce.ReduceError.TheVariants.{UsedUp, NotYet}
use Rattle.reduction.specs.declared.reduce.Aim.{Aim}
use Rattle.reduction.specs.declared.reduce.Aim.TheVariants.{ToNormal, ToSort}
use Rattle.kernel.specs.Failures.{failure_of, limit_of}
use Rattle.kernel.specs.declared.failure.Failure.{Failure}
use Rattle.kernel.specs.declared.failure.Limit.{Limit}
use Rattle.kernel.specs.declared.failure.Limit.TheVariants.{Spent, NoRoom}

-- A term that stands stands within the words.
pub stands_within : (ws : List ℕ) (at end : ℕ) (t : Term) → Stands ws at t end → (at + 3 ≤ length ws) × (end ≤ length ws) × (at + 3 ≤ end)
stands_within ws at end t s =
    let n = length-append (take at ws) (put t []) in
    let m = ap length s.words in (
      omega (arith, s.ends, m, n, length-take end ws, length-take at ws, put-length t [], size-parts t),
      omega (arith, s.ends, m, n, length-take end ws, length-take at ws, put-length t [], size-parts t),
      omega (arith, s.ends, size-parts t),
    )

-- The sort that it is.
pub sort_is : (u : Term) → is_sort u ≡ true → (i : ℕ) × (u ≡ sort i)
sort_is (sort i) p = (i, refl)
sort_is (var x) p = false-true p
sort_is (const h) p = false-true p
sort_is (pi a b) p = false-true p
sort_is (lam a b) p = false-true p
sort_is (app f a) p = false-true p

pub pi_is : (u : Term) → is_pi u ≡ true → (a b : Term) × (u ≡ pi a b)
pi_is (pi a b) p = (a, b, refl)
pi_is (sort i) p = false-true p
pi_is (var x) p = false-true p
pi_is (const h) p = false-true p
pi_is (lam a b) p = false-true p
pi_is (app f a) p = false-true p

-- Its level is the second of its words.
pub sort_level : (e : Env) (most : ℕ) (t u : Term) (before after : List ℕ) (at end : ℕ) → at ≤ length before
    → (f : FirstReduct e is_sort t u) → f.n ≤ most → Appends before at (put u []) after end
    → Worked e is_sort most t (sort (get_or after (at + 1) 0)) × (take at after ≡ take at before)
sort_level e most t u before after at end l f q a =
    let (i, e₁) = sort_is u f.is in
    let a₁ = tr (λ (v : Term). Appends before at (put v []) after end) e₁ a in
    let w = (at_three after at (sort i) _ (at_written before after at end (sort i) l a₁)).second in
    (record { first = tr (FirstReduct e is_sort t) (e₁ ∙ ap sort (sym w)) f; within = q }, append_keeps before after at end at (put u []) (omega arith) l a)

-- One step more than allowed, if none was taken before.
pub used_up : (e : Env) (most : ℕ) (t u : Term) (m : ℕ) → 0 + m ≡ suc most → normal_steps e m t ≡ some u → Overspent e most t
used_up e most t u m p q = record { term = u; reaches = ap (λ (n : ℕ). normal_steps e n t) (let z : suc most ≡ m = omega arith in z) ∙ q }

-- There is nothing.
pub none_there : {A : Type 0} (o : Option A) → is_none o ≡ true → o ≡ none
none_there none p = refl
none_there (some x) p = false-true p

-- What reducing with a stack in two halves meets.
pub reduce_limited : (e : Env) (aim : Aim) (count most : ℕ) (heap : List ℕ) (at scratch back stack : ℕ) (t : Term) (after : List ℕ) → stack ≤ 2 * scratch + 1 → stack ≤ 2 * back + 1 → ((i : ℕ) (k : DataType) → data_at e i ≢ some k)
    → (x : ReduceError) (r : Result Reduced Limit) → IsErrAnd r (λ l. l ≡ limit_of x) → Reduces e aim count most heap at scratch back t after (Err x) → Halts e aim count most heap at stack t after r
reduce_limited e aim count most heap at scratch back stack t after p q plain UsedUp r w h = let (l, x, y) = err_from_is_err_and r w in rw (x, y) h
reduce_limited e aim count most heap at scratch back stack t after p q plain reduce_error.NoRoom r w (u, m, i, j, large) =
    let (l, x, y) = err_from_is_err_and r w in
    let o : Halts e aim count most heap at stack t after (Err NoRoom) =
    (u, m, i, j, elim large [ inl a ↦ inl (omega (arith, a)) | inr b ↦ inr (elim b [ inl v ↦ omega (arith, v, p) | inr v ↦ omega (arith, v, q) ]) ]) in
    rw (x, y) o
reduce_limited e aim count most heap at scratch back stack t after p q plain NotYet r w (i, d, is) = absurd (plain i d is)

-- The normal form where reducing stops.
pub normal_rests : (e : Env) (count most : ℕ) (heap : List ℕ) (at stack : ℕ) (t : Term) (after : List ℕ) (r : Reduced) (end : ℕ)
    → ((n : ℕ) × (r ≡ Reached n end)) ⊎ ((n : ℕ) × (r ≡ Resting n end)) → Halts e ToNormal count most heap at stack t after (Ok r) → Rests e count most heap at stack t after (Ok end)
normal_rests e count most heap at stack t after r end (inl (n, i)) h =
    let (u, f, p, q, a) = tr (λ (x : Reduced). Halts e ToNormal count most heap at stack t after (Ok x)) i h in
    (u, record { n = f.n; reaches = f.reaches; normal = none_there _ f.is }, omega (arith, p, q), a)
normal_rests e count most heap at stack t after r end (inr (n, i)) h =
    let (u, m, p, q, s, w, v, a) = tr (λ (x : Reduced). Halts e ToNormal count most heap at stack t after (Ok x)) i h in
    (u, record { n = m; reaches = s; normal = w }, omega (arith, p, q), a)

-- What keeps a type from its first sort.
pub level_limited : (e : Env) (most : ℕ) (heap : List ℕ) (at stack : ℕ) (t : Term) (after : List ℕ) (l : Limit) (r : Result ℕ Failure) → IsErrAnd r (λ f. f ≡ failure_of l)
    → Halts e ToSort 0 most heap at stack t after (Err l) → Sorts e most heap at stack t after r
level_limited e most heap at stack t after Spent r p h =
    let (f, q, w) = err_from_is_err_and r p in let (u, m, x, y) = h in rw (q, w) (used_up e most t u m x y)
level_limited e most heap at stack t after NoRoom r p h =
    let (f, q, w) = err_from_is_err_and r p in let (u, m, x, y, z) = h in rw (q, w) (let o : Overfull e most (length heap) at stack t = record { term = u; steps = m; within = omega (arith, x); reaches = y; large = z } in o)

-- The level that is read where reducing stops.
pub level_read : (e : Env) (most : ℕ) (heap : List ℕ) (at stack end : ℕ) (t : Term) (after : List ℕ) (r : Reduced) (n stop : ℕ) → r ≡ Reached n stop → Stands heap at t end
    → Halts e ToSort 0 most heap at stack t after (Ok r) → Worked e is_sort most t (sort (get_or after (at + 1) 0)) × (take at after ≡ take at heap)
level_read e most heap at stack end t after r n stop i s h =
    let (u, f, p, q, a) = tr (λ (x : Reduced). Halts e ToSort 0 most heap at stack t after (Ok x)) i h in
    sort_level e most t u heap after at stop (omega (arith, (stands_within heap at end t s).0)) f (omega (arith, p, q)) a
