-- What the walk keeps is bounded by a term in question: so where something does not fit, there is one as large as the answer says.
use Rattle.std.proofs.Common.{◌≡◌, ℕ, suc, ◌+◌, ◌*◌, ◌<◌, ◌≤◌, Bool, leb, List, refl, mul-le-mul_right, suc-mul, add-mul, one-mul, arith, leb-false, leb-true}
use mathlib.Core.Option.{some}
use Rattle.theory.specs.Terms.{Term, pi, app, size, depth}
use Rattle.theory.specs.Environment.{Entry, Env}
use Rattle.theory.specs.Reduction.{normal_steps}
use Rattle.theory.specs.Typing.{whole, app_left}
use Rattle.theory.proofs.Options.{cases_bool}
use Rattle.theory.specs.Question.{InQuestion, type_of, TakesMore, entry_size, entry_depth, env_size}
use Rattle.kernel.specs.Inference.{Has, Worked, Zipper, z_end, z_pi, z_under_pi, z_lam, z_under_lam, z_fun, z_arg, args, held, Covers, Reached, NeedsMore}
use Rattle.kernel.proofs.Walk.{subterm_trans, walk_part, args_bound}

-- A term in question is reached by no steps, and what it reduces to by some.
pub reached_start : {e : Env} {c : Entry} {most : ℕ} {t : Term} → InQuestion e c t → Reached e c most t
reached_start {t} q = record { start = t; steps = 0; asked = q; within = omega arith; reaches = refl }

pub reached_by : {e : Env} {c : Entry} {most n : ℕ} {t u : Term} → InQuestion e c t → normal_steps e n t ≡ some u → n ≤ most → Reached e c most u
reached_by {n} {t} q r l = record { start = t; steps = n; asked = q; within = l; reaches = r }

pub worked_reached : {e : Env} {c : Entry} {most : ℕ} {p : Term → Bool} {k u : Term} → InQuestion e c k → Worked e p most k u → Reached e c most u
worked_reached q w = reached_by q w.first.reaches w.within

-- The larger of two.
pub record Both (e : Env) (c : Entry) (most n m : ℕ) : Type 0 where
  pub term : Term
  pub reached : Reached e c most term
  pub left : n ≤ size term
  pub right : m ≤ size term

pub both : {e : Env} {c : Entry} {most : ℕ} {u v : Term} → Reached e c most u → Reached e c most v → Both e c most (size u) (size v)
both {u} {v} r s =
    cases_bool (leb (size u) (size v))
    (λ l. record { term = v; reached = s; left = leb-true (size u) (size v) l; right = omega arith })
    (λ l. record { term = u; reached = r; left = omega arith; right = omega (arith, leb-false (size u) (size v) l) })

-- One term in question is at least as large as each function type that is kept, and as a given one.
pub record Largest (e : Env) (c : Entry) (most n h least : ℕ) : Type 0 where
  pub term : Term
  pub reached : Reached e c most term
  pub keeps : h ≤ n * size term
  pub above : least ≤ size term

largest_more : {e : Env} {c : Entry} {most n h least : ℕ} (m s : ℕ) → m ≤ least → s ≤ least → Largest e c most n h least → Largest e c most (suc n) (h + s) m
largest_more {n} m s l k r = record {
  term = r.term;
  reached = r.reached;
  keeps = omega (arith, r.keeps, r.above, suc-mul n (size r.term));
  above = omega (arith, r.above);
}

module _ {e : Env} {c : Entry} {most : ℕ} {g₀ : List Term} {t₀ : Term} (asked : Covers c g₀ t₀) where
  -- The type of where the walk stands is in question, and so is the type of a function that it passed.
  pub questioned : {g : List Term} {t k : Term} → Zipper e most g₀ t₀ g t → Has e g t k → InQuestion e c k
  questioned z h = type_of (asked _ _ (walk_part z)) h.infers

  pub function_questioned : {g : List Term} {f t k : Term} → Zipper e most g₀ t₀ g (app f t) → Has e g f k → InQuestion e c k
  function_questioned z h = type_of (asked _ _ (subterm_trans (walk_part z) (app_left whole))) h.infers

  pub largest : {g : List Term} {t : Term} (z : Zipper e most g₀ t₀ g t) {u : Term} → Reached e c most u → Largest e c most (args z) (held z) (size u)
  largest z_end {u} r = record { term = u; reached = r; keeps = omega arith; above = omega arith }
  largest (z_pi z) r = largest z r
  largest (z_under_pi z h w) r = largest z r
  largest (z_lam z) r = largest z r
  largest (z_under_lam z h w) r = largest z r
  largest (z_fun z) r = largest z r
  largest (z_arg {a} {b} z h w) {u} r =
      let p = both r (worked_reached (function_questioned z h) w) in
      largest_more (size u) (size (pi a b)) p.left p.right (largest z p.reached)

  -- What does not fit, with the function types that are kept and three terms in question beside them, is as large as the answer says.
  pub room : {g : List Term} {t : Term} (z : Zipper e most g₀ t₀ g t) {x y v : Term} (w : ℕ) → depth t₀ ≤ entry_depth c
      → Reached e c most x → Reached e c most y → Reached e c most v
      → w < 48 * (4 + entry_size c) + (6 * held z + 40 * (size x + (size y + size v))) → NeedsMore e c most w
  room z {x} {y} {v} w deep r s q l =
      let p = both r s in
      let p₂ = both p.reached q in
      let b = largest z p₂.reached in
      let m = size b.term in
      let a : args z * m ≤ entry_depth c * m = mul-le-mul_right m (let i : args z ≤ entry_depth c = omega (arith, args_bound z) in i) in
      record { term = b.term; reached = b.reached; large = omega (arith, b.keeps, b.above, p.left, p.right, p₂.left, p₂.right, add-mul 1 (entry_depth c) m, one-mul m) }

-- From the words of a part of the workspace to all that were lent.
pub takes_more : {e : Env} {c : Entry} {most w : ℕ} (n all : ℕ) → NeedsMore e c most w → all ≤ 65536 + (16 * n + (64 * env_size e + (16 * (4 + entry_size c) + w))) → TakesMore e c most n all
takes_more n all r l = (r.reached.start, r.term, r.reached.steps, r.reached.asked, r.reached.within, r.reached.reaches, omega (arith, r.large))
