-- Reducing step by step in place: the state of the loop.
use Rattle.std.proofs.Common.{◌≡◌, ℕ, suc, ◌+◌, ◌-◌, ◌*◌, ◌<◌, ◌≤◌, Bool, true, false, ◌⊎◌, List, [], ◌++◌, length, take, drop, Some, Ok, Err, sym, refl, ap, ◌∙◌, subst as tr, inl, inr, arith}
use mathlib.Core.Option.{some, none}
use Rattle.theory.specs.Terms.{Term, size}
use Rattle.theory.specs.Environment.{DataType, Env, data_at}
use Rattle.theory.specs.Reduction.{normal_step, normal_steps}
use Rattle.theory.proofs.NormalForms.{Going, going_start, going_on}
use Rattle.terms.specs.Words.{put}
use Rattle.terms.specs.Writing.{Appends}
use Rattle.terms.proofs.Nodes.{put-length}
use Rattle.terms.proofs.Appending.{append_keeps}
use Rattle.reduction.specs.Store.{EnvAt}
use Rattle.reduction.specs.Stepping.{Stands, Ready, StepsTo, HasStep}
use Rattle.reduction.specs.Aims.{is_none, meets, Met, Reduces, resting, reduce_error}
use Rattle.reduction.specs.declared.reduce.Aim.{Aim}
use Rattle.reduction.specs.declared.reduce.Aim.TheVariants.{ToNormal, ToPi, ToSort, ToDomain}
use Rattle.reduction.specs.declared.reduce.Reduced.TheVariants.{Reached}
use Rattle.reduction.specs.declared.reduce.ReduceError.TheVariants.{UsedUp, NoRoom, NotYet}
use Rattle.reduction.specs.declared.step.StepError.{StepError}
use Rattle.reduction.specs.declared.step.StepError.TheVariants as stepping
use Rattle.reduction.proofs.Standing.{stands_in, stands_here, stands_front}
use Rattle.reduction.proofs.Staying.{stays_on}

-- So far t has come to a term, which stands in the heap now.
pub record Run (e : Env) (aim : Aim) (t : Term) (count steps : ℕ) (heap : List ℕ) (at stop : ℕ) : Type 0 where
  pub term : Term
  pub taken : ℕ
  pub counted : steps ≡ count + taken
  pub going : Going e (meets e aim) t taken term
  pub stands : Stands heap at term stop

pub record Running (index store first : List ℕ) (at end scratch₀ stack₀ : ℕ) (aim : Aim) (count most : ℕ) (heap : List ℕ) (stop scratch stack steps : ℕ) : Type 0 where
  pub kept : take at heap ≡ take at first
  pub same : length heap ≡ length first
  pub scratched : scratch ≡ scratch₀
  pub stacked : stack ≡ stack₀
  pub within : steps ≤ most
  pub ready : Ready index store heap at stop
  pub run : (e : Env) (t : Term) → EnvAt index store e → Stands first at t end → Run e aim t count steps heap at stop

pub run_start : (index store first : List ℕ) (at end scratch stack : ℕ) (aim : Aim) (count most : ℕ) → Ready index store first at end → count ≤ most
    → Running index store first at end scratch stack aim count most first end scratch stack count
run_start index store first at end scratch stack aim count most r l =
    record { kept = refl; same = refl; scratched = refl; stacked = refl; within = l; ready = r; run = λ e t v s. record { term = t; taken = 0; counted = omega arith; going = going_start e (meets e aim) t; stands = s } }

-- A stepped term stands.
pub stands_on : (heap heap' : List ℕ) (at stop : ℕ) (u : Term) → at ≤ length heap → Appends heap at (put u []) heap' stop → Stands heap' at u stop
stands_on heap heap' at stop u l w =
    record { ends = omega (arith, w.ends, put-length u []); words = w.words ∙ ap (λ (z : List ℕ). z ++ put u []) (sym (append_keeps heap heap' at stop at (put u []) (omega arith) l w)) }

pub ready_in : (index store heap : List ℕ) (at stop : ℕ) → Ready index store heap at stop → at ≤ length heap
ready_in index store heap at stop r = omega (arith, stands_in heap at r.term stop r.stands, r.stands.ends)

-- It is not of the aim's form, since it has a step.
pub unmet : (e : Env) (aim : Aim) (u v : Term) → Met e aim u false → normal_step e u ≡ some v → meets e aim u ≡ false
unmet e aim u v (inl p) s = ap (λ (a : Aim). meets e a u) p ∙ ap is_none s
unmet e aim u v (inr p) s = p

ready_on : (index store heap heap' : List ℕ) (at stop next : ℕ) → Ready index store heap at stop → ((e : Env) (t : Term) → EnvAt index store e → Stands heap at t stop → (u : Term) × (normal_step e t ≡ some u) × Appends heap at (put u []) heap' next)
    → Ready index store heap' at next
ready_on index store heap heap' at stop next r f =
    let (u, is, w) = f r.env r.term r.env_at r.stands in
    record {
      env = r.env;
      term = u;
      scope = r.scope;
      env_at = r.env_at;
      closed = r.closed;
      stands = stands_on heap heap' at next u (ready_in index store heap at stop r) w;
      scoped = stays_on r.env r.scope r.term u is r.scoped;
      few = r.few;
    }

pub run_on : {index store first : List ℕ} {at end scratch₀ stack₀ : ℕ} {aim : Aim} {count most : ℕ} {heap heap' : List ℕ} {stop next scratch stack scratch' stack' steps : ℕ}
    → Running index store first at end scratch₀ stack₀ aim count most heap stop scratch stack steps → steps < most
    → ((e : Env) (t : Term) → EnvAt index store e → Stands heap at t stop → Met e aim t false)
    → ((e : Env) (t : Term) → EnvAt index store e → Stands heap at t stop → (u : Term) × (normal_step e t ≡ some u) × Appends heap at (put u []) heap' next)
    → length heap' ≡ length heap → scratch' ≡ scratch → stack' ≡ stack
    → Running index store first at end scratch₀ stack₀ aim count most heap' next scratch' stack' (steps + 1)
run_on {index} {store} {first} {at} {end} {scratch₀} {stack₀} {aim} {count} {most} {heap} {heap'} {stop} {next} {scratch} {stack} {scratch'} {stack'} {steps} r l m f h x y =
    record {
      kept = front_kept ∙ r.kept;
      same = h ∙ r.same;
      scratched = x ∙ r.scratched;
      stacked = y ∙ r.stacked;
      within = omega arith;
      ready = ready_on index store heap heap' at stop next r.ready f;
      run = λ e t v s. on e t v (r.run e t v s);
    }
  where
    here : at ≤ length heap
    here = ready_in index store heap at stop r.ready

    front_kept : take at heap' ≡ take at heap
    front_kept = let (u, is, w) = f r.ready.env r.ready.term r.ready.env_at r.ready.stands in append_keeps heap heap' at next at (put u []) (omega arith) here w

    on : (e : Env) (t : Term) → EnvAt index store e → Run e aim t count steps heap at stop → Run e aim t count (steps + 1) heap' at next
    on e t v q =
        let (u, is, w) = f e q.term v q.stands in
        record { term = u; taken = suc q.taken; counted = omega (arith, q.counted); going = going_on q.going (unmet e aim q.term u (m e q.term v q.stands) is) is; stands = stands_on heap heap' at next u here w }

-- A step that there is not leaves the words.
pub normal_kept : (index store heap heap' : List ℕ) (at stop : ℕ) → Ready index store heap at stop
    → ((e : Env) (t : Term) → EnvAt index store e → Stands heap at t stop → (normal_step e t ≡ none) × Appends heap at (put t []) heap' (at + 3 * size t)) → take stop heap' ≡ take stop heap
normal_kept index store heap heap' at stop r f =
    ap (λ (k : ℕ). take k heap') r.stands.ends ∙ ((f r.env r.term r.env_at r.stands).1.words ∙ sym r.stands.words)

-- A stack of the same length.
pub shorter : (e : Env) (t : Term) (k l : ℕ) → k ≡ l → (k < 3 * size t) ⊎ ((u : Term) × (normal_step e t ≡ some u) × (k < size u)) → (l < 3 * size t) ⊎ ((u : Term) × (normal_step e t ≡ some u) × (l < size u))
shorter e t k l p x = tr (λ (n : ℕ). (n < 3 * size t) ⊎ ((u : Term) × (normal_step e t ≡ some u) × (n < size u))) p x

-- The test for the aim's form, of the term that stands there.
pub met_stands : {index store : List ℕ} (heap : List ℕ) (at stop : ℕ) (aim : Aim) (b : Bool)
    → ((e : Env) (front rest : List ℕ) (t : Term) → EnvAt index store e → heap ≡ front ++ put t rest → length front ≡ at → Met e aim t b) → (e : Env) (t : Term) → EnvAt index store e → Stands heap at t stop → Met e aim t b
met_stands heap at stop aim b f e t v s = f e (take at heap) (drop stop heap) t v (stands_here heap at t stop s) (stands_front heap at t stop s)

-- What was found out about one step more.
pub more_steps : (e : Env) (k : ℕ) (t : Term) (b : Bool) → b ≡ true → HasStep e k t (Some b) → (u : Term) × (normal_step e t ≡ some u)
more_steps e k t b p x = tr (λ (z : Bool). HasStep e k t (Some z)) p x

pub no_steps : (e : Env) (k : ℕ) (t : Term) (b : Bool) → b ≡ false → HasStep e k t (Some b) → normal_step e t ≡ none
no_steps e k t b p x = tr (λ (z : Bool). HasStep e k t (Some z)) p x

-- The answers.
module _ {index store first : List ℕ} {at end scratch₀ stack₀ : ℕ} {aim : Aim} {count most : ℕ} {heap : List ℕ} {stop scratch stack steps : ℕ}
    (r : Running index store first at end scratch₀ stack₀ aim count most heap stop scratch stack steps) where
  written : (t : Term) → Stands heap at t stop → Appends first at (put t []) heap stop
  written t s = record { ends = omega (arith, s.ends, put-length t []); words = s.words ∙ ap (λ (z : List ℕ). z ++ put t []) r.kept }

  pub run_reached : ((e : Env) (t : Term) → EnvAt index store e → Stands heap at t stop → meets e aim t ≡ true)
      → (e : Env) (t : Term) → EnvAt index store e → Stands first at t end → Reduces e aim count most first at scratch₀ stack₀ t heap (Ok (Reached steps stop))
  run_reached m e t v s =
      let q = r.run e t v s in
      (q.term, record { n = q.taken; reaches = q.going.reaches; is = m e q.term v q.stands; before = q.going.before }, q.counted, r.within, written q.term q.stands)

  pub run_short : stack < stop - at → (e : Env) (t : Term) → EnvAt index store e → Stands first at t end → Reduces e aim count most first at scratch₀ stack₀ t heap (Err NoRoom)
  run_short l e t v s =
      let q = r.run e t v s in
      (q.term, q.taken, omega (arith, q.counted, r.within), q.going.reaches, inr (inr (omega (arith, q.stands.ends, r.stacked))))

  pub run_rests : (heap' : List ℕ) → ((e : Env) (t : Term) → EnvAt index store e → Stands heap at t stop → Met e aim t false)
      → ((e : Env) (t : Term) → EnvAt index store e → Stands heap at t stop → normal_step e t ≡ none) → take stop heap' ≡ take stop heap
      → (e : Env) (t : Term) → EnvAt index store e → Stands first at t end → Reduces e aim count most first at scratch₀ stack₀ t heap' (Ok (resting aim steps stop))
  run_rests heap' m n k e t v s = go aim (r.run e t v s) (λ q. m e q.term v q.stands)
    where
      words : (u : Term) → Stands heap at u stop → Appends first at (put u []) heap' stop
      words u z = let w = written u z in record { ends = w.ends; words = k ∙ w.words }

      rest : (b : Aim) (q : Run e b t count steps heap at stop) → meets e b q.term ≡ false
          → (u : Term) × (m : ℕ) × (steps ≡ count + m) × (steps ≤ most) × (normal_steps e m t ≡ some u) × (normal_step e u ≡ none) × (meets e b u ≡ false) × Appends first at (put u []) heap' stop
      rest b q p = (q.term, q.taken, q.counted, r.within, q.going.reaches, n e q.term v q.stands, p, words q.term q.stands)

      go : (b : Aim) (q : Run e b t count steps heap at stop) → ((q : Run e b t count steps heap at stop) → Met e b q.term false) → Reduces e b count most first at scratch₀ stack₀ t heap' (Ok (resting b steps stop))
      go ToNormal q p = (q.term, record { n = q.taken; reaches = q.going.reaches; is = ap is_none (n e q.term v q.stands); before = q.going.before }, q.counted, r.within, words q.term q.stands)
      go ToPi q p = rest ToPi q (elim (p q) [ inl z ↦ absurd (pi_not z) | inr z ↦ z ])
        where
          pi_not : ToPi ≡ ToNormal → ⊥
          pi_not z = let y : ◌≡◌ {A = ℕ} 0 1 = cc in omega arith
      go ToSort q p = rest ToSort q (elim (p q) [ inl z ↦ absurd (sort_not z) | inr z ↦ z ])
        where
          sort_not : ToSort ≡ ToNormal → ⊥
          sort_not z = let y : ◌≡◌ {A = ℕ} 0 1 = cc in omega arith
      go ToDomain q p = rest ToDomain q (elim (p q) [ inl z ↦ absurd (domain_not z) | inr z ↦ z ])
        where
          domain_not : ToDomain ≡ ToNormal → ⊥
          domain_not z = let y : ◌≡◌ {A = ℕ} 0 1 = cc in omega arith

  pub run_full : steps < most → ((e : Env) (t : Term) → EnvAt index store e → Stands heap at t stop → (u : Term) × (normal_step e t ≡ some u) × ((length heap < at + 3 * size u) ⊎ (scratch < 3 * size u)))
      → (e : Env) (t : Term) → EnvAt index store e → Stands first at t end → (heap' : List ℕ) → Reduces e aim count most first at scratch₀ stack₀ t heap' (Err NoRoom)
  run_full l f e t v s heap' =
      let q = r.run e t v s in
      let (u, is, z) = f e q.term v q.stands in
      (u, suc q.taken, omega (arith, q.counted), rw q.going.reaches is, elim z [ inl a ↦ inl (omega (arith, a, r.same)) | inr b ↦ inr (inl (omega (arith, b, r.scratched))) ])

  pub run_shallow : steps < most → ((e : Env) (t : Term) → EnvAt index store e → Stands heap at t stop → (stack < 3 * size t) ⊎ ((u : Term) × (normal_step e t ≡ some u) × (stack < size u)))
      → (e : Env) (t : Term) → EnvAt index store e → Stands first at t end → (heap' : List ℕ) → Reduces e aim count most first at scratch₀ stack₀ t heap' (Err NoRoom)
  run_shallow l f e t v s heap' =
      let q = r.run e t v s in
      elim (f e q.term v q.stands) [
        | inl a ↦ (q.term, q.taken, omega (arith, q.counted, r.within), q.going.reaches, inr (inr (omega (arith, a, r.stacked))))
        | inr b ↦ (b.0, suc q.taken, omega (arith, q.counted), rw q.going.reaches b.1, inr (inr (omega (arith, b.2, r.stacked))))
      ]

  pub run_used : steps ≡ most → ((e : Env) (t : Term) → EnvAt index store e → Stands heap at t stop → (u : Term) × (normal_step e t ≡ some u))
      → (e : Env) (t : Term) → EnvAt index store e → Stands first at t end → (heap' : List ℕ) → Reduces e aim count most first at scratch₀ stack₀ t heap' (Err UsedUp)
  run_used l f e t v s heap' =
      let q = r.run e t v s in
      let (u, is) = f e q.term v q.stands in
      (u, suc q.taken, omega (arith, q.counted), rw q.going.reaches is)

  pub run_not : ((e : Env) (t : Term) → EnvAt index store e → Stands heap at t stop → (i : ℕ) × (k : DataType) × (data_at e i ≡ some k))
      → (e : Env) (t : Term) → EnvAt index store e → Stands first at t end → (heap' : List ℕ) → Reduces e aim count most first at scratch₀ stack₀ t heap' (Err NotYet)
  run_not f e t v s heap' = let q = r.run e t v s in f e q.term v q.stands

  -- A step that was not taken.
  pub run_err : steps < most → (heap' : List ℕ) (k : ℕ) (x : StepError) → k ≡ stack → ((e : Env) (t : Term) → EnvAt index store e → Stands heap at t stop → StepsTo e heap at scratch k t heap' (Err x))
      → (e : Env) (t : Term) → EnvAt index store e → Stands first at t end → Reduces e aim count most first at scratch₀ stack₀ t heap' (Err (reduce_error x))
  run_err l heap' k stepping.NoRoom p f e t v s = run_full l f e t v s heap'
  run_err l heap' k stepping.NoStack p f e t v s = run_shallow l (λ e t v s. shorter e t k stack p (f e t v s)) e t v s heap'
  run_err l heap' k stepping.NotYet p f e t v s = run_not f e t v s heap'

  -- The stack is too short to find out about one step more.
  pub run_blind : (k : ℕ) → k ≡ stack → ((e : Env) (t : Term) → EnvAt index store e → Stands heap at t stop → k < 3 * size t)
      → (e : Env) (t : Term) → EnvAt index store e → Stands first at t end → (heap' : List ℕ) → Reduces e aim count most first at scratch₀ stack₀ t heap' (Err NoRoom)
  run_blind k p f e t v s heap' =
      let q = r.run e t v s in
      (q.term, q.taken, omega (arith, q.counted, r.within), q.going.reaches, inr (inr (omega (arith, f e q.term v q.stands, r.stacked))))
