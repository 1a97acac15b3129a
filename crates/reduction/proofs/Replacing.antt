-- A redex replaced by what it contracts to, and what stands behind it moved along.
use Rattle.std.proofs.Common.{◌≡◌, ℕ, ◌+◌, ◌-◌, ◌*◌, ◌^◌, ◌<◌, ◌≤◌, ◌⊎◌, List, [], ◌++◌, length, take, drop, Err, sym, refl, ap, ◌∙◌, ap₂, inl, inr, append_assoc, arith, length-append, length-drop, length-take}
use Rattle.std.proofs.lemmas.List.{length-take-le, drop-take, drop_at, take_at}
use Rattle.theory.specs.Terms.{Term, size}
use mathlib.Core.Option.{some}
use Rattle.theory.specs.Environment.{Env}
use Rattle.theory.specs.Reduction.{normal_step}
use Rattle.terms.specs.Words.{put, At, Small}
use Rattle.terms.specs.Writing.{Appends}
use Rattle.terms.proofs.Nodes.{put_append, put-length, scoped_small}
use Rattle.terms.proofs.Appending.{append_as}
use Rattle.reduction.specs.Stepping.{Stands, Ready, StepsTo, RedexAt, Makes, Contractible, Findable}
use Rattle.reduction.specs.declared.step.StepError.{StepError}
use Rattle.reduction.specs.declared.step.StepError.TheVariants.{NoRoom, NoStack, NotYet}
use Rattle.reduction.proofs.Standing.{stands_in, stands_here, stands_front}
use Rattle.reduction.proofs.Staying.{stays_now}
use Rattle.reduction.proofs.Within.{small_inside}

-- The number of words of what stands then.
pub new_length : (heap scratch : List ℕ) (p end made : ℕ) → end ≤ length heap → made ≤ length scratch → length (take made scratch ++ drop p (take end heap)) ≡ made + (end - p)
new_length heap scratch p end made l m =
    omega (arith, length-append (take made scratch) (drop p (take end heap)), length-take-le made scratch m, length-drop p (take end heap), length-take-le end heap l)

-- Both copies in a row.
pub replaced : (heap heap' scratch scratch' : List ℕ) (at p end made stop new : ℕ)
    → Appends scratch made (drop p (take end heap)) scratch' stop → Appends heap at (drop 0 (take stop scratch')) heap' new
    → Appends heap at (take made scratch ++ drop p (take end heap)) heap' new
replaced heap heap' scratch scratch' at p end made stop new x y = append_as heap heap' at new _ _ x.words y

-- The words of the term alone.
pub slice_is : (heap : List ℕ) (at : ℕ) (t : Term) (end : ℕ) → Stands heap at t end → take (end - at) (drop at heap) ≡ put t []
slice_is heap at t end s =
    ap (λ (k : ℕ). take k (drop at heap)) (let z : end - at ≡ 3 * size t = omega (arith, s.ends) in z)
    ∙ (sym (drop-take at (3 * size t) heap) ∙ (ap (λ (k : ℕ). drop at (take k heap)) (sym s.ends) ∙ (ap (drop at) s.words ∙ drop_at (take at heap) (put t []) at (stands_front heap at t end s))))

pub slice_findable : (index store heap : List ℕ) (at end stack : ℕ) → Ready index store heap at end → end - at ≤ stack → Findable index store (take (end - at) (drop at heap)) 0 stack
slice_findable index store heap at end stack r l =
    record {
      env = r.env;
      term = r.term;
      front = [];
      rest = [];
      env_at = r.env_at;
      here = slice_is heap at r.term end r.stands;
      placed = refl;
      room = omega (arith, r.stands.ends);
    }

-- The redex in the words of the term alone.
pub redex_there : (e : Env) (ws xs : List ℕ) (c : ℕ) → (x : RedexAt e ws [] c xs) → At ws c x.redex x.rest
redex_there e ws xs c x = record { stands = ap (drop c) x.here ∙ drop_at x.before (put x.redex x.rest) c x.placed }

pub redex_small : (e : Env) (ws xs : List ℕ) (c : ℕ) (t : Term) (b : ℕ) → ws ≡ put t [] → (x : RedexAt e ws [] c xs) → Small b t → Small b x.redex
redex_small e ws xs c t b is x s =
    small_inside b (size t - (size x.redex + x.nodes)) t x.redex x.before x.rest
    (omega (arith, ap length is, ap length x.here, length-append x.before (put x.redex x.rest), put-length x.redex x.rest, put-length t [], x.inner)) (sym is ∙ x.here) s

pub slice_contractible : (index store heap : List ℕ) (at end c : ℕ) (xs : List ℕ) → length heap < 2 ^ 64 → (r : Ready index store heap at end) → RedexAt r.env (take (end - at) (drop at heap)) [] c xs
    → Contractible index store (take (end - at) (drop at heap)) c
slice_contractible index store heap at end c xs l r x =
    record {
      env = r.env;
      term = x.redex;
      result = x.result;
      rest = x.rest;
      env_at = r.env_at;
      here = redex_there r.env _ xs c x;
      steps = x.steps;
      small = redex_small r.env _ xs c r.term (2 ^ 63) (slice_is heap at r.term end r.stands) x
          (scoped_small r.term r.scope (2 ^ 63) (stays_now r.env r.scope r.term r.scoped) (omega (arith, r.few, r.stands.ends, stands_in heap at r.term end r.stands)));
    }

-- The redex in the heap.
pub heap_redex : (e : Env) (heap : List ℕ) (at : ℕ) (t : Term) (end c : ℕ) (xs : List ℕ) → Stands heap at t end → (x : RedexAt e (take (end - at) (drop at heap)) [] c xs)
    → heap ≡ (take at heap ++ x.before) ++ put x.redex (x.rest ++ drop end heap)
heap_redex e heap at t end c xs s x =
    stands_here heap at t end s
    ∙ (ap (λ (w : List ℕ). take at heap ++ w) (put_append t [] (drop end heap) ∙ (ap (λ (w : List ℕ). w ++ drop end heap) (sym (slice_is heap at t end s) ∙ x.here)
    ∙ (append_assoc x.before (put x.redex x.rest) (drop end heap) ∙ ap (λ (w : List ℕ). x.before ++ w) (sym (put_append x.redex x.rest (drop end heap))))))
    ∙ sym (append_assoc (take at heap) x.before _))

pub front_length : (e : Env) (heap : List ℕ) (at : ℕ) (t : Term) (end c : ℕ) (xs : List ℕ) → Stands heap at t end → (x : RedexAt e (take (end - at) (drop at heap)) [] c xs)
    → length (take at heap ++ x.before) ≡ at + c
front_length e heap at t end c xs s x = omega (arith, length-append (take at heap) x.before, stands_front heap at t end s, x.placed)

pub heap_at : (e : Env) (heap : List ℕ) (at : ℕ) (t : Term) (end c : ℕ) (xs : List ℕ) → Stands heap at t end → (x : RedexAt e (take (end - at) (drop at heap)) [] c xs)
    → At heap (at + c) x.redex (x.rest ++ drop end heap)
heap_at e heap at t end c xs s x =
    record { stands = ap (drop (at + c)) (heap_redex e heap at t end c xs s x) ∙ drop_at (take at heap ++ x.before) _ (at + c) (front_length e heap at t end c xs s x) }

-- Where it ends.
pub redex_ends : (e : Env) (heap : List ℕ) (at : ℕ) (t : Term) (end c : ℕ) (xs : List ℕ) → Stands heap at t end → (x : RedexAt e (take (end - at) (drop at heap)) [] c xs)
    → at + c + 3 * size x.redex + length x.rest ≡ end
redex_ends e heap at t end c xs s x =
    omega (arith, s.ends, ap length (sym (slice_is heap at t end s) ∙ x.here), put-length t [], length-append x.before (put x.redex x.rest), put-length x.redex x.rest, x.placed)

-- What stands behind it, up to the term's end.
pub behind_redex : (e : Env) (heap : List ℕ) (at : ℕ) (t : Term) (end c : ℕ) (xs : List ℕ) → Stands heap at t end → (x : RedexAt e (take (end - at) (drop at heap)) [] c xs)
    → drop (at + c + 3 * size x.redex) (take end heap) ≡ x.rest
behind_redex e heap at t end c xs s x =
    ap (drop (at + c + 3 * size x.redex)) (s.words ∙ (ap (λ (w : List ℕ). take at heap ++ w) (sym (slice_is heap at t end s) ∙ (x.here ∙ ap (λ (w : List ℕ). x.before ++ w) (put_append x.redex [] x.rest)))
    ∙ (sym (append_assoc (take at heap) x.before _) ∙ sym (append_assoc (take at heap ++ x.before) (put x.redex []) x.rest))))
    ∙ drop_at ((take at heap ++ x.before) ++ put x.redex []) x.rest _
    (omega (arith, length-append (take at heap ++ x.before) (put x.redex []), front_length e heap at t end c xs s x, put-length x.redex []))

pub before_redex : (e : Env) (heap : List ℕ) (at : ℕ) (t : Term) (end c : ℕ) (xs : List ℕ) → Stands heap at t end → (x : RedexAt e (take (end - at) (drop at heap)) [] c xs)
    → take (at + c) heap ≡ take at heap ++ x.before
before_redex e heap at t end c xs s x =
    ap (take (at + c)) (heap_redex e heap at t end c xs s x) ∙ take_at (take at heap ++ x.before) _ (at + c) (front_length e heap at t end c xs s x)

-- The words that are written from the redex on, and their number against that of the stepped term.
pub new_words : (e : Env) (heap scratch scratch' : List ℕ) (at : ℕ) (t u : Term) (end c made : ℕ) → Stands heap at t end → (x : RedexAt e (take (end - at) (drop at heap)) [] c (put u []))
    → Appends scratch 0 (put x.result []) scratch' made → take made scratch' ++ drop (at + c + 3 * size x.redex) (take end heap) ≡ put x.result x.rest
new_words e heap scratch scratch' at t u end c made s x w = ap₂ ◌++◌ w.words (behind_redex e heap at t end c (put u []) s x) ∙ sym (put_append x.result [] x.rest)

pub result_size : (e : Env) (ws : List ℕ) (u : Term) (c : ℕ) → (x : RedexAt e ws [] c (put u [])) → c + (3 * size x.result + length x.rest) ≡ 3 * size u
result_size e ws u c x = omega (arith, ap length x.gives, put-length u [], length-append x.before (put x.result x.rest), put-length x.result x.rest, x.placed)

pub stepped_words : (e : Env) (heap heap' scratch scratch' : List ℕ) (at : ℕ) (t u : Term) (end c made new : ℕ) → Stands heap at t end → (x : RedexAt e (take (end - at) (drop at heap)) [] c (put u []))
    → Appends scratch 0 (put x.result []) scratch' made
    → Appends heap (at + c) (take made scratch' ++ drop (at + c + 3 * size x.redex) (take end heap)) heap' new → Appends heap at (put u []) heap' new
stepped_words e heap heap' scratch scratch' at t u end c made new s x w y =
    let words = new_words e heap scratch scratch' at t u end c made s x w in
    record {
      ends = omega (arith, y.ends, ap length words, put-length x.result x.rest, result_size e _ u c x, put-length u []);
      words = y.words ∙ (ap₂ ◌++◌ (before_redex e heap at t end c (put u []) s x) words ∙ (append_assoc (take at heap) x.before (put x.result x.rest) ∙ ap (λ (w : List ℕ). take at heap ++ w) (sym x.gives)));
    }

pub too_long : (e : Env) (heap scratch scratch' : List ℕ) (at : ℕ) (t u : Term) (end c made k : ℕ) → Stands heap at t end → (x : RedexAt e (take (end - at) (drop at heap)) [] c (put u []))
    → Appends scratch 0 (put x.result []) scratch' made → k ≡ length scratch
    → (length heap < at + c + length (take made scratch' ++ drop (at + c + 3 * size x.redex) (take end heap))) ⊎ (k < length (take made scratch' ++ drop (at + c + 3 * size x.redex) (take end heap)))
    → (length heap < at + 3 * size u) ⊎ (length scratch < 3 * size u)
too_long e heap scratch scratch' at t u end c made k s x w q y =
    let n = ap length (new_words e heap scratch scratch' at t u end c made s x w) ∙ put-length x.result x.rest in
    let z = result_size e _ u c x in
    elim y [ inl a ↦ inl (omega (arith, a, n, z)) | inr b ↦ inr (omega (arith, b, n, z, q)) ]

-- What the redex contracts to was not written.
pub unmade : (e : Env) (ws heap scratch out heap' : List ℕ) (at : ℕ) (t u : Term) (c n m : ℕ) (y : StepError) → normal_step e t ≡ some u → (x : RedexAt e ws [] c (put u [])) → n ≡ m
    → Makes e scratch out n x.result (Err y) → StepsTo e heap at (length scratch) m t heap' (Err y)
unmade e ws heap scratch out heap' at t u c n m NoRoom is x q w = (u, is, inr (omega (arith, w, result_size e ws u c x)))
unmade e ws heap scratch out heap' at t u c n m NoStack is x q w = inr (u, is, omega (arith, w, result_size e ws u c x))
unmade e ws heap scratch out heap' at t u c n m NotYet is x q w = w

pub behind-length : (heap : List ℕ) (p end : ℕ) → end ≤ length heap → length (drop p (take end heap)) ≡ end - p
behind-length heap p end l = omega (arith, length-drop p (take end heap), length-take-le end heap l)

-- A term that has no step stands as it stood.
pub unstepped : (heap : List ℕ) (at : ℕ) (t : Term) (end : ℕ) → Stands heap at t end → Appends heap at (put t []) heap (at + 3 * size t)
unstepped heap at t end s = record { ends = omega (arith, put-length t []); words = ap (λ (k : ℕ). take k heap) (sym s.ends) ∙ s.words }

pub made_within : (scratch scratch' : List ℕ) (v : Term) (made : ℕ) → Appends scratch 0 (put v []) scratch' made → made ≤ length scratch'
made_within scratch scratch' v made w = omega (arith, w.ends, ap length w.words, length-take made scratch', length-append (take 0 scratch) (put v []), put-length v [])
