-- The loop that finds the step: its state, and one lemma for each of its turns.
use Rattle.std.proofs.Common.{◌≡◌, ℕ, suc, ◌+◌, ◌-◌, ◌*◌, ◌<◌, ◌≤◌, List, [], ◌∷◌, ◌++◌, length, drop, Some, None, Option as Maybe, sym, ap, ◌∙◌, subst as tr, inl, inr, arith, length-append}
use Rattle.std.proofs.lemmas.List.{drop_at, drop_all}
use Rattle.theory.specs.Terms.{Term, size}
use Rattle.theory.specs.Environment.{Env}
use Rattle.terms.specs.Words.{put, At, Holds}
use Rattle.terms.proofs.Nodes.{size-parts}
use Rattle.reduction.specs.Store.{EnvAt}
use Rattle.reduction.specs.Spines.{Looks}
use Rattle.reduction.specs.Stepping.{frame, Findable}
use Rattle.reduction.specs.declared.spine.Look.{Look}
use Rattle.reduction.specs.declared.spine.Look.TheVariants.{Leaf, Pair, Redex, Spread, Needs}
use Rattle.terms.proofs.Nodes.{put-length}
use Rattle.reduction.proofs.Finding.{words}
use Rattle.reduction.proofs.Passing.{Pass, Next, start, next, by_normal, by_found, in_pi, in_lam, hit_at, spread, need}
use Rattle.reduction.proofs.Resuming.{few}

-- For every environment and term that stand there, the pass is in this state; and how much of the stack is in use.
abbrev pub Passes : (index store heap : List ℕ) (at place before : ℕ) (hit : Maybe ℕ) (frames : List ℕ) → Type 0
Passes index store heap at place before hit frames =
    (e : Env) (front r : List ℕ) (t : Term) → EnvAt index store e → heap ≡ front ++ put t r → length front ≡ at → Pass e heap front r t place before hit frames

pub record State (index store heap : List ℕ) (at place before : ℕ) (hit : Maybe ℕ) (stack : List ℕ) (free : ℕ) : Type 0 where
  pub low : at ≤ place
  pub bounded : free ≤ length stack
  pub used : length stack + at ≤ free + place
  pub pass : Passes index store heap at place before hit (drop free stack)

-- What waits on the stack, for the measure.
abbrev pub weight : List ℕ → ℕ
weight [] = 0
weight (a ∷ []) = 0
weight (a ∷ b ∷ []) = 0
weight (a ∷ b ∷ c ∷ []) = 0
weight (a ∷ b ∷ c ∷ d ∷ []) = 0
weight (a ∷ b ∷ c ∷ d ∷ f ∷ []) = 0
weight (a ∷ b ∷ c ∷ d ∷ f ∷ g ∷ r) = 1 + 2 * a + weight r

abbrev pub open_hit : Maybe ℕ → ℕ
open_hit None = 1
open_hit (Some c) = 0

pub starts : (index store heap stack : List ℕ) (at : ℕ) → State index store heap at at 1 None stack (length stack)
starts index store heap stack at = record {
  low = omega arith;
  bounded = omega arith;
  used = omega arith;
  pass = λ e front r t v p q. tr (Pass e heap front r t at 1 None) (sym (drop_all (length stack) stack (omega arith))) (start e heap front r t at p q);
}

-- A term comes next: it stands at the place, and there is room for counting.
next_at : (e : Env) (ws pre₀ r : List ℕ) (t : Term) (place n : ℕ) (hit : Maybe ℕ) (fs : List ℕ) (x : Next e ws pre₀ r t place n hit fs) → At ws place x.term (words x.items r)
next_at e ws pre₀ r t place n hit fs x = record { stands = ap (drop place) x.reads ∙ drop_at x.pre (put x.term (words x.items r)) place x.placed }

-- The terms to come lie within the whole.
pub bound : (e : Env) (ws pre₀ r : List ℕ) (t : Term) (at place before : ℕ) (hit : Maybe ℕ) (fs : List ℕ) → ws ≡ pre₀ ++ put t r → length pre₀ ≡ at → Pass e ws pre₀ r t place before hit fs
    → place + 3 * before ≤ at + 3 * size t
bound e ws pre₀ r t at place before hit fs p q x =
    omega (arith, few e ws r before fs x.items x.waits, ap length x.reads, length-append x.pre (words x.items r), x.placed, ap length p, length-append pre₀ (put t r), put-length t r)

pub record Bound (heap : List ℕ) (at place before stack : ℕ) : Type 0 where
  pub nodes : ℕ
  pub inside : place + 3 * before ≤ at + 3 * nodes
  pub heaped : at + 3 * nodes ≤ length heap
  pub stacked : 3 * nodes ≤ stack

pub bounds : (index store heap : List ℕ) (at place before : ℕ) (hit : Maybe ℕ) (frames : List ℕ) (stack : ℕ) → Findable index store heap at stack → Passes index store heap at place before hit frames → Bound heap at place before stack
bounds index store heap at place before hit frames stack g p =
    record {
      nodes = size g.term;
      inside = bound g.env heap g.front g.rest g.term at place before hit frames g.here g.placed (p g.env g.front g.rest g.term g.env_at g.here g.placed);
      heaped = omega (arith, ap length g.here, length-append g.front (put g.term g.rest), put-length g.term g.rest, g.placed);
      stacked = g.room;
    }

pub holds_next : (index store heap : List ℕ) (at place before : ℕ) (hit : Maybe ℕ) (frames : List ℕ) (stack : ℕ) → Findable index store heap at stack → Passes index store heap at place before hit frames → 0 < before → Holds heap place
holds_next index store heap at place before hit frames stack g p l =
    let x = next g.env heap g.front g.rest g.term place before (before - 1) hit frames (omega arith) (p g.env g.front g.rest g.term g.env_at g.here g.placed) in
    record { term = x.term; rest = words x.items g.rest; at = next_at g.env heap g.front g.rest g.term place (before - 1) hit frames x }

-- The turns with a term.
pub skips : (index store heap : List ℕ) (at place before c : ℕ) (frames : List ℕ) (end : ℕ) → 0 < before → Passes index store heap at place before (Some c) frames
    → ((t : Term) (rest : List ℕ) → At heap place t rest → end ≡ place + 3 * size t) → Passes index store heap at end (before - 1) (Some c) frames
skips index store heap at place before c frames end l p k e front r t v h q =
    let x = next e heap front r t place before (before - 1) (Some c) frames (omega arith) (p e front r t v h q) in
    tr (λ z. Pass e heap front r t z (before - 1) (Some c) frames) (sym (k x.term _ (next_at e heap front r t place (before - 1) (Some c) frames x))) (by_found e heap front r t place (before - 1) c frames x)

abbrev pub Looked : (index store heap : List ℕ) (place : ℕ) → Look → Type 0
Looked index store heap place l = (e : Env) (t : Term) (rest : List ℕ) → EnvAt index store e → At heap place t rest → Looks e place t l

pub leafs : (index store heap : List ℕ) (at place before : ℕ) (frames : List ℕ) → 0 < before → Passes index store heap at place before None frames → Looked index store heap place Leaf
    → Passes index store heap at (place + 3) (before - 1) None frames
leafs index store heap at place before frames l p k e front r t v h q =
    let x = next e heap front r t place before (before - 1) None frames (omega arith) (p e front r t v h q) in
    let y = k e x.term _ v (next_at e heap front r t place (before - 1) None frames x) in
    tr (λ z. Pass e heap front r t z (before - 1) None frames) (let z : place + 3 * size x.term ≡ place + 3 = omega (arith, y.1) in z) (by_normal e heap front r t place (before - 1) frames x y.0)

pub pairs : (index store heap : List ℕ) (at place before : ℕ) (frames : List ℕ) → 0 < before → Passes index store heap at place before None frames → Looked index store heap place Pair
    → Passes index store heap at (place + 3) (before + 1) None frames
pairs index store heap at place before frames l p k e front r t v h q =
    let x = next e heap front r t place before (before - 1) None frames (omega arith) (p e front r t v h q) in
    tr (λ z. Pass e heap front r t (place + 3) z None frames) (let z : suc (suc (before - 1)) ≡ before + 1 = omega arith in z)
    (which x (k e x.term _ v (next_at e heap front r t place (before - 1) None frames x)))
  where
    which : (x : Next e heap front r t place (before - 1) None frames) → Looks e place x.term Pair → Pass e heap front r t (place + 3) (suc (suc (before - 1))) None frames
    which x (a, b, inl is) = in_pi e heap front r t place (before - 1) frames x a b is
    which x (a, b, inr is) = in_lam e heap front r t place (before - 1) frames x a b is

pub hits : (index store heap : List ℕ) (at place before c : ℕ) (frames : List ℕ) → 0 < before → Passes index store heap at place before None frames → Looked index store heap place (Redex c)
    → Passes index store heap at place before (Some c) frames
hits index store heap at place before c frames l p k e front r t v h q =
    let x = next e heap front r t place before (before - 1) None frames (omega arith) (p e front r t v h q) in
    let (j, u, is, m, calm, s) = k e x.term _ v (next_at e heap front r t place (before - 1) None frames x) in
    tr (λ z. Pass e heap front r t place z (Some c) frames) (let z : suc (before - 1) ≡ before = omega arith in z)
    (tr (λ z. Pass e heap front r t place (suc (before - 1)) (Some z) frames) (sym is) (hit_at e heap front r t place (before - 1) frames x j u m calm s))

pub spreads : (index store heap : List ℕ) (at place before n : ℕ) (frames : List ℕ) → 0 < before → Passes index store heap at place before None frames → Looked index store heap place (Spread n)
    → Passes index store heap at (place + 3 * n) (before + n) None frames
spreads index store heap at place before n frames l p k e front r t v h q =
    let x = next e heap front r t place before (before - 1) None frames (omega arith) (p e front r t v h q) in
    let (_, is, calm) = k e x.term _ v (next_at e heap front r t place (before - 1) None frames x) in
    tr (λ z. Pass e heap front r t (place + 3 * n) z None frames) (let z : suc ((before - 1) + n) ≡ before + n = omega arith in z) (spread e heap front r t place (before - 1) frames x n (omega arith) calm)

pub needs_one : (index store heap : List ℕ) (at place before n m : ℕ) (frames : List ℕ) → 0 < before → Passes index store heap at place before None frames → Looked index store heap place (Needs n m)
    → 2 ≤ m → m ≤ n → Passes index store heap at (place + 3 * n) m None (frame 1 (place + 3 * (n - m)) (before - 1 + (n - m)) frames)
needs_one index store heap at place before n m frames l p k i j e front r t v h q =
    let x = next e heap front r t place before (before - 1) None frames (omega arith) (p e front r t v h q) in
    let (f, a, is, _, _, calm, st, nd, y, calm') = k e x.term _ v (next_at e heap front r t place (before - 1) None frames x) in
    tr (λ z. Pass e heap front r t z m None (frame 1 (place + 3 * (n - m)) (before - 1 + (n - m)) frames)) (let z : place + 3 * (n - m) + 3 + 3 * (m - 1) ≡ place + 3 * n = omega arith in z)
    (tr (λ z. Pass e heap front r t (place + 3 * (n - m) + 3 + 3 * (m - 1)) z None (frame 1 (place + 3 * (n - m)) (before - 1 + (n - m)) frames)) (let z : suc (m - 1) ≡ m = omega arith in z)
    (need e heap front r t place (before - 1) frames x (n - m) (m - 1) f a (omega arith) calm st nd y calm'))

pub needs_order : (index store heap : List ℕ) (at place before n m : ℕ) (frames : List ℕ) (stack : ℕ) → Findable index store heap at stack → 0 < before → Passes index store heap at place before None frames → Looked index store heap place (Needs n m)
    → (2 ≤ m) × (m ≤ n)
needs_order index store heap at place before n m frames stack g l p k =
    let h = holds_next index store heap at place before None frames stack g p l in
    let (f, a, is, two, le, _, _, _, _, _) = k g.env h.term h.rest g.env_at h.at in
    (two, le)

pub positive_before : {n : ℕ} → (n ≡ 0 → ⊥) → 0 < n
positive_before {n} k = omega (arith, k)

size_some : (t : Term) → 1 ≤ size t
size_some t = omega (arith, size-parts t)

pub skipped : (index store heap : List ℕ) (at place before : ℕ) (hit : Maybe ℕ) (frames : List ℕ) (stack end : ℕ) → Findable index store heap at stack → Passes index store heap at place before hit frames → 0 < before
    → ((t : Term) (rest : List ℕ) → At heap place t rest → end ≡ place + 3 * size t) → place < end
skipped index store heap at place before hit frames stack end g p l k =
    let h = holds_next index store heap at place before hit frames stack g p l in
    omega (arith, k h.term h.rest h.at, size_some h.term)

pub spread_some : (index store heap : List ℕ) (at place before n : ℕ) (frames : List ℕ) (stack : ℕ) → Findable index store heap at stack → 0 < before → Passes index store heap at place before None frames → Looked index store heap place (Spread n) → 0 < n
spread_some index store heap at place before n frames stack g l p k =
    let h = holds_next index store heap at place before None frames stack g p l in
    (k g.env h.term h.rest g.env_at h.at).0
