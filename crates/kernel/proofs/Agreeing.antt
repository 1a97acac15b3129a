-- Two terms, one above the other on the heap, while the upper one is reduced.
use Rattle.std.proofs.Common.{◌≡◌, ℕ, Bool, true, false, ◌+◌, ◌*◌, ◌<◌, ◌≤◌, ◌⊎◌, List, [], ◌++◌, length, take, drop, sym, refl, ap, ◌∙◌, subst as tr, inl, inr, arith}
use mathlib.Core.Option.{some}
use Rattle.std.specs.Prelude.{Ok, Err, Result}
use Rattle.theory.specs.Terms.{Term, size}
use Rattle.terms.specs.Words.{put, At, Holds, Decides}
use Rattle.terms.specs.Writing.{Appends}
use Rattle.terms.proofs.Appending.{append_keeps}
use Rattle.terms.proofs.Places.{words_at, at_written, written_end}
use Rattle.reduction.specs.Stepping.{Stands}
use Rattle.theory.specs.Environment.{Env}
use Rattle.theory.specs.Reduction.{normal_steps}
use Rattle.theory.proofs.NormalForms.{NormalForm}
use Rattle.kernel.specs.Resting.{Rests, Agrees, AgreesNormal, FullPair}
use Rattle.kernel.specs.declared.failure.Limit.{Limit}
use Rattle.kernel.specs.declared.failure.Limit.TheVariants.{Spent, NoRoom}
use Rattle.kernel.proofs.Reduced.{stands_within}

-- A term that stands up to an end stands at its place.
pub stands_at : (ws : List ℕ) (at end : ℕ) (t : Term) → Stands ws at t end → At ws at t (drop (at + 3 * size t) ws)
stands_at ws at end t s = words_at ws at t (omega (arith, (stands_within ws at end t s).0)) (ap (λ (n : ℕ). take n ws) (sym s.ends) ∙ s.words)

pub stands_holds : (ws : List ℕ) (at end : ℕ) (t : Term) → Stands ws at t end → Holds ws at
stands_holds ws at end t s = record { term = t; rest = drop (at + 3 * size t) ws; at = stands_at ws at end t s }

-- What is written from its end on leaves it.
pub stands_kept : (h₀ h₁ : List ℕ) (top end stop : ℕ) (c : Term) (new : List ℕ) → Stands h₀ top c end → Appends h₀ end new h₁ stop → Stands h₁ top c end × (take top h₁ ≡ take top h₀)
stands_kept h₀ h₁ top end stop c new s a =
    let w = stands_within h₀ top end c s in
    let k = append_keeps h₀ h₁ end stop top new (omega (arith, s.ends)) w.1 a in
    (record { ends = s.ends; words = append_keeps h₀ h₁ end stop end new (omega arith) w.1 a ∙ s.words ∙ ap (λ (x : List ℕ). x ++ put c []) (sym k) }, k)

-- A term is written above, and then another in its place.
pub record Pair (h₀ h₂ : List ℕ) (top end : ℕ) (c u : Term) : Type 0 where
  pub lower : Stands h₂ top c end
  pub upper : At h₂ end u (drop (end + 3 * size u) h₂)
  pub kept : take top h₂ ≡ take top h₀

pub pair : (h₀ h₁ h₂ : List ℕ) (top end last stop : ℕ) (c u : Term) (new : List ℕ) → Stands h₀ top c end → length h₀ ≡ length h₁ → Appends h₀ end new h₁ last → Appends h₁ end (put u []) h₂ stop → Pair h₀ h₂ top end c u
pair h₀ h₁ h₂ top end last stop c u new s l a b =
    let (s₁, k₁) = stands_kept h₀ h₁ top end last c new s a in
    let (s₂, k₂) = stands_kept h₁ h₂ top end stop c (put u []) s₁ b in
    record { lower = s₂; upper = rw (ap (λ (n : ℕ). n) (sym (written_end h₁ h₂ end stop u b))) (at_written h₁ h₂ end stop u (stands_within h₁ top end c s₁).1 b); kept = k₂ ∙ k₁ }

-- The two normal forms are compared.
pub normal_compares : (e : Env) (steps most : ℕ) (heap : List ℕ) (top stack : ℕ) (a c u : Term) (after : List ℕ) (b : Bool) → NormalForm e a u → take top after ≡ take top heap → Decides (c ≡ u) b
    → AgreesNormal e steps most heap top stack a c after (Ok b)
normal_compares e steps most heap top stack a c u after true n k d = (tr (NormalForm e a) (sym d) n, k)
normal_compares e steps most heap top stack a c u after false n k d = (u, n, λ r. d (sym r))

-- The term that was reduced is too large, or takes too many steps.
pub normal_limited : (e : Env) (steps most : ℕ) (heap heap₁ : List ℕ) (top end stack stack₁ : ℕ) (a c : Term) (after : List ℕ) (l : Limit) → end ≡ top + 3 * size c → length heap ≡ length heap₁ → stack ≡ stack₁
    → Rests e steps most heap₁ end stack₁ a after (Err l) → AgreesNormal e steps most heap top stack a c after (Err l)
normal_limited e steps most heap heap₁ top end stack stack₁ a c after Spent p q r h = h
normal_limited e steps most heap heap₁ top end stack stack₁ a c after NoRoom p q r (u, m, i, j, large) =
    (u, m, i, j, elim large [ inl x ↦ inl (omega (arith, x, p, q)) | inr y ↦ inr (omega (arith, y, r)) ])

-- The term on top was reduced to its normal form before.
pub agrees_by : (e : Env) (steps most : ℕ) (h₀ h₁ h₂ : List ℕ) (top stop stack stack₂ : ℕ) (a c n : Term) (r : Result Bool Limit) (f : NormalForm e c n) → 0 + f.n ≤ most → Appends h₀ top (put n []) h₁ stop → top ≤ length h₀
    → length h₀ ≡ length h₁ → stack ≡ stack₂ → AgreesNormal e steps most h₁ top stack₂ a n h₂ r → Agrees e steps most h₀ top stack a c h₂ r
agrees_by e steps most h₀ h₁ h₂ top stop stack stack₂ a c n (Ok true) f w p t l m (q, k) =
    (inr (record { term = n; left = q; right = f }), k ∙ append_keeps h₀ h₁ top stop top (put n []) (omega arith) t p)
agrees_by e steps most h₀ h₁ h₂ top stop stack stack₂ a c n (Ok false) f w p t l m (u, q, apart) = record { left_term = u; right_term = n; left = q; right = f; apart = apart }
agrees_by e steps most h₀ h₁ h₂ top stop stack stack₂ a c n (Err Spent) f w p t l m q = inr q
agrees_by e steps most h₀ h₁ h₂ top stop stack stack₂ a c n (Err NoRoom) f w p t l m (u, i, q, s, large) = record {
  left_term = u;
  left_steps = i;
  left_within = q;
  left_reaches = s;
  right_term = n;
  right_steps = f.n;
  right_within = omega (arith, w);
  right_reaches = f.reaches;
  large = elim large [ inl x ↦ inl (omega (arith, x)) | inr y ↦ inr (omega (arith, y)) ];
}

-- It was too large itself.
pub too_large : (e : Env) (steps most heap top stack : ℕ) (a c u : Term) (m : ℕ) → steps ≤ most → 0 + m ≤ most → normal_steps e m c ≡ some u → (heap < top + 6 * size u) ⊎ (stack < 6 * size u) → FullPair e steps most heap top stack a c
too_large e steps most heap top stack a c u m l w r large = record {
  left_term = a;
  left_steps = 0;
  left_within = omega arith;
  left_reaches = refl;
  right_term = u;
  right_steps = m;
  right_within = omega arith;
  right_reaches = r;
  large = elim large [ inl x ↦ inl (omega (arith, x)) | inr y ↦ inr (omega (arith, y)) ];
}

pub upper_limited : (e : Env) (steps most : ℕ) (heap : List ℕ) (top stack : ℕ) (a c : Term) (after : List ℕ) (l : Limit) → steps ≤ most
    → Rests e 0 most heap top stack c after (Err l) → Agrees e steps most heap top stack a c after (Err l)
upper_limited e steps most heap top stack a c after Spent l h = inl h
upper_limited e steps most heap top stack a c after NoRoom l (u, m, p, q, r) = too_large e steps most (length heap) top stack a c u m l p q r
