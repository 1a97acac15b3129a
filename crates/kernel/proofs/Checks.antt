-- The terms of an entry as tasks of inference, and what their answers say of the entry.
use Rattle.std.proofs.Common.{◌≡◌, ℕ, Bool, true, false, suc, ◌+◌, ◌*◌, ◌≤◌, ◌⊎◌, List, [], length, sym, refl, ap, ◌∙◌, subst as tr, inl, inr, arith}
use mathlib.Core.Option.{some}
use Rattle.std.proofs.lemmas.List.{drop_all}
use Rattle.theory.specs.Terms.{Term, sort, size, depth}
use Rattle.theory.specs.Environment.{Entry, defined, assumed, Env}
use Rattle.theory.specs.Reduction.{normal_steps}
use Rattle.theory.specs.Typing.{HasType, WfEntry, ctx_end, whole}
use Rattle.theory.proofs.Decisions.{type_yes, type_no, sort_no}
use Rattle.terms.specs.Words.{put, At}
use Rattle.terms.specs.Writing.{Appends}
use Rattle.terms.proofs.Appending.{append_keeps}
use Rattle.theory.specs.Question.{mentioned, type_of, of_body, of_type, of_assumed, TakesLonger, entry_size, entry_depth}
use Rattle.kernel.specs.Inference.{Has, Covers, NeedsMore, z_end}
use Rattle.kernel.specs.Machine.{Core, Task, Sensible}
use Rattle.kernel.specs.Reducing.{NoSort, Overspent, Overfull, Sorts}
use Rattle.kernel.specs.Resting.{Agrees, OneForm, TwoForms, FullPair}
use Rattle.kernel.specs.Turns.{Given, Keeps}
use Rattle.kernel.specs.Answers.{Answers, Begins}
use Rattle.kernel.specs.Checking.{Checkable, Fits, OfSort, Checks}
use Rattle.std.specs.Prelude.{Ok, Err, Result, IsErrAnd, ⊤}
use Rattle.std.proofs.lemmas.Result.{err_from_is_err_and}
use Rattle.kernel.specs.Environments.{PlainAt}
use Rattle.kernel.specs.Failures.{failure_of}
use Rattle.kernel.specs.declared.machine.Machine.{Machine}
use Rattle.kernel.proofs.Backs.{type_spent, type_full}
use Rattle.kernel.specs.declared.failure.Failure.{Failure}
use Rattle.kernel.specs.declared.failure.Failure.TheVariants.{Refused, Spent, NoRoom}
use Rattle.kernel.specs.declared.failure.Limit.{Limit}
use Rattle.kernel.specs.declared.failure.Limit.TheVariants as limit
use Rattle.kernel.proofs.Room.{reached_start, reached_by}
use Rattle.kernel.proofs.Tops.{no_room}

-- A term of the entry.
pub record TermOf (c : Entry) (u : Term) : Type 0 where
  pub covers : Covers c [] u
  pub shallow : depth u ≤ entry_depth c
  pub small : size u ≤ entry_size c
  pub core : Core u

pub axiom_type : {a : Term} → Core a → TermOf (assumed a) a
axiom_type p = record { covers = λ d u s. of_assumed s; shallow = omega arith; small = omega arith; core = p }

pub definition_type : {t a : Term} → Core a → TermOf (defined t a) a
definition_type {t} {a} p = record { covers = λ d u s. of_type s; shallow = omega arith; small = omega arith; core = p }

pub definition_body : {t a : Term} → Core t → TermOf (defined t a) t
definition_body {t} {a} p = record { covers = λ d u s. of_body s; shallow = omega arith; small = omega arith; core = p }

-- Its type is to be inferred in the empty context.
abbrev pub task : Env → Entry → ℕ → Term → ℕ → List ℕ → Task
task e c most u p r = record { env = e; entry = c; most = most; context = []; term = u; start = p; rest = r }

module _ {e : Env} {c : Entry} {u : Term} {index store context frames₁ heap stack : List ℕ} (t : TermOf c u) (f : Checkable e c index store context frames₁ heap stack) where
  pub task_sensible : (most p : ℕ) (r : List ℕ) → Sensible (task e c most u p r)
  task_sensible most p r = record { wf = f.wf; ctx = ctx_end; covers = t.covers; shallow = t.shallow; small = t.small; core = t.core; few = omega (arith, t.small, f.few) }

  pub task_given : (most p : ℕ) (r : List ℕ) → Given (task e c most u p r) index store heap stack
  task_given most p r = record { sensible = task_sensible most p r; stored = f.stored; stack_room = f.stack_room }

  pub task_begins : (most p : ℕ) (r : List ℕ) {terms : List ℕ} → At terms p u r → Begins (task e c most u p r) terms context frames₁ p (length context)
  task_begins most p r a = record {
    start = refl;
    stands = a;
    context_at = drop_all (length context) context (omega arith);
    names_end = omega arith;
    names_room = omega (arith, f.names_room, t.small);
    frames_room = omega (arith, f.frames_room, t.small);
  }

-- The words may change, where there are as many.
pub checkable_later : {e : Env} {c : Entry} {index store context context₂ frames₁ frames₂ heap heap₂ stack stack₂ : List ℕ} → Checkable e c index store context frames₁ heap stack
    → length context ≡ length context₂ → length frames₁ ≡ length frames₂ → length heap ≡ length heap₂ → length stack ≡ length stack₂ → Checkable e c index store context₂ frames₂ heap₂ stack₂
checkable_later f p q r s = record {
  wf = f.wf;
  stored = f.stored;
  core = f.core;
  few = f.few;
  names_room = omega (arith, f.names_room, p);
  frames_room = omega (arith, f.frames_room, q);
  stack_room = omega (arith, f.stack_room, r, s);
}

-- Another machine that reads the same.
module _ {m n : Machine} (p : Keeps m n) where
  pub kept_stored : {e : Env} → PlainAt m.env.index.now m.env.store.now e → PlainAt n.env.index.now n.env.store.now e
  kept_stored {e} s = tr (λ (x : Machine). PlainAt x.env.index.now x.env.store.now e) (sym p.read) s

  pub kept_term : {at : ℕ} {a : Term} {r : List ℕ} → At m.terms.now at a r → At n.terms.now at a r
  kept_term {at} {a} {r} h = tr (λ (x : Machine). At x.terms.now at a r) (sym p.read) h

  pub kept_most : n.most ≡ m.most
  kept_most = ap (λ (x : Machine). x.most) p.read

  pub kept_fits : {e : Env} {c : Entry} → Fits e c m → Fits e c n
  kept_fits {e} {c} f =
      let g : Checkable e c m.env.index.now m.env.store.now n.context.now n.frames.now n.heap.now n.stack.now = checkable_later f (sym p.context) (sym p.frames) (sym p.heap) (sym p.stack) in
      tr (λ (x : Machine). Checkable e c x.env.index.now x.env.store.now n.context.now n.frames.now n.heap.now n.stack.now) (sym p.read) g

-- A term whose type comes to no sort.
pub not_sorted : {k : Task} {x : Term} → Sensible k → Has k.env k.context k.term x → NoSort k.env x → ((i : ℕ) × HasType k.env k.context k.term (sort i)) → ⊥
not_sorted s h n (i, r) = sort_no s.wf s.ctx h.of n.normal n.other r

-- Or to no end.
pub level_failed : {k : Task} {x : Term} (most : ℕ) (heap after : List ℕ) (heap₂ stack : ℕ) → Sensible k → Has k.env k.context k.term x → k.most ≡ most → length heap ≡ heap₂ → length heap ≤ stack
    → (f : Failure) (r : Result ⊤ Failure) → IsErrAnd r (λ d. d ≡ f) → Sorts k.env most heap 0 stack x after (Err f) → OfSort k heap₂ r
level_failed {k} most heap after heap₂ stack s h e l m Refused r w o = let (d, p, q) = err_from_is_err_and r w in rw (p, q) (not_sorted {k = k} s h o)
level_failed {k} {x} most heap after heap₂ stack s h e l m Spent r w o =
    let (d, p, q) = err_from_is_err_and r w in rw (p, q) (type_spent {k = k} z_end s h (tr (λ (n : ℕ). Overspent k.env n x) (sym e) o))
level_failed {k} {x} most heap after heap₂ stack s h e l m NoRoom r w o =
    let (d, p, q) = err_from_is_err_and r w in
    rw (p, q) (type_full {k = k} z_end (length heap) heap₂ 0 stack s h refl l m (tr (λ (n : ℕ). Overfull k.env n (length heap) 0 stack x) (sym e) o))

-- The answer about an axiom's type is the one about the axiom.
pub axiom_checks : (e : Env) (a : Term) (most heap p : ℕ) (r : List ℕ) (o : Result ⊤ Failure) → OfSort (task e (assumed a) most a p r) heap o → Checks e (assumed a) most heap o
axiom_checks e a most heap p r (Ok done) h = h
axiom_checks e a most heap p r (Err Refused) h = h
axiom_checks e a most heap p r (Err Spent) h = h
axiom_checks e a most heap p r (Err NoRoom) h = h

-- What was compared after copying the second type.
pub agrees_copied : (e : Env) (most : ℕ) (h₀ h₁ h₂ : List ℕ) (top end stack stack₂ : ℕ) (b a : Term) (o : Result Bool Limit) → top ≤ length h₀ → Appends h₀ top (put a []) h₁ end → length h₀ ≡ length h₁ → stack ≡ stack₂
    → Agrees e 0 most h₁ top stack₂ b a h₂ o → Agrees e 0 most h₀ top stack b a h₂ o
agrees_copied e most h₀ h₁ h₂ top end stack stack₂ b a (Ok true) l w p q (s, k) = (s, k ∙ append_keeps h₀ h₁ top end top (put a []) (omega arith) l w)
agrees_copied e most h₀ h₁ h₂ top end stack stack₂ b a (Ok false) l w p q h = h
agrees_copied e most h₀ h₁ h₂ top end stack stack₂ b a (Err limit.Spent) l w p q h = h
agrees_copied e most h₀ h₁ h₂ top end stack stack₂ b a (Err limit.NoRoom) l w p q h = record {
  left_term = h.left_term;
  left_steps = h.left_steps;
  left_within = h.left_within;
  left_reaches = h.left_reaches;
  right_term = h.right_term;
  right_steps = h.right_steps;
  right_within = h.right_within;
  right_reaches = h.right_reaches;
  large = elim h.large [ inl x ↦ inl (omega (arith, x, p)) | inr y ↦ inr (omega (arith, y, q)) ];
}

-- The body is of type b, which is compared with the type a.
module _ {e : Env} {t a b : Term} {i : ℕ} {index store context frames₁ heap stack : List ℕ} (f : Checkable e (defined t a) index store context frames₁ heap stack) (s : HasType e [] a (sort i)) (h : Has e [] t b) where
  pub body_holds : (b ≡ a) ⊎ OneForm e b a → WfEntry e (defined t a)
  body_holds (inl p) = (i, s, tr (HasType e [] t) p h.of)
  body_holds (inr o) = (i, s, type_yes f.wf ctx_end h.of s o.left o.right)

  pub body_differs : TwoForms e b a → WfEntry e (defined t a) → ⊥
  body_differs o (j, r, q) = type_no f.wf ctx_end h.of o.left o.right o.apart q

  pub body_spent : (most : ℕ) → ((u : Term) × (m : ℕ) × (0 + m ≡ suc most) × (normal_steps e m a ≡ some u)) ⊎ ((u : Term) × (m : ℕ) × (0 + m ≡ suc most) × (normal_steps e m b ≡ some u)) → TakesLonger e (defined t a) most
  body_spent most (inl (u, m, p, r)) = (a, u, mentioned (of_type whole), ap (λ (n : ℕ). normal_steps e n a) (let z : suc most ≡ m = omega (arith, p) in z) ∙ r)
  body_spent most (inr (u, m, p, r)) = (b, u, type_of (of_body whole) h.infers, ap (λ (n : ℕ). normal_steps e n b) (let z : suc most ≡ m = omega (arith, p) in z) ∙ r)

  pub body_full : (most heap₁ heap₂ top stack₁ : ℕ) → heap₁ ≡ heap₂ → heap₁ ≤ stack₁ → top ≡ 3 * size b → FullPair e 0 most heap₁ top stack₁ b a → NeedsMore e (defined t a) most (16 * entry_size (defined t a) + 2 * heap₂)
  body_full most heap₁ heap₂ top stack₁ p l q o =
      let inferred = reached_start {most = most} (type_of (of_body whole) h.infers) in
      let left = reached_by {n = o.left_steps} (type_of (of_body whole) h.infers) o.left_reaches (omega (arith, o.left_within)) in
      let right = reached_by {n = o.right_steps} (mentioned (of_type whole)) o.right_reaches o.right_within in
      no_room {k = task e (defined t a) most t 0 []} z_end heap₂ (task_sensible (definition_body f.core.0) f most 0 []) inferred left right
      (elim o.large [ inl x ↦ omega (arith, x, p, q) | inr y ↦ omega (arith, y, p, l) ])

  pub body_limited : (most most₁ : ℕ) (heap after : List ℕ) (heap₂ top stack₁ : ℕ) → most₁ ≡ most → length heap ≡ heap₂ → length heap ≤ stack₁ → top ≡ 3 * size b
      → (l : Limit) (r : Result ⊤ Failure) → IsErrAnd r (λ d. d ≡ failure_of l) → Agrees e 0 most₁ heap top stack₁ b a after (Err l) → Checks e (defined t a) most heap₂ r
  body_limited most most₁ heap after heap₂ top stack₁ z p l q limit.Spent r w o =
      let (d, x, y) = err_from_is_err_and r w in rw (x, y) (body_spent most (tr (λ (n : ℕ). Agrees e 0 n heap top stack₁ b a after (Err limit.Spent)) z o))
  body_limited most most₁ heap after heap₂ top stack₁ z p l q limit.NoRoom r w o =
      let (d, x, y) = err_from_is_err_and r w in rw (x, y) (body_full most (length heap) heap₂ top stack₁ p l q (tr (λ (n : ℕ). FullPair e 0 n (length heap) top stack₁ b a) z o))

-- The body has no type, or the type is of no sort.
pub body_failed : (e : Env) (t a : Term) (p : ℕ) (y : List ℕ) (most : ℕ) (heap : List ℕ) (f : Failure) (r : Result ⊤ Failure) → IsErrAnd r (λ d. d ≡ f) → Answers (task e (defined t a) most t p y) heap (Err f) → Checks e (defined t a) most (length heap) r
body_failed e t a p y most heap Refused r w o = let (d, x, z) = err_from_is_err_and r w in rw (x, z) (λ (i, s, q). o a q)
body_failed e t a p y most heap Spent r w o = let (d, x, z) = err_from_is_err_and r w in rw (x, z) o
body_failed e t a p y most heap NoRoom r w o = let (d, x, z) = err_from_is_err_and r w in rw (x, z) o

pub type_failed : (e : Env) (t a : Term) (p : ℕ) (y : List ℕ) (most heap : ℕ) (f : Failure) (r : Result ⊤ Failure) → IsErrAnd r (λ d. d ≡ f) → OfSort (task e (defined t a) most a p y) heap (Err f) → Checks e (defined t a) most heap r
type_failed e t a p y most heap Refused r w o = let (d, x, z) = err_from_is_err_and r w in rw (x, z) (λ (i, s, q). o (i, s))
type_failed e t a p y most heap Spent r w o = let (d, x, z) = err_from_is_err_and r w in rw (x, z) o
type_failed e t a p y most heap NoRoom r w o = let (d, x, z) = err_from_is_err_and r w in rw (x, z) o
