-- Behind an argument: the kept function type, its domain and its codomain.
use Rattle.std.proofs.Common.{◌≡◌, ℕ, ◌+◌, ◌*◌, ◌≤◌, List, [], ◌++◌, length, take, drop, sym, refl, ap, ◌∙◌, subst as tr, arith, length-drop}
use Rattle.std.proofs.lemmas.List.{drop-drop, take-take, take_at}
use Rattle.theory.specs.Terms.{Term, pi, app, size}
use Rattle.theory.specs.Typing.{is_pi}
use Rattle.theory.proofs.Generation.{pi_typed}
use Rattle.theory.proofs.Validity.{valid}
use Rattle.theory.proofs.NormalSteps.{first_reduct_steps}
use Rattle.theory.proofs.Decisions.{of_worked}
use Rattle.reduction.specs.Stepping.{StaysScoped}
use Rattle.reduction.proofs.Staying.{typed_stays}
use Rattle.terms.specs.Words.{put, At, number}
use Rattle.terms.proofs.Places.{at_length, words_at, at_same}
use Rattle.terms.proofs.Subterms.{at_pi_domain, at_next}
use Rattle.kernel.specs.Inference.{Has, Worked, z_arg, held}
use Rattle.kernel.specs.Machine.{place, behind, frame_words, kept_words, Task, Way, Sensible, Kept}
use Rattle.kernel.proofs.Walk.{walk_context}
use Rattle.kernel.proofs.Places.{walk_at, kept_length}
use Rattle.kernel.proofs.Moves.{top_within}
use Rattle.kernel.proofs.FrameViews.{FrameView, f_arg, next_words}

-- The codomain stands where the domain ends.
pub codomain_at : (heap : List ℕ) (kept p : ℕ) (a b : Term) (x : List ℕ) → At heap kept (pi a b) x → ((t : Term) (rest : List ℕ) → At heap (kept + 3) t rest → p ≡ kept + 3 + 3 * size t) → At heap p b x
codomain_at heap kept p a b x at says =
    let d = at_pi_domain heap kept a b x at in
    tr (λ (n : ℕ). At heap n b x) (sym (says a (put b x) d)) (at_next heap (kept + 3) a b x d)

-- A function type has its first node within the words.
pub pi_within : (heap : List ℕ) (kept : ℕ) (a b : Term) (x : List ℕ) → At heap kept (pi a b) x → kept + 3 ≤ length heap
pi_within heap kept a b x at = omega (arith, at_length heap kept (pi a b) x at)

-- What the frame of an argument says.
pub record Applied (k : Task) {g : List Term} {t : Term} (y : Way k g t) (terms frames₁ heap : List ℕ) (free top : ℕ) : Type 0 where
  pub function : Term
  pub function_type : Term
  pub domain : Term
  pub codomain : Term
  pub way : Way k g (app function t)
  pub has : Has k.env g function function_type
  pub worked : Worked k.env is_pi k.most function_type (pi domain codomain)
  pub words : drop (free + 1) frames₁ ≡ number (place k.start y) (number (3 * held way) (number worked.first.n (frame_words k.start way)))
  pub place_is : place k.start y ≡ place k.start way + 3 + 3 * size function
  pub top_is : top ≡ 3 * held way + 3 * size (pi domain codomain)
  pub kept_at : take (3 * held way) heap ≡ kept_words way
  pub type_at : At heap (3 * held way) (pi domain codomain) (drop (3 * held way + 3 * size (pi domain codomain)) heap)
  pub argument_at : At terms (place k.start y) t (behind k.rest y)

pub applied : {k : Task} {g : List Term} {t : Term} (y : Way k g t) → FrameView k.env k.most k.context k.term g t y 5 → {terms context frames₁ heap : List ℕ} {names free top : ℕ}
    → Kept k y terms context frames₁ heap names free top → Applied k y terms frames₁ heap free top
applied {k} y (f_arg {f} {t} {k = c} {a} {b} {z} {h = has} {w}) {terms} {frames₁ = frames₁} {heap} {free} {top} h = record {
  function = f;
  function_type = c;
  domain = a;
  codomain = b;
  way = z;
  has = has;
  worked = w;
  words = next_words frames₁ free 5 _ h.frames_at;
  place_is = refl;
  top_is = omega (arith, h.heap_top);
  kept_at = below;
  type_at = words_at heap (3 * held z) (pi a b) (omega (arith, top_within y h, h.heap_top)) (ap (λ (n : ℕ). take n heap) (let x : 3 * held z + 3 * size (pi a b) ≡ top = omega (arith, h.heap_top) in x) ∙ h.heap_at ∙ ap (λ (x : List ℕ). x ++ put (pi a b) []) (sym below));
  argument_at = walk_at terms k.start k.rest h.stands (z_arg z has w);
}
  where
    below : take (3 * held z) heap ≡ kept_words z
    below = sym (take-take (3 * held z) top heap (omega (arith, h.heap_top))) ∙ ap (take (3 * held z)) h.heap_at ∙ take_at (kept_words z) (put (pi a b) []) (3 * held z) (kept_length z)

module _ {k : Task} {g : List Term} {t : Term} {y : Way k g t} {terms frames₁ heap : List ℕ} {free top : ℕ} (d : Applied k y terms frames₁ heap free top) where
  -- The numbers of the frame, and what is behind it.
  second_words : drop (free + 3) frames₁ ≡ number (3 * held d.way) (number d.worked.first.n (frame_words k.start d.way))
  second_words = ap (λ (n : ℕ). drop n frames₁) (let x : free + 3 ≡ free + 1 + 2 = omega arith in x) ∙ sym (drop-drop 2 (free + 1) frames₁) ∙ ap (drop 2) d.words

  third_words : drop (free + 5) frames₁ ≡ number d.worked.first.n (frame_words k.start d.way)
  third_words = ap (λ (n : ℕ). drop n frames₁) (let x : free + 5 ≡ free + 3 + 2 = omega arith in x) ∙ sym (drop-drop 2 (free + 3) frames₁) ∙ ap (drop 2) second_words

  pub behind_words : drop (free + 7) frames₁ ≡ frame_words k.start d.way
  behind_words = ap (λ (n : ℕ). drop n frames₁) (let x : free + 7 ≡ free + 5 + 2 = omega arith in x) ∙ sym (drop-drop 2 (free + 5) frames₁) ∙ ap (drop 2) third_words

  pub frame_seven : free + 7 ≤ length frames₁
  frame_seven = omega (arith, length-drop (free + 1) frames₁, ap length d.words)

  pub place_read : (p : ℕ) → ((x : ℕ) (rest : List ℕ) → drop (free + 1) frames₁ ≡ number x rest → p ≡ x) → p ≡ place k.start y
  place_read p says = says _ _ d.words

  pub kept_read : (p : ℕ) → ((x : ℕ) (rest : List ℕ) → drop (free + 3) frames₁ ≡ number x rest → p ≡ x) → p ≡ 3 * held d.way
  kept_read p says = says _ _ second_words

  pub steps_read : (p : ℕ) → ((x : ℕ) (rest : List ℕ) → drop (free + 5) frames₁ ≡ number x rest → p ≡ x) → p ≡ d.worked.first.n
  steps_read p says = says _ _ third_words

  -- The domain has few variables.
  pub domain_scoped : Sensible k → StaysScoped k.env (length g) d.domain
  domain_scoped s =
      let ctx = walk_context s.wf s.ctx d.way in
      let (i, p) = valid s.wf (of_worked s.wf ctx d.has.of (first_reduct_steps d.worked.first)) ctx in
      typed_stays _ _ _ _ s.wf ctx (pi_typed p).left

  -- The domain stands behind the first node of the function type, which stays where the heap changes above it.
  pub domain_at : (p : ℕ) → p ≡ 3 * held d.way → At heap (p + 3) d.domain (put d.codomain (drop (3 * held d.way + 3 * size (pi d.domain d.codomain)) heap))
  domain_at p q = rw q (at_pi_domain heap (3 * held d.way) d.domain d.codomain _ d.type_at)

  pub domain_below : (p : ℕ) → p ≡ 3 * held d.way → p + 3 + 3 * size d.domain ≤ top
  domain_below p q = omega (arith, d.top_is, q)

  pub function_at : (p : ℕ) → p ≡ 3 * held d.way → (heap₂ : List ℕ) → take top heap₂ ≡ take top heap → At heap₂ p (pi d.domain d.codomain) (drop (3 * held d.way + 3 * size (pi d.domain d.codomain)) heap₂)
  function_at p q heap₂ v = rw q (at_same heap heap₂ (3 * held d.way) (pi d.domain d.codomain) _ (rw (sym d.top_is) (sym v)) d.type_at)

  pub argument_read : (p : ℕ) → p ≡ place k.start y → At terms p t (behind k.rest y)
  argument_read p q = rw q d.argument_at
