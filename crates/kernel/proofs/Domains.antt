-- Behind a domain whose type comes to a sort: the second part of the node is next.
use Rattle.std.proofs.Common.{◌≡◌, ℕ, ◌+◌, ◌*◌, ◌^◌, ◌%◌, ◌/◌, ◌<◌, ◌≤◌, List, [], ◌∷◌, ◌++◌, length, take, drop, set, sym, refl, ap, ap₂, ◌∙◌, subst as tr, arith, length-set}
use Rattle.std.proofs.lemmas.List.{drop-drop, drop-set}
use Rattle.theory.specs.Terms.{Term, sort, size}
use Rattle.theory.specs.Typing.{is_sort}
use Rattle.terms.specs.Words.{number}
use Rattle.terms.specs.Writing.{Pushes}
use Rattle.kernel.specs.Inference.{Has, Worked, z_pi, z_lam, z_under_pi, z_under_lam, Untyped}
use Rattle.kernel.specs.Frames.{Stacks}
use Rattle.kernel.specs.Machine.{place, Task, Way, Sensible, Kept}
use Rattle.kernel.specs.Reducing.{NoSort}
use Rattle.kernel.specs.Turns.{Before}
use Rattle.kernel.proofs.Walk.{none_pi, none_under_pi, none_lam}
use Rattle.kernel.proofs.Places.{walk_at}
use Rattle.kernel.proofs.FrameViews.{FrameView, f_pi, f_lam, f_under_pi, next_words}
use Rattle.kernel.proofs.Backs.{kept_bind}

-- What stands behind a frame of three words.
pub behind_three : (ws : List ℕ) (p a b c : ℕ) (r : List ℕ) → drop p ws ≡ a ∷ b ∷ c ∷ r → drop (p + 3) ws ≡ r
behind_three ws p a b c r q = sym (drop-drop 3 p ws) ∙ ap (drop 3) q

-- A number of one word.
number_small : (x : ℕ) → x < 2 ^ 32 → number x [] ≡ x ∷ 0 ∷ []
number_small x l = ap₂ (λ (a b : ℕ). a ∷ b ∷ []) (let z : x % 4294967296 ≡ x = omega arith in z) (let z : x / 4294967296 ≡ 0 = omega arith in z)

module _ {k : Task} {c : Term} {i : ℕ} {terms context context₂ frames₁ heap heap₂ : List ℕ} {names names₂ free top at p : ℕ} where
  pub pi_sorted : {g : List Term} {t : Term} (z : Way k g t) → FrameView k.env k.most k.context k.term g t z 0 → {frames₂ : List ℕ} {free₂ : ℕ} → Kept k z terms context frames₁ heap names free top → at ≡ place k.start z + 3 * size t
      → Has k.env g t c → Worked k.env is_sort k.most c (sort i) → take top heap₂ ≡ take top heap
      → ((x : ℕ) (rest : List ℕ) → drop (free + 1) frames₁ ≡ number x rest → p ≡ x) → Pushes context names p context₂ names₂ → length context ≡ length context₂
      → i < 2 ^ 32 → Stacks frames₁ (free + 3) (1 ∷ number i []) frames₂ free₂ → length frames₁ ≡ length frames₂ → free + 3 ≤ length frames₁
      → Before k terms context₂ frames₂ heap₂ (record { at = at; names = names₂; free = free₂; top = top })
  pi_sorted y (f_pi {z}) h e has w v says q l u s m n = record {
    types = _;
    term = _;
    way = z_under_pi z has w;
    at = e;
    kept = kept_bind y (z_under_pi z has w) h v (tr (λ (x : ℕ). Pushes context names x context₂ names₂) place_is q) l (walk_at terms k.start k.rest h.stands (z_pi z))
        (s.words ∙ ap (λ (x : List ℕ). 1 ∷ x ++ drop (free + 3) frames₁) (number_small i u) ∙ ap (λ (x : List ℕ). 1 ∷ i ∷ 0 ∷ x) (behind_three frames₁ free 0 _ _ _ h.frames_at)) (omega (arith, s.grows)) m refl refl;
  }
    where
      place_is : p ≡ place k.start z + 3
      place_is = says _ _ (next_words frames₁ free 0 _ h.frames_at)

  pub lam_sorted : {g : List Term} {t : Term} (z : Way k g t) → FrameView k.env k.most k.context k.term g t z 2 → Kept k z terms context frames₁ heap names free top → at ≡ place k.start z + 3 * size t
      → Has k.env g t c → Worked k.env is_sort k.most c (sort i) → take top heap₂ ≡ take top heap
      → ((x : ℕ) (rest : List ℕ) → drop (free + 1) frames₁ ≡ number x rest → p ≡ x) → Pushes context names p context₂ names₂ → length context ≡ length context₂ → free < length frames₁
      → Before k terms context₂ (set frames₁ free 3) heap₂ (record { at = at; names = names₂; free = free; top = top })
  lam_sorted y (f_lam {z}) h e has w v says q l n = record {
    types = _;
    term = _;
    way = z_under_lam z has w;
    at = e;
    kept = kept_bind y (z_under_lam z has w) h v (tr (λ (x : ℕ). Pushes context names x context₂ names₂) place_is q) l (walk_at terms k.start k.rest h.stands (z_lam z))
        (drop-set frames₁ free 3 n ∙ ap (λ (x : List ℕ). 3 ∷ x) (next_words frames₁ free 2 _ h.frames_at)) (omega (arith, length-set frames₁ free 3)) (sym (length-set frames₁ free 3)) refl refl;
  }
    where
      place_is : p ≡ place k.start z + 3
      place_is = says _ _ (next_words frames₁ free 2 _ h.frames_at)

-- A type that comes to no sort.
module _ {k : Task} {c : Term} (s : Sensible k) (n : NoSort k.env c) where
  pub pi_unsorted : {g : List Term} {t : Term} (z : Way k g t) → FrameView k.env k.most k.context k.term g t z 0 → Has k.env g t c → Untyped k.env k.context k.term
  pi_unsorted y (f_pi {z}) h = none_pi s.wf s.ctx z h n.normal n.other

  pub lam_unsorted : {g : List Term} {t : Term} (z : Way k g t) → FrameView k.env k.most k.context k.term g t z 2 → Has k.env g t c → Untyped k.env k.context k.term
  lam_unsorted y (f_lam {z}) h = none_lam s.wf s.ctx z h n.normal n.other

  pub under_pi_unsorted : {g : List Term} {t : Term} (z : Way k g t) → FrameView k.env k.most k.context k.term g t z 1 → Has k.env g t c → Untyped k.env k.context k.term
  under_pi_unsorted y (f_under_pi {z}) h = none_under_pi s.wf s.ctx z h n.normal n.other
