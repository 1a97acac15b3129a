-- Behind a second part: the frame and the name are taken away, and the node has its type.
use Rattle.std.proofs.Common.{◌≡◌, ℕ, ◌+◌, ◌*◌, ◌^◌, ◌<◌, ◌≤◌, max, List, [], ◌∷◌, length, get_or, take, drop, sym, refl, ap, ◌∙◌, subst as tr, arith}
use Rattle.std.proofs.lemmas.List.{drop-drop}
use Rattle.theory.specs.Terms.{Term, sort, pi, size}
use Rattle.theory.specs.Typing.{is_sort}
use Rattle.terms.specs.Words.{put, At, Holds, number}
use Rattle.terms.specs.Writing.{Appends}
use Rattle.terms.proofs.Appending.{append_keeps}
use Rattle.kernel.specs.Inference.{Has, Worked, z_lam, held, NeedsMore}
use Rattle.theory.specs.Question.{entry_size}
use Rattle.kernel.specs.Machine.{place, behind, frame_words, kept_words, Task, Way, Sensible, Kept}
use Rattle.kernel.specs.Turns.{Behind}
use Rattle.kernel.proofs.Walk.{walk_context, pi_up, lam_up}
use Rattle.kernel.proofs.FrameViews.{FrameView, f_under_pi, f_under_lam, first_word, next_words}
use Rattle.kernel.proofs.Domains.{behind_three}
use Rattle.kernel.proofs.Tops.{appended_stands, appended_within, no_room}
use Rattle.kernel.proofs.Room.{questioned, reached_start}
use Rattle.kernel.proofs.Places.{walk_at}

-- One name and one frame less.
pub kept_unbind : {k : Task} {g : List Term} {t u a : Term} (y : Way k (a ∷ g) u) (z : Way k g t) {terms context frames₁ heap heap₂ : List ℕ} {names free top : ℕ}
    → Kept k y terms context frames₁ heap names free top → take top heap₂ ≡ take top heap → drop (free + 3) frames₁ ≡ frame_words k.start z → free + 3 ≤ length frames₁ → kept_words y ≡ kept_words z → held y ≡ held z
    → Kept k z terms context frames₁ heap₂ (names + 2) (free + 3) top
kept_unbind {g} y z {terms} {context} {names} h v f n w d = record {
  stands = h.stands;
  context_at = let (p, r, c, e, _, more) = h.context_at in rw (sym (drop-drop 2 names context) ∙ ap (drop 2) e) more;
  names_end = omega (arith, h.names_end);
  names_room = h.names_room;
  names_fit = h.names_fit;
  frames_at = f;
  frames_end = n;
  frames_room = h.frames_room;
  heap_at = v ∙ h.heap_at ∙ w;
  heap_top = h.heap_top ∙ ap (λ (x : ℕ). 3 * x) d;
}

module _ {k : Task} {c : Term} {terms context frames₁ heap heap₁ heap₂ : List ℕ} {names free top at end : ℕ} (s : Sensible k) where
  pub under_pi_sorted : {g : List Term} {t : Term} (z : Way k g t) → FrameView k.env k.most k.context k.term g t z 1 → Kept k z terms context frames₁ heap names free top → at ≡ place k.start z + 3 * size t
      → Has k.env g t c → {j l : ℕ} → Worked k.env is_sort k.most c (sort j) → take top heap₁ ≡ take top heap → top ≤ length heap₁ → l ≡ max (get_or frames₁ (free + 1) 0) j
      → Appends heap₁ top (put (sort l) []) heap₂ end → free + 3 ≤ length frames₁
      → Behind k terms context frames₁ heap₂ (record { at = at; names = names + 2; free = free + 3; top = top }) end
  under_pi_sorted y (f_under_pi {i} {z} {h = has₁} {w = w₁}) h e has {j} {l} w v t m a n = record {
    types = _;
    term = _;
    way = z;
    at = omega (arith, e);
    kept = kept_unbind y z h (append_keeps heap₁ heap₂ top end top _ (omega arith) t a ∙ v) (behind_three frames₁ free 1 _ _ _ h.frames_at) n refl refl;
    type = sort l;
    has = tr (Has k.env _ _) (ap sort (sym level_is)) (pi_up s.wf (walk_context s.wf s.ctx z) has₁ w₁ has w);
    stands = appended_stands heap₁ heap₂ top end (sort l) t a;
    within = appended_within heap₁ heap₂ top end (sort l) t a;
  }
    where
      level_is : l ≡ max i j
      level_is = m ∙ ap (λ (x : ℕ). max x j) (first_word frames₁ (free + 1) i _ (next_words frames₁ free 1 _ h.frames_at))

-- There is a name to be taken away.
pub name_under_pi : {k : Task} {g : List Term} {t : Term} (z : Way k g t) → FrameView k.env k.most k.context k.term g t z 1 → {terms context frames₁ heap : List ℕ} {names free top : ℕ}
    → Kept k z terms context frames₁ heap names free top → names + 2 < 2 ^ 64
name_under_pi y f_under_pi h = omega (arith, h.names_end, h.names_fit)

pub name_under_lam : {k : Task} {g : List Term} {t : Term} (z : Way k g t) → FrameView k.env k.most k.context k.term g t z 3 → {terms context frames₁ heap : List ℕ} {names free top : ℕ}
    → Kept k z terms context frames₁ heap names free top → names + 2 < 2 ^ 64
name_under_lam y f_under_lam h = omega (arith, h.names_end, h.names_fit)

-- Behind the body of a function: its type is written before that of the body.
module _ {k : Task} {c : Term} {terms context frames₁ heap heap₂ : List ℕ} {names free top at end : ℕ} (s : Sensible k) where
  pub under_lam_typed : {g : List Term} {t : Term} (z : Way k g t) → FrameView k.env k.most k.context k.term g t z 3 → Kept k z terms context frames₁ heap names free top → at ≡ place k.start z + 3 * size t
      → Has k.env g t c → {p : ℕ} → ((x : ℕ) (rest : List ℕ) → drop (free + 1) frames₁ ≡ number x rest → p ≡ x) → top ≤ length heap
      → ((a : Term) (rest : List ℕ) → At terms p a rest → Appends heap top (put (pi a c) []) heap₂ end) → free + 3 ≤ length frames₁
      → Behind k terms context frames₁ heap₂ (record { at = at; names = names + 2; free = free + 3; top = top }) end
  under_lam_typed y (f_under_lam {a} {z} {h = has₁} {w = w₁}) h e has says t written n = record {
    types = _;
    term = _;
    way = z;
    at = omega (arith, e);
    kept = kept_unbind y z h (append_keeps heap heap₂ top end top _ (omega arith) t put_is) (behind_three frames₁ free 3 _ _ _ h.frames_at) n refl refl;
    type = pi a c;
    has = lam_up s.wf (walk_context s.wf s.ctx z) has₁ w₁ has;
    stands = appended_stands heap heap₂ top end (pi a c) t put_is;
    within = appended_within heap heap₂ top end (pi a c) t put_is;
  }
    where
      put_is : Appends heap top (put (pi a c) []) heap₂ end
      put_is = written a (behind k.rest (z_lam z)) (tr (λ (x : ℕ). At terms x a (behind k.rest (z_lam z))) (sym (says _ _ (next_words frames₁ free 3 _ h.frames_at))) (walk_at terms k.start k.rest h.stands (z_lam z)))

pub under_lam_full : {k : Task} {c : Term} {terms context frames₁ heap : List ℕ} {names free top p : ℕ} {g : List Term} {t : Term} (heap₃ : ℕ) → Sensible k → (z : Way k g t)
    → FrameView k.env k.most k.context k.term g t z 3 → Kept k z terms context frames₁ heap names free top
    → Has k.env g t c → ((x : ℕ) (rest : List ℕ) → drop (free + 1) frames₁ ≡ number x rest → p ≡ x) → length heap ≡ heap₃
    → ((a : Term) (rest : List ℕ) → At terms p a rest → length heap < top + 3 * size (pi a c))
    → NeedsMore k.env k.entry k.most (16 * entry_size k.entry + 2 * heap₃)
under_lam_full {k} {terms} {frames₁} {free} heap₃ s y (f_under_lam {a} {z} {h = has₁} {w = w₁}) h has says m large =
    let r = reached_start {most = k.most} (questioned s.covers z (lam_up s.wf (walk_context s.wf s.ctx z) has₁ w₁ has)) in
    let at = tr (λ (x : ℕ). At terms x a (behind k.rest (z_lam z))) (sym (says _ _ (next_words frames₁ free 3 _ h.frames_at))) (walk_at terms k.start k.rest h.stands (z_lam z)) in
    no_room z heap₃ s r r r (omega (arith, h.heap_top, large a _ at))

-- The domain stands where the frame says.
pub under_lam_domain : {k : Task} {terms context frames₁ heap : List ℕ} {names free top p : ℕ} {g : List Term} {t : Term} (z : Way k g t)
    → FrameView k.env k.most k.context k.term g t z 3 → Kept k z terms context frames₁ heap names free top → ((x : ℕ) (rest : List ℕ) → drop (free + 1) frames₁ ≡ number x rest → p ≡ x) → Holds terms p
under_lam_domain {k} {terms} {frames₁} {free} y (f_under_lam {a} {z}) h says =
    record {
      term = a;
      rest = behind k.rest (z_lam z);
      at = tr (λ (x : ℕ). At terms x a (behind k.rest (z_lam z))) (sym (says _ _ (next_words frames₁ free 3 _ h.frames_at))) (walk_at terms k.start k.rest h.stands (z_lam z));
    }
