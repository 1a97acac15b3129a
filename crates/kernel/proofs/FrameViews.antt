-- A frame by its tag.
use Rattle.std.proofs.Common.{◌≡◌, ℕ, ◌+◌, ◌<◌, ◌≤◌, List, ◌∷◌, length, get_or, drop, sym, ap, ◌∙◌, subst as tr, arith, length-drop}
use Rattle.std.proofs.lemmas.List.{get_or-drop, drop-drop}
use Rattle.theory.specs.Terms.{Term, sort, pi, lam, app}
use Rattle.theory.specs.Typing.{is_sort, is_pi}
use Rattle.theory.specs.Environment.{Env}
use Rattle.kernel.specs.Inference.{Has, Worked, Zipper, z_end, z_pi, z_under_pi, z_lam, z_under_lam, z_fun, z_arg}
use Rattle.kernel.specs.Machine.{frame_words}

pub data FrameView (e : Env) (most : ℕ) (g₀ : List Term) (t₀ : Term) : (g : List Term) (t : Term) → Zipper e most g₀ t₀ g t → ℕ → Type 0 where
  f_pi : {g : List Term} {a b : Term} {z : Zipper e most g₀ t₀ g (pi a b)} → FrameView e most g₀ t₀ g a (z_pi z) 0
  f_under_pi : {g : List Term} {a b k : Term} {i : ℕ} {z : Zipper e most g₀ t₀ g (pi a b)} {h : Has e g a k} {w : Worked e is_sort most k (sort i)} → FrameView e most g₀ t₀ (a ∷ g) b (z_under_pi z h w) 1
  f_lam : {g : List Term} {a b : Term} {z : Zipper e most g₀ t₀ g (lam a b)} → FrameView e most g₀ t₀ g a (z_lam z) 2
  f_under_lam : {g : List Term} {a b k : Term} {i : ℕ} {z : Zipper e most g₀ t₀ g (lam a b)} {h : Has e g a k} {w : Worked e is_sort most k (sort i)} → FrameView e most g₀ t₀ (a ∷ g) b (z_under_lam z h w) 3
  f_fun : {g : List Term} {f t : Term} {z : Zipper e most g₀ t₀ g (app f t)} → FrameView e most g₀ t₀ g f (z_fun z) 4
  f_arg : {g : List Term} {f t k a b : Term} {z : Zipper e most g₀ t₀ g (app f t)} {h : Has e g f k} {w : Worked e is_pi most k (pi a b)} → FrameView e most g₀ t₀ g t (z_arg z h w) 5

-- What stands first, and what behind it.
pub first_word : (ws : List ℕ) (p x : ℕ) (r : List ℕ) → drop p ws ≡ x ∷ r → get_or ws p 0 ≡ x
first_word ws p x r q = ap (λ (k : ℕ). get_or ws k 0) (let z : p ≡ p + 0 = omega arith in z) ∙ sym (get_or-drop p ws 0 0) ∙ ap (λ (w : List ℕ). get_or w 0 0) q

pub next_words : (ws : List ℕ) (p x : ℕ) (r : List ℕ) → drop p ws ≡ x ∷ r → drop (p + 1) ws ≡ r
next_words ws p x r q = sym (drop-drop 1 p ws) ∙ ap (drop 1) q

-- The frame that the words say.
pub frame_view : {e : Env} {most : ℕ} {g₀ : List Term} {t₀ : Term} {g : List Term} {t : Term} (z : Zipper e most g₀ t₀ g t) (p free : ℕ) (ws : List ℕ) → drop free ws ≡ frame_words p z → free < length ws
    → FrameView e most g₀ t₀ g t z (get_or ws free 0)
frame_view z_end p free ws q l = absurd (let x : ⊥ = omega (arith, ap length q, length-drop free ws) in x)
frame_view (z_pi z) p free ws q l = tr (FrameView _ _ _ _ _ _ (z_pi z)) (sym (first_word ws free 0 _ q)) f_pi
frame_view (z_under_pi z h w) p free ws q l = tr (FrameView _ _ _ _ _ _ (z_under_pi z h w)) (sym (first_word ws free 1 _ q)) f_under_pi
frame_view (z_lam z) p free ws q l = tr (FrameView _ _ _ _ _ _ (z_lam z)) (sym (first_word ws free 2 _ q)) f_lam
frame_view (z_under_lam z h w) p free ws q l = tr (FrameView _ _ _ _ _ _ (z_under_lam z h w)) (sym (first_word ws free 3 _ q)) f_under_lam
frame_view (z_fun z) p free ws q l = tr (FrameView _ _ _ _ _ _ (z_fun z)) (sym (first_word ws free 4 _ q)) f_fun
frame_view (z_arg z h w) p free ws q l = tr (FrameView _ _ _ _ _ _ (z_arg z h w)) (sym (first_word ws free 5 _ q)) f_arg

-- There are six tags.
pub tag_bound : {e : Env} {most : ℕ} {g₀ : List Term} {t₀ : Term} {g : List Term} {t : Term} {z : Zipper e most g₀ t₀ g t} {tag : ℕ} → FrameView e most g₀ t₀ g t z tag → tag ≤ 5
tag_bound f_pi = omega arith
tag_bound f_under_pi = omega arith
tag_bound f_lam = omega arith
tag_bound f_under_lam = omega arith
tag_bound f_fun = omega arith
tag_bound f_arg = omega arith
