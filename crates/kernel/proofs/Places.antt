-- Where the walk stands in the words of the terms, and how many words its frames and the kept types take.
use Rattle.std.proofs.Common.{◌≡◌, ℕ, ◌+◌, ◌*◌, ◌≤◌, List, [], ◌∷◌, length, drop, sym, refl, ap, ◌∙◌, arith, length-append}
use Rattle.std.proofs.lemmas.List.{drop-drop}
use Rattle.terms.proofs.Nodes.{put-length}
use Rattle.terms.proofs.Places.{at_behind}
use Rattle.theory.specs.Terms.{Term, pi, size}
use Rattle.theory.specs.Environment.{Env}
use Rattle.terms.specs.Words.{put, At}
use Rattle.kernel.specs.Inference.{Zipper, z_end, z_pi, z_under_pi, z_lam, z_under_lam, z_fun, z_arg, frames, held}
use Rattle.kernel.specs.Machine.{Core, place, behind, frame_words, kept_words}

-- Behind a node stand its parts, one behind the other.
first_part : (ws : List ℕ) (p a b c : ℕ) (r : List ℕ) → drop p ws ≡ a ∷ b ∷ c ∷ r → drop (p + 3) ws ≡ r
first_part ws p a b c r q = sym (drop-drop 3 p ws) ∙ ap (drop 3) q

second_part : (ws : List ℕ) (p a b c : ℕ) (t : Term) (r : List ℕ) → drop p ws ≡ a ∷ b ∷ c ∷ put t r → drop (p + 3 + 3 * size t) ws ≡ r
second_part ws p a b c t r q = at_behind ws (p + 3) t r (record { stands = first_part ws p a b c (put t r) q })

module _ {e : Env} {most : ℕ} {g₀ : List Term} {t₀ : Term} where
  -- The term where the walk stands stands at its place.
  pub walk_at : {g : List Term} {t : Term} (ws : List ℕ) (p : ℕ) (r : List ℕ) → At ws p t₀ r → (z : Zipper e most g₀ t₀ g t) → At ws (place p z) t (behind r z)
  walk_at ws p r at z_end = at
  walk_at ws p r at (z_pi {b} z) = record { stands = first_part ws (place p z) 0 0 0 _ (walk_at ws p r at z).stands }
  walk_at ws p r at (z_under_pi {a} z h w) = record { stands = second_part ws (place p z) 0 0 0 a _ (walk_at ws p r at z).stands }
  walk_at ws p r at (z_lam z) = record { stands = first_part ws (place p z) 1 0 0 _ (walk_at ws p r at z).stands }
  walk_at ws p r at (z_under_lam {a} z h w) = record { stands = second_part ws (place p z) 1 0 0 a _ (walk_at ws p r at z).stands }
  walk_at ws p r at (z_fun z) = record { stands = first_part ws (place p z) 2 0 0 _ (walk_at ws p r at z).stands }
  walk_at ws p r at (z_arg {f} z h w) = record { stands = second_part ws (place p z) 2 0 0 f _ (walk_at ws p r at z).stands }

  -- How many words the frames and the kept types take.
  pub frames_length : {g : List Term} {t : Term} (p : ℕ) (z : Zipper e most g₀ t₀ g t) → length (frame_words p z) ≤ 7 * frames z
  frames_length p z_end = omega arith
  frames_length p (z_pi z) = omega (arith, frames_length p z)
  frames_length p (z_under_pi z h w) = omega (arith, frames_length p z)
  frames_length p (z_lam z) = omega (arith, frames_length p z)
  frames_length p (z_under_lam z h w) = omega (arith, frames_length p z)
  frames_length p (z_fun z) = omega (arith, frames_length p z)
  frames_length p (z_arg z h w) = omega (arith, frames_length p z)

  pub kept_length : {g : List Term} {t : Term} (z : Zipper e most g₀ t₀ g t) → length (kept_words z) ≡ 3 * held z
  kept_length z_end = refl
  kept_length (z_pi z) = kept_length z
  kept_length (z_under_pi z h w) = kept_length z
  kept_length (z_lam z) = kept_length z
  kept_length (z_under_lam z h w) = kept_length z
  kept_length (z_fun z) = kept_length z
  kept_length (z_arg {a} {b} z h w) = omega (arith, length-append (kept_words z) (put (pi a b) []), put-length (pi a b) [], kept_length z)

  -- What the walk stands at is of the core if the whole is.
  pub walk_core : {g : List Term} {t : Term} → Core t₀ → Zipper e most g₀ t₀ g t → Core t
  walk_core c z_end = c
  walk_core c (z_pi z) = (walk_core c z).0
  walk_core c (z_under_pi z h w) = (walk_core c z).1
  walk_core c (z_lam z) = (walk_core c z).0
  walk_core c (z_under_lam z h w) = (walk_core c z).1
  walk_core c (z_fun z) = (walk_core c z).0
  walk_core c (z_arg z h w) = (walk_core c z).1
