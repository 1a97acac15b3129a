-- The walk before its first turn, and after its last.
use Rattle.std.proofs.Common.{◌≡◌, ℕ, ◌*◌, ◌^◌, ◌<◌, ◌≤◌, List, length, refl, ap, subst as tr, arith, length-drop}
use Rattle.std.proofs.lemmas.List.{drop_all}
use Rattle.theory.specs.Terms.{Term}
use Rattle.reduction.specs.Stepping.{Stands}
use Rattle.kernel.specs.Inference.{Has, z_end, z_pi, z_under_pi, z_lam, z_under_lam, z_fun, z_arg, held}
use Rattle.kernel.specs.Machine.{frame_words, Task, Way}
use Rattle.kernel.specs.Turns.{Before, Behind}
use Rattle.kernel.specs.Answers.{Begins}
use Rattle.kernel.specs.declared.turn.Spot.{Spot}

pub begins_before : {k : Task} {terms context frames₁ heap : List ℕ} {at names : ℕ} → Begins k terms context frames₁ at names → length context < 2 ^ 64
    → Before k terms context frames₁ heap (record { at = at; names = names; free = length frames₁; top = 0 })
begins_before {k} {frames₁} b l = record {
  types = k.context;
  term = k.term;
  way = z_end;
  at = b.start;
  kept = record {
    stands = b.stands;
    context_at = b.context_at;
    names_end = b.names_end;
    names_room = b.names_room;
    names_fit = l;
    frames_at = drop_all (length frames₁) frames₁ (omega arith);
    frames_end = omega arith;
    frames_room = b.frames_room;
    heap_at = refl;
    heap_top = refl;
  };
}

-- Without frames the walk is at its end.
at_end : (k : Task) {g : List Term} {t c : Term} (z : Way k g t) (p : ℕ) {heap : List ℕ} {top end : ℕ} → length (frame_words p z) ≡ 0 → Has k.env g t c → Stands heap top c end → end ≤ length heap → top ≡ 3 * held z
    → (x : Term) × Has k.env k.context k.term x × Stands heap 0 x end × (end ≤ length heap)
at_end k {c} z_end p {heap} {end = end} q h s l e = (c, h, tr (λ (n : ℕ). Stands heap n c end) e s, l)
at_end k (z_pi z) p q h s l e = absurd (let x : ⊥ = omega (arith, q) in x)
at_end k (z_under_pi z _ _) p q h s l e = absurd (let x : ⊥ = omega (arith, q) in x)
at_end k (z_lam z) p q h s l e = absurd (let x : ⊥ = omega (arith, q) in x)
at_end k (z_under_lam z _ _) p q h s l e = absurd (let x : ⊥ = omega (arith, q) in x)
at_end k (z_fun z) p q h s l e = absurd (let x : ⊥ = omega (arith, q) in x)
at_end k (z_arg z _ _) p q h s l e = absurd (let x : ⊥ = omega (arith, q) in x)

pub behind_end : {k : Task} {terms context frames₁ heap : List ℕ} {s : Spot} {end : ℕ} → Behind k terms context frames₁ heap s end → length frames₁ ≤ s.free
    → (x : Term) × Has k.env k.context k.term x × Stands heap 0 x end × (end ≤ length heap)
behind_end {k} {frames₁} {s} b l = at_end k b.way k.start (omega (arith, l, ap length b.kept.frames_at, length-drop s.free frames₁)) b.has b.stands b.within b.kept.heap_top
