-- Behind a function whose type comes to a function type: the argument is next.
use Rattle.std.proofs.Common.{◌≡◌, ℕ, ◌+◌, ◌*◌, ◌≤◌, true, false, List, [], ◌∷◌, ◌++◌, length, ap, ◌∙◌, arith}
use mathlib.Core.Option.{some, none}
use Rattle.theory.specs.Terms.{Term, var, const, sort, pi, lam, app, size}
use Rattle.theory.specs.Reduction.{normal_step, normal_steps}
use Rattle.theory.specs.Typing.{is_pi, FirstReduct}
use Rattle.theory.proofs.Options.{false-true}
use Rattle.terms.specs.Words.{put, number}
use Rattle.terms.specs.Writing.{Appends}
use Rattle.terms.proofs.Nodes.{put-length}
use Rattle.kernel.specs.Inference.{Has, Untyped, z_arg}
use Rattle.kernel.specs.Frames.{Stacks}
use Rattle.kernel.specs.Machine.{place, Task, Way, Sensible, Kept}
use Rattle.kernel.specs.Turns.{Before}
use Rattle.kernel.proofs.Walk.{none_fun}
use Rattle.kernel.proofs.FrameViews.{FrameView, f_fun}
use Rattle.kernel.proofs.Domains.{behind_three}

-- A function type.
pub data PiView : Term → Type 0 where
  p_pi : {a b : Term} → PiView (pi a b)

pub pi_view : (u : Term) → is_pi u ≡ true → PiView u
pi_view (pi a b) p = p_pi
pi_view (sort i) p = false-true p
pi_view (var x) p = false-true p
pi_view (const h) p = false-true p
pi_view (lam a b) p = false-true p
pi_view (app f a) p = false-true p

-- The words of the argument's frame.
argument_words : {a b c d e f : ℕ} {x y : List ℕ} → a ≡ b → c ≡ d → e ≡ f → x ≡ y → ◌≡◌ {A = List ℕ} (5 ∷ number a (number c (number e x))) (5 ∷ number b (number d (number f y)))
argument_words p q r s = cc

module _ {k : Task} {c : Term} {terms context frames₁ frames₂ heap heap₂ : List ℕ} {names free free₂ top at stop steps : ℕ} where
  pub fun_reached : {g : List Term} {t u : Term} (z : Way k g t) → FrameView k.env k.most k.context k.term g t z 4 → PiView u → Kept k z terms context frames₁ heap names free top → at ≡ place k.start z + 3 * size t
      → Has k.env g t c → (f : FirstReduct k.env is_pi c u) → f.n ≤ k.most → steps ≡ f.n → Appends heap top (put u []) heap₂ stop
      → Stacks frames₁ (free + 3) (5 ∷ number at (number top (number steps []))) frames₂ free₂ → length frames₁ ≡ length frames₂ → free + 3 ≤ length frames₁
      → Before k terms context frames₂ heap₂ (record { at = at; names = names; free = free₂; top = stop })
  fun_reached y (f_fun {z}) (p_pi {a} {b}) h e has f l q w s m n = record {
    types = _;
    term = _;
    way = z_arg z has (record { first = f; within = l });
    at = e;
    kept = record {
      stands = h.stands;
      context_at = h.context_at;
      names_end = h.names_end;
      names_room = h.names_room;
      names_fit = h.names_fit;
      frames_at = s.words ∙ argument_words e h.heap_top q (behind_three frames₁ free 4 _ _ _ h.frames_at);
      frames_end = omega (arith, s.grows);
      frames_room = omega (arith, h.frames_room);
      heap_at = w.words ∙ ap (λ (x : List ℕ). x ++ put (pi a b) []) h.heap_at;
      heap_top = omega (arith, w.ends, h.heap_top, put-length (pi a b) []);
    };
  }

-- Its type comes to no function type.
pub fun_other : {k : Task} {g : List Term} {t c u : Term} (m : ℕ) → Sensible k → (z : Way k g t) → FrameView k.env k.most k.context k.term g t z 4 → Has k.env g t c
    → normal_steps k.env m c ≡ some u → normal_step k.env u ≡ none → is_pi u ≡ false → Untyped k.env k.context k.term
fun_other m s y (f_fun {z}) h r q p = none_fun s.wf s.ctx z h (record { n = m; reaches = r; normal = q }) p
