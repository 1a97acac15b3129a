-- A turn down leaves less to be done.
use Rattle.std.proofs.Common.{◌≡◌, ℕ, ◌+◌, ◌<◌, ◌≤◌, List, sym, subst as tr, arith}
use Rattle.std.specs.Prelude.{Ok}
use Rattle.kernel.specs.Downs.{Enters}
use Rattle.kernel.specs.Machine.{Task}
use Rattle.kernel.specs.Turns.{Before, Turned, weight}
use Rattle.kernel.specs.declared.turn.Spot.{Spot}
use Rattle.kernel.specs.declared.turn.Turn.{Turn}
use Rattle.kernel.specs.declared.turn.Turn.TheVariants.{Down}
use Rattle.kernel.specs.declared.frames.Kind.{Kind}

pub enter_falls : {before after : List ℕ} (terms frames : ℕ) (s : Spot) (kind : Kind) (r : Turn) → Enters before after s kind r → s.at + 3 ≤ terms → weight terms frames (Ok r) < weight terms frames (Ok (Down s))
enter_falls terms frames s kind r e l = tr (λ (x : Turn). weight terms frames (Ok x) < weight terms frames (Ok (Down s))) (sym e.goes) (omega (arith, e.pushed.grows))

pub entered : {k : Task} {terms context frames₁ heap : List ℕ} {s : Spot} (r : Turn) → r ≡ Down s → Before k terms context frames₁ heap s → Turned k terms context frames₁ heap (Ok r)
entered {k} {terms} {context} {frames₁} {heap} r p h = tr (λ (x : Turn). Turned k terms context frames₁ heap (Ok x)) (sym p) h
