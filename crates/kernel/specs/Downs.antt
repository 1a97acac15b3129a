-- What one turn down promises.
use Rattle.std.specs.Prelude.{◌≡◌, ℕ, ◌+◌, List, [], ◌∷◌}
use Rattle.terms.specs.Words.{number}
use Rattle.kernel.specs.Frames.{Stacks, kind_word}
use Rattle.kernel.specs.declared.frames.Kind.{Kind}
use Rattle.kernel.specs.declared.turn.Spot.{Spot}
use Rattle.kernel.specs.declared.turn.Turn.{Turn}
use Rattle.kernel.specs.declared.turn.Turn.TheVariants.{Down}

-- A frame is pushed, and the first part comes next.
pub record Enters (before after : List ℕ) (s : Spot) (kind : Kind) (r : Turn) : Type 0 where
  pub free : ℕ
  pub pushed : Stacks before s.free (kind_word kind ∷ number (s.at + 3) []) after free
  pub goes : r ≡ Down (record s { at = s.at + 3; free = free })
