-- Words written behind those that stand, and numbers on a stack that grows down.
use Rattle.std.specs.Prelude.{◌≡◌, ℕ, ◌+◌, List, ◌++◌, length, take, drop}
use Rattle.terms.specs.Words.{number}

-- The first len words of before stand, new ones are written behind them, and end is where they end then.
pub record Appends (before : List ℕ) (len : ℕ) (new : List ℕ) (after : List ℕ) (end : ℕ) : Type 0 where
  pub ends : end ≡ len + length new
  pub words : take end after ≡ take len before ++ new

-- The words from free on stand, from top on stands the number x in two words before them, and the words below top are kept.
pub record Pushes (before : List ℕ) (free : ℕ) (x : ℕ) (after : List ℕ) (top : ℕ) : Type 0 where
  pub grows : top + 2 ≡ free
  pub words : drop top after ≡ number x (drop free before)
  pub kept : take top after ≡ take top before
