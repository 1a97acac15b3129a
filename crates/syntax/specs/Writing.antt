-- Words written behind those that stand.
use Rattle.std.specs.Prelude.{◌≡◌, ℕ, ◌+◌, ◌≤◌, List, ◌++◌, length, take, drop}
use Rattle.syntax.specs.declared.write.Writer.{Writer}

-- The buffer has room for n more words.
abbrev pub HasRoom : Writer → ℕ → Type 0
HasRoom w n = w.len + n ≤ length w.words.now

-- The words that stand are kept, new ones are written behind them, and the buffer is the same.
pub record Appends (before : Writer) (new : List ℕ) (after : Writer) : Type 0 where
  pub ends : after.len ≡ before.len + length new
  pub words : take after.len after.words.now ≡ take before.len before.words.now ++ new
  pub room : length after.words.now ≡ length before.words.now
  pub same : after.words.ghost_name ≡ before.words.ghost_name

-- New words are put before those that stand from a place on.
abbrev pub Inserts : Writer → ℕ → List ℕ → Writer → Type 0
Inserts before start new after = Appends (record before { len = start }) (new ++ drop start (take before.len before.words.now)) after
