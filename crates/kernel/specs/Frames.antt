-- The words of kinds, and frames pushed on a stack that grows down.
use Rattle.std.specs.Prelude.{◌≡◌, ℕ, ◌+◌, List, ◌++◌, length, drop}
use Rattle.kernel.specs.declared.frames.Kind.{Kind}
use Rattle.kernel.specs.declared.frames.Kind.TheVariants.{Pi, UnderPi, Lam, UnderLam, Fun, Arg}

-- The words from free on stand, and before them new ones from top on.
pub record Stacks (before : List ℕ) (free : ℕ) (new : List ℕ) (after : List ℕ) (top : ℕ) : Type 0 where
  pub grows : top + length new ≡ free
  pub words : drop top after ≡ new ++ drop free before

-- The first word of a frame.
abbrev pub kind_word : Kind → ℕ
kind_word Pi = 0
kind_word UnderPi = 1
kind_word Lam = 2
kind_word UnderLam = 3
kind_word Fun = 4
kind_word Arg = 5
