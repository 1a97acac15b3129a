-- Lines of a text.
use Rattle.std.specs.Prelude.{ℕ, ◌+◌, cond, List, [], ◌∷◌, take, ◌==◌}

-- How many lines end in the bytes.
abbrev pub line_ends : List ℕ → ℕ
line_ends [] = 0
line_ends (c ∷ cs) = cond (c == 10) 1 0 + line_ends cs

-- The line of a place, counted from 1: one more than the lines that end before it.
abbrev pub line_of : List ℕ → ℕ → ℕ
line_of bs at = 1 + line_ends (take at bs)
