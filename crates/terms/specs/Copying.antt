-- What a function that writes a term promises.
use Rattle.std.specs.Prelude.{ℕ, ◌+◌, ◌*◌, ◌<◌, List, [], length, Some, None, Option, Ok, Err, Result}
use Rattle.theory.specs.Terms.{Term, size}
use Rattle.terms.specs.Words.{put}
use Rattle.terms.specs.Writing.{Appends}
use Rattle.terms.specs.declared.copy.WriteError.{WriteError}
use Rattle.terms.specs.declared.copy.WriteError.TheVariants.{NoRoom, NoStack}

-- The term v is written behind the first start words, or it does not fit.
abbrev pub Fits : List ℕ → ℕ → List ℕ → Term → Option ℕ → Type 0
Fits before start after v (Some end) = Appends before start (put v []) after end
Fits before start after v None = length before < start + 3 * size v

-- The same with a stack of so many words, fewer than the term's nodes if it does not suffice.
abbrev pub Copies : List ℕ → ℕ → List ℕ → ℕ → Term → Result ℕ WriteError → Type 0
Copies before start after stack v (Ok end) = Appends before start (put v []) after end
Copies before start after stack v (Err NoRoom) = length before < start + 3 * size v
Copies before start after stack v (Err NoStack) = stack < size v

-- New words are written behind the first start words, or they do not fit, or the stack does not suffice for them.
abbrev pub Writes : List ℕ → ℕ → List ℕ → ℕ → List ℕ → Result ℕ WriteError → Type 0
Writes before start after stack new (Ok end) = Appends before start new after end
Writes before start after stack new (Err NoRoom) = length before < start + length new
Writes before start after stack new (Err NoStack) = 3 * stack < length new
