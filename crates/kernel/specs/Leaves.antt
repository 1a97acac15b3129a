-- What the functions promise that write the type of a variable, a sort or a head.
use Rattle.std.specs.Prelude.{◌≡◌, ℕ, ◌+◌, ◌*◌, ◌^◌, ◌<◌, ◌≤◌, ◌⊎◌, List, [], length, drop, Ok, Err, Result}
use Rattle.std.proofs.Math.Option.{Option, some, none}
use Rattle.std.proofs.Math.ListN.{get_elem?}
use Rattle.theory.specs.Terms.{Term, size}
use Rattle.terms.specs.Words.{put, Small}
use Rattle.terms.specs.Writing.{Appends}
use Rattle.kernel.specs.Machine.{ContextAt}
use Rattle.kernel.specs.declared.turn.Spot.{Spot}
use Rattle.kernel.specs.declared.turn.Turn.{Turn}
use Rattle.kernel.specs.declared.turn.Turn.TheVariants.{Back}
use Rattle.kernel.specs.declared.failure.Failure.{Failure}
use Rattle.kernel.specs.declared.failure.Failure.TheVariants.{Refused, Spent, NoRoom}
use Rattle.kernel.specs.Turns.{past}

-- The type is written behind the first words, or there is none, or it does not fit, or the stack is too short for it.
abbrev pub LeafSays : List ℕ → ℕ → ℕ → List ℕ → Option Term → Result ℕ Failure → Type 0
LeafSays before top stack after o (Ok end) = (k : Term) × (o ≡ some k) × Appends before top (put k []) after end
LeafSays before top stack after o (Err Refused) = o ≡ none
LeafSays before top stack after o (Err Spent) = ⊥
LeafSays before top stack after o (Err NoRoom) = (k : Term) × (o ≡ some k) × ((length before < top + 3 * size k) ⊎ (stack < size k))

-- The words hold a context whose indices can be counted.
pub record ContextFits (terms context : List ℕ) (names : ℕ) : Type 0 where
  pub types : List Term
  pub at : ContextAt terms types (drop names context)
  pub ends : names + 2 * length types ≡ length context
  pub short : length types ≤ 2 ^ 32
  pub small : (x : ℕ) (a : Term) → get_elem? types x ≡ some a → Small (2 ^ 63) a

-- The turn that follows: back with the type behind the one node at the spot.
abbrev pub turn_of : Spot → Result ℕ Failure → Result Turn Failure
turn_of s (Ok end) = Ok (Back (past s) end)
turn_of s (Err f) = Err f
