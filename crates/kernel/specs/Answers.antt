-- The answers of inference and of checking a declaration, each with the fact that it stands for.
use Rattle.std.specs.Prelude.{◌≡◌, ℕ, ◌+◌, ◌*◌, ◌≤◌, List, length, drop, Ok, Err, Result}
use Rattle.theory.specs.Terms.{Term, size}
use Rattle.terms.specs.Words.{At}
use Rattle.reduction.specs.Stepping.{Stands}
use Rattle.theory.specs.Question.{TakesLonger, entry_size}
use Rattle.kernel.specs.Inference.{Has, Untyped, NeedsMore}
use Rattle.kernel.specs.Machine.{ContextAt, Task}
use Rattle.kernel.specs.Turns.{IsGiven}
use Rattle.kernel.specs.declared.machine.Machine.{Machine}
use Rattle.kernel.specs.declared.failure.Failure.{Failure}
use Rattle.kernel.specs.declared.failure.Failure.TheVariants.{Refused, Spent, NoRoom}

-- The term of the task stands there, with its context, and there is room for frames and names.
pub record Begins (k : Task) (terms context frames : List ℕ) (at names : ℕ) : Type 0 where
  pub start : at ≡ k.start
  pub stands : At terms k.start k.term k.rest
  pub context_at : ContextAt terms k.context (drop names context)
  pub names_end : names + 2 * length k.context ≡ length context
  pub names_room : 2 * (length k.context + size k.term) ≤ length context
  pub frames_room : 7 * size k.term ≤ length frames

-- The same in a machine.
abbrev pub IsBegun : Task → Machine → ℕ → ℕ → Type 0
IsBegun k m at names = Begins k m.terms.now m.context.now m.frames.now at names

pub record CanInfer (m : Machine) (at names : ℕ) : Type 0 where
  pub task : Task
  pub given : IsGiven task m
  pub begins : IsBegun task m at names
  pub steps : task.most ≡ m.most

-- A type, which is the inferred one and stands on the heap; no type at all; a term in question with more steps; one with more room.
abbrev pub Answers : Task → List ℕ → Result ℕ Failure → Type 0
Answers k heap (Ok end) = (c : Term) × Has k.env k.context k.term c × Stands heap 0 c end × (end ≤ length heap)
Answers k heap (Err Refused) = Untyped k.env k.context k.term
Answers k heap (Err Spent) = TakesLonger k.env k.entry k.most
Answers k heap (Err NoRoom) = NeedsMore k.env k.entry k.most (16 * entry_size k.entry + 2 * length heap)
