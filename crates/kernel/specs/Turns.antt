-- What a turn of the loop of inference starts from and what it leads to.
use Rattle.std.specs.Prelude.{◌≡◌, ℕ, ◌+◌, ◌-◌, ◌*◌, ◌<◌, ◌≤◌, List, length, slice_index_or, Ok, Err, Result}
use Rattle.theory.specs.Terms.{Term, size}
use Rattle.reduction.specs.Stepping.{Stands}
use Rattle.kernel.specs.Environments.{PlainAt}
use Rattle.theory.specs.Question.{TakesLonger, entry_size}
use Rattle.kernel.specs.Inference.{Has, Untyped, NeedsMore}
use Rattle.kernel.specs.Machine.{place, Task, Way, Sensible, Kept}
use Rattle.kernel.specs.declared.turn.Spot.{Spot}
use Rattle.kernel.specs.declared.turn.Turn.{Turn}
use Rattle.kernel.specs.declared.turn.Turn.TheVariants.{Down, Back}
use Rattle.kernel.specs.declared.failure.Failure.{Failure}
use Rattle.kernel.specs.declared.failure.Failure.TheVariants.{Refused, Spent, NoRoom}
use Rattle.kernel.specs.declared.frames.Kind.{Kind}
use Rattle.kernel.specs.declared.machine.Machine.{Machine}
use Rattle.kernel.specs.Frames.{kind_word}

-- The walk stands before a term.
pub record Before (k : Task) (terms context frames heap : List ℕ) (s : Spot) : Type 0 where
  pub types : List Term
  pub term : Term
  pub way : Way k types term
  pub at : s.at ≡ place k.start way
  pub kept : Kept k way terms context frames heap s.names s.free s.top

-- The walk stands behind a term, whose type is on the heap.
pub record Behind (k : Task) (terms context frames heap : List ℕ) (s : Spot) (end : ℕ) : Type 0 where
  pub types : List Term
  pub term : Term
  pub way : Way k types term
  pub at : s.at ≡ place k.start way + 3 * size term
  pub kept : Kept k way terms context frames heap s.names s.free s.top
  pub type : Term
  pub has : Has k.env types term type
  pub stands : Stands heap s.top type end
  pub within : end ≤ length heap

-- What goes with the task and does not change: the environment in words, and a stack that is not shorter than the heap.
pub record Given (k : Task) (index store heap stack : List ℕ) : Type 0 where
  pub sensible : Sensible k
  pub stored : PlainAt index store k.env
  pub stack_room : length heap ≤ length stack

-- Behind the node at the spot; without the name and the frame of a second part.
abbrev pub past : Spot → Spot
past s = record s { at = s.at + 3 }

abbrev pub unbound : Spot → Spot
unbound s = record s { names = s.names + 2; free = s.free + 3 }

-- What a turn leads to.
abbrev pub Turned : Task → List ℕ → List ℕ → List ℕ → List ℕ → Result Turn Failure → Type 0
Turned k terms context frames heap (Ok (Down s)) = Before k terms context frames heap s
Turned k terms context frames heap (Ok (Back s end)) = Behind k terms context frames heap s end
Turned k terms context frames heap (Err Refused) = Untyped k.env k.context k.term
Turned k terms context frames heap (Err Spent) = TakesLonger k.env k.entry k.most
Turned k terms context frames heap (Err NoRoom) = NeedsMore k.env k.entry k.most (16 * entry_size k.entry + 2 * length heap)

-- The same in a machine.
abbrev pub IsGiven : Task → Machine → Type 0
IsGiven k m = Given k m.env.index.now m.env.store.now m.heap.now m.stack.now

abbrev pub IsBefore : Task → Machine → Spot → Type 0
IsBefore k m s = Before k m.terms.now m.context.now m.frames.now m.heap.now s

abbrev pub IsBehind : Task → Machine → Spot → ℕ → Type 0
IsBehind k m s end = Behind k m.terms.now m.context.now m.frames.now m.heap.now s end

-- A turn down, or back, can be made.
pub record CanGo (m : Machine) (s : Spot) : Type 0 where
  pub task : Task
  pub given : IsGiven task m
  pub before : IsBefore task m s

pub record CanReturn (m : Machine) (s : Spot) (end : ℕ) : Type 0 where
  pub task : Task
  pub given : IsGiven task m
  pub behind : IsBehind task m s end
  pub steps : task.most ≡ m.most

-- A frame of this kind stands on top.
pub record Tagged (frames : List ℕ) (free : ℕ) (kind : Kind) : Type 0 where
  pub below : free < length frames
  pub is : slice_index_or frames free 0 ≡ kind_word kind

-- What is read stays as it is, and so do the numbers of words; and what is written stays in the slices that were lent for it.
pub record Keeps (m n : Machine) : Type 0 where
  pub read : n ≡ record m { context = n.context; frames = n.frames; heap = n.heap; stack = n.stack }
  pub context : length n.context.now ≡ length m.context.now
  pub frames : length n.frames.now ≡ length m.frames.now
  pub heap : length n.heap.now ≡ length m.heap.now
  pub stack : length n.stack.now ≡ length m.stack.now
  pub context_same : n.context.ghost_name ≡ m.context.ghost_name
  pub frames_same : n.frames.ghost_name ≡ m.frames.ghost_name
  pub heap_same : n.heap.ghost_name ≡ m.heap.ghost_name
  pub stack_same : n.stack.ghost_name ≡ m.stack.ghost_name

-- What a turn down, or back, promises.
abbrev pub Goes : Machine → Spot → Machine → Result Turn Failure → Type 0
Goes m s n r = (k : Task) → IsGiven k m → IsBefore k m s → Turned k m.terms.now n.context.now n.frames.now n.heap.now r

abbrev pub Returns : Machine → Spot → ℕ → Machine → Result Turn Failure → Type 0
Returns m s end n r = (k : Task) → IsGiven k m → IsBehind k m s end → k.most ≡ m.most → Turned k m.terms.now n.context.now n.frames.now n.heap.now r

-- What is left to be done: it falls with each turn.
abbrev pub weight : ℕ → ℕ → Result Turn Failure → ℕ
weight terms frames (Ok (Down s)) = 3 * (terms - s.at) + (frames - s.free)
weight terms frames (Ok (Back s end)) = 3 * (terms - s.at) + (frames - s.free) + 5
weight terms frames (Err f) = 0

-- Less is left after a turn.
abbrev pub Falls : Machine → Turn → Result Turn Failure → Type 0
Falls m t r = weight (length m.terms.now) (length m.frames.now) r < weight (length m.terms.now) (length m.frames.now) (Ok t)
