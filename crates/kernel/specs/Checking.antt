-- What checking a declaration promises.
use Rattle.std.specs.Prelude.{ℕ, ◌+◌, ◌*◌, ◌^◌, ◌≤◌, List, [], length, Ok, Err, Result, ⊤}
use Rattle.theory.specs.Terms.{Term, sort}
use Rattle.theory.specs.Environment.{Entry, defined, assumed, inductive, Env}
use Rattle.theory.specs.Typing.{HasType, WfEntry, WfEnv}
use Rattle.terms.specs.Words.{At}
use Rattle.reduction.specs.Stepping.{ClosedEnv, StaysScoped, Stands}
use Rattle.kernel.specs.Environments.{PlainAt}
use Rattle.theory.specs.Question.{TakesLonger, entry_size}
use Rattle.kernel.specs.Inference.{NeedsMore}
use Rattle.kernel.specs.Machine.{Core, Task}
use Rattle.kernel.specs.declared.machine.Machine.{Machine}
use Rattle.kernel.specs.declared.failure.Failure.{Failure}
use Rattle.kernel.specs.declared.failure.Failure.TheVariants.{Refused, Spent, NoRoom}

-- The terms of the entry are of the core.
abbrev pub CoreEntry : Entry → Type 0
CoreEntry (defined t a) = Core t × Core a
CoreEntry (assumed a) = Core a
CoreEntry (inductive k) = ⊥

-- The words hold a well-formed environment, and there is room for the names and frames of the entry's terms.
pub record Checkable (e : Env) (c : Entry) (index store context frames heap stack : List ℕ) : Type 0 where
  pub wf : WfEnv e
  pub stored : PlainAt index store e
  pub core : CoreEntry c
  pub few : entry_size c ≤ 2 ^ 32
  pub names_room : 2 * entry_size c ≤ length context
  pub frames_room : 7 * entry_size c ≤ length frames
  pub stack_room : length heap ≤ length stack

-- The same in a machine.
abbrev pub Fits : Env → Entry → Machine → Type 0
Fits e c m = Checkable e c m.env.index.now m.env.store.now m.context.now m.frames.now m.heap.now m.stack.now

-- An axiom's type stands there; a definition's type and body do.
pub record AxiomAt (m : Machine) (type_at : ℕ) : Type 0 where
  pub env : Env
  pub type : Term
  pub rest : List ℕ
  pub stands : At m.terms.now type_at type rest
  pub fits : Fits env (assumed type) m

pub record DefinitionAt (m : Machine) (type_at body_at : ℕ) : Type 0 where
  pub env : Env
  pub type : Term
  pub body : Term
  pub type_rest : List ℕ
  pub body_rest : List ℕ
  pub type_stands : At m.terms.now type_at type type_rest
  pub body_stands : At m.terms.now body_at body body_rest
  pub fits : Fits env (defined body type) m

-- And the type is of a sort.
pub record BodyAt (m : Machine) (type_at body_at : ℕ) : Type 0 where
  pub definition : DefinitionAt m type_at body_at
  pub level : ℕ
  pub sorted : HasType definition.env [] definition.type (sort level)

-- A closed type stands at the start of the heap, another one among the terms.
pub record TwoTypes (m : Machine) (at top : ℕ) : Type 0 where
  pub env : Env
  pub env_at : PlainAt m.env.index.now m.env.store.now env
  pub closed : ClosedEnv env
  pub left : Term
  pub right : Term
  pub rest : List ℕ
  pub left_at : Stands m.heap.now 0 left top
  pub right_at : At m.terms.now at right rest
  pub left_scoped : StaysScoped env 0 left
  pub right_scoped : StaysScoped env 0 right

-- Is the term of the task of a sort?
abbrev pub OfSort : Task → ℕ → Result ⊤ Failure → Type 0
OfSort k heap (Ok done) = (i : ℕ) × HasType k.env k.context k.term (sort i)
OfSort k heap (Err Refused) = ((i : ℕ) × HasType k.env k.context k.term (sort i)) → ⊥
OfSort k heap (Err Spent) = TakesLonger k.env k.entry k.most
OfSort k heap (Err NoRoom) = NeedsMore k.env k.entry k.most (16 * entry_size k.entry + 2 * heap)

-- The entry may be declared; it may not; a term in question takes more steps than allowed; or more room than a heap of so many words gives.
abbrev pub Checks : Env → Entry → ℕ → ℕ → Result ⊤ Failure → Type 0
Checks e c most heap (Ok done) = WfEntry e c
Checks e c most heap (Err Refused) = WfEntry e c → ⊥
Checks e c most heap (Err Spent) = TakesLonger e c most
Checks e c most heap (Err NoRoom) = NeedsMore e c most (16 * entry_size c + 2 * heap)
