-- What one normal-order step in place promises.
use Rattle.std.specs.Prelude.{◌≡◌, ℕ, ◌+◌, ◌*◌, ◌^◌, ◌<◌, ◌≤◌, Bool, true, false, cond, ◌==◌, ◌⊎◌, List, [], ◌++◌, length, take, drop, Some, None, Option as Maybe, Ok, Err, Result}
use Rattle.std.proofs.Math.Option.{some, none}
use Rattle.std.proofs.Math.ListN.{get_elem?}
use Rattle.theory.specs.Terms.{h_def, h_along, Term, lam, app, size}
use Rattle.theory.specs.Environment.{DataType, Entry, Env, data_at}
use Rattle.theory.specs.Reduction.{contract, delta, normal_step, normal_steps}
use Rattle.theory.proofs.Closed.{Scoped, ClosedEntry}
use Rattle.terms.specs.Words.{put, puts, number, At, Small}
use Rattle.terms.specs.Writing.{Appends}
use Rattle.reduction.specs.Store.{EnvAt}
use Rattle.reduction.specs.Spines.{top_step, head_term, head_of}
use Rattle.reduction.specs.declared.find.Kind.{Kind}
use Rattle.reduction.specs.declared.find.Kind.TheVariants.{Find, Last}
use Rattle.reduction.specs.declared.find.Frame.{Frame}
use Rattle.terms.specs.declared.copy.WriteError.{WriteError}
use Rattle.terms.specs.declared.copy.WriteError.TheVariants as writing
use Rattle.reduction.specs.declared.step.StepError.{StepError}
use Rattle.reduction.specs.declared.step.StepError.TheVariants.{NoRoom, NoStack, NotYet}

-- The term t stands from at to end.
pub record Stands (ws : List ℕ) (at : ℕ) (t : Term) (end : ℕ) : Type 0 where
  pub ends : end ≡ at + 3 * size t
  pub words : take end ws ≡ take at ws ++ put t []

-- The entries are closed.
pub record ClosedEnv (e : Env) : Type 0 where
  pub closed : (i : ℕ) (d : Entry) → get_elem? e i ≡ some d → ClosedEntry d

-- The term and all that it reduces to in normal order have at most n free variables.
pub record StaysScoped (e : Env) (n : ℕ) (t : Term) : Type 0 where
  pub scoped : (m : ℕ) (u : Term) → normal_steps e m t ≡ some u → Scoped n u

-- The table and the store hold an environment, and from at to end stands a term whose free variables are not too many to be counted.
pub record Ready (index store heap : List ℕ) (at end : ℕ) : Type 0 where
  pub env : Env
  pub term : Term
  pub scope : ℕ
  pub env_at : EnvAt index store env
  pub closed : ClosedEnv env
  pub stands : Stands heap at term end
  pub scoped : StaysScoped env scope term
  pub few : scope ≤ 2 ^ 61

-- The step: there is none; the term stands stepped; the heap or the scratch words are too few for the stepped term; the stack is too short for
-- one of the two; or it is a recursor's, which is not coded yet: then the environment has a data type.
abbrev pub StepsTo : Env → List ℕ → ℕ → ℕ → ℕ → Term → List ℕ → Result (Maybe ℕ) StepError → Type 0
StepsTo e heap at scratch stack t after (Ok None) = (normal_step e t ≡ none) × Appends heap at (put t []) after (at + 3 * size t)
StepsTo e heap at scratch stack t after (Ok (Some end)) = (u : Term) × (normal_step e t ≡ some u) × Appends heap at (put u []) after end
StepsTo e heap at scratch stack t after (Err NoRoom) = (u : Term) × (normal_step e t ≡ some u) × ((length heap < at + 3 * size u) ⊎ (scratch < 3 * size u))
StepsTo e heap at scratch stack t after (Err NoStack) = (stack < 3 * size t) ⊎ ((u : Term) × (normal_step e t ≡ some u) × (stack < size u))
StepsTo e heap at scratch stack t after (Err NotYet) = (i : ℕ) × (k : DataType) × (data_at e i ≡ some k)

-- Is there a step? None: the stack is too short to find out.
abbrev pub HasStep : Env → ℕ → Term → Maybe Bool → Type 0
HasStep e stack t (Some true) = (u : Term) × (normal_step e t ≡ some u)
HasStep e stack t (Some false) = normal_step e t ≡ none
HasStep e stack t None = stack < 3 * size t

-- At place c of the words, before the last words end, stands a redex, and after are the words after its step.
pub record RedexAt (e : Env) (ws end : List ℕ) (c : ℕ) (after : List ℕ) : Type 0 where
  pub before : List ℕ
  pub rest : List ℕ
  pub redex : Term
  pub result : Term
  pub placed : length before ≡ c
  pub here : ws ≡ before ++ put redex rest
  pub steps : top_step e redex ≡ some result
  pub gives : after ≡ before ++ put result rest
  pub nodes : ℕ
  pub inner : length rest ≡ 3 * nodes + length end

-- The place of the redex that the normal-order step of t contracts; before stand the words pre, behind it rest.
abbrev pub FindsStep : Env → List ℕ → List ℕ → Term → List ℕ → Maybe ℕ → Type 0
FindsStep e ws pre t rest None = normal_step e t ≡ none
FindsStep e ws pre t rest (Some c) = (u : Term) × (normal_step e t ≡ some u) × RedexAt e ws rest c (pre ++ put u rest)

-- The number for what a frame remembers, and what a number says.
abbrev pub mark_of : Kind → ℕ
mark_of Find = 0
mark_of Last = 1

abbrev pub kind_of : ℕ → Kind
kind_of m = cond (m == 0) Find Last

-- A frame of the pass that finds the step: the number for what it remembers, its place, and behind how many terms the next frame comes.
abbrev pub frame : ℕ → ℕ → ℕ → List ℕ → List ℕ
frame m c n fs = number m (number c (number n fs))

pub record FramePushed (before : List ℕ) (free m c n : ℕ) (after : List ℕ) (top : ℕ) : Type 0 where
  pub grows : top + 6 ≡ free
  pub words : drop top after ≡ frame m c n (drop free before)

pub record IsFrame (f : Frame) (m c n : ℕ) : Type 0 where
  pub kind : f.kind ≡ kind_of m
  pub place : f.place ≡ c
  pub behind : f.behind ≡ n

-- The table and the store hold an environment, at a place of the heap stands a term, and the stack is long enough for it.
pub record Findable (index store heap : List ℕ) (at stack : ℕ) : Type 0 where
  pub env : Env
  pub term : Term
  pub front : List ℕ
  pub rest : List ℕ
  pub env_at : EnvAt index store env
  pub here : heap ≡ front ++ put term rest
  pub placed : length front ≡ at
  pub room : 3 * size term ≤ stack

-- A function on an argument, whose indices are small, stands at a place.
pub record BetaAt (ws : List ℕ) (at : ℕ) : Type 0 where
  pub domain : Term
  pub body : Term
  pub argument : Term
  pub rest : List ℕ
  pub here : At ws at (app (lam domain body) argument) rest
  pub small : Small (2 ^ 63) argument

-- A number is a definition's.
pub record DeltaAt (index store : List ℕ) (number : ℕ) : Type 0 where
  pub env : Env
  pub result : Term
  pub env_at : EnvAt index store env
  pub unfolds : delta env (h_def number) ≡ some result

-- A row of at least so many terms stands at a place.
pub record RowAt (ws : List ℕ) (at count : ℕ) : Type 0 where
  pub terms : List Term
  pub rest : List ℕ
  pub here : drop at ws ≡ puts terms rest
  pub enough : count ≤ length terms

-- What a redex contracts to is written into other words; or it is a recursor's.
abbrev pub Makes : Env → List ℕ → List ℕ → ℕ → Term → Result ℕ StepError → Type 0
Makes e before after stack v (Ok end) = Appends before 0 (put v []) after end
Makes e before after stack v (Err NoRoom) = length before < 3 * size v
Makes e before after stack v (Err NoStack) = stack < size v
Makes e before after stack v (Err NotYet) = (i : ℕ) × (k : DataType) × (data_at e i ≡ some k)

-- Why there is no step, where a term was not written.
abbrev pub step_error : WriteError → StepError
step_error writing.NoRoom = NoRoom
step_error writing.NoStack = NoStack

-- A redex with small indices stands at a place.
pub record Contractible (index store ws : List ℕ) (at : ℕ) : Type 0 where
  pub env : Env
  pub term : Term
  pub result : Term
  pub rest : List ℕ
  pub env_at : EnvAt index store env
  pub here : At ws at term rest
  pub steps : top_step env term ≡ some result
  pub small : Small (2 ^ 63) term

-- An elimination that reduces stands at a place.
pub record AlongAt (ws : List ℕ) (at : ℕ) : Type 0 where
  pub env : Env
  pub fun : Term
  pub arg : Term
  pub result : Term
  pub first : ℕ
  pub second : ℕ
  pub rest : List ℕ
  pub here : At ws at (app fun arg) rest
  pub head : head_of (head_term fun) ≡ some (h_along first second)
  pub steps : contract env fun arg ≡ some result

-- An application that is a redex, with small indices, stands at a place.
pub record AppRedex (ws : List ℕ) (at : ℕ) : Type 0 where
  pub env : Env
  pub fun : Term
  pub arg : Term
  pub result : Term
  pub rest : List ℕ
  pub here : At ws at (app fun arg) rest
  pub steps : contract env fun arg ≡ some result
  pub small : Small (2 ^ 63) arg

-- A term stands at a place of the heap and ends before end; the first made words of the scratch words are to stand in its place.
pub record Replaceable (heap : List ℕ) (at end : ℕ) (scratch : List ℕ) (made : ℕ) : Type 0 where
  pub term : Term
  pub rest : List ℕ
  pub here : At heap at term rest
  pub before : at + 3 * size term ≤ end
  pub within : end ≤ length heap
  pub room : made ≤ length scratch

-- The words are written from at on, or one of the two is too short for them.
abbrev pub Replaces : List ℕ → ℕ → ℕ → List ℕ → List ℕ → Maybe ℕ → Type 0
Replaces heap at scratch words after (Some end) = Appends heap at words after end
Replaces heap at scratch words after None = (length heap < at + length words) ⊎ (scratch < length words)
