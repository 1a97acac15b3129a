-- What looking up and declaring an entry promise.
use Rattle.std.specs.Prelude.{◌≡◌, ℕ, ◌+◌, ◌*◌, ◌<◌, ◌⊎◌, List, [], ◌∷◌, ◌++◌, length, take, Some, None, Option as Maybe}
use Rattle.std.proofs.Math.Option.{Option, some, none}
use Rattle.std.proofs.Math.ListN.{get_elem?}
use Rattle.theory.specs.Terms.{Term, option}
use Rattle.theory.specs.Environment.{Constructor, DataType, Entry, defined, assumed, inductive, Env}
use Rattle.terms.specs.Words.{At}
use Rattle.terms.specs.Writing.{Appends}
use Rattle.reduction.specs.Store.{EntryAt, EnvAt}
use Rattle.reduction.specs.declared.store.Found.{Found}
use Rattle.reduction.specs.declared.store.Found.TheVariants.{Definition, Axiom, Inductive}
use Rattle.reduction.specs.declared.store.DataNumbers.{DataNumbers}
use Rattle.reduction.specs.declared.store.ConNumbers.{ConNumbers}

-- The term t stands at place p of the store.
pub record StandsAt (store : List ℕ) (p : ℕ) (t : Term) : Type 0 where
  pub rest : List ℕ
  pub at : At store p t rest

-- What was found is the entry: where its type and its body stand, or the words of a data type.
abbrev pub Finds : List ℕ → Option Entry → Maybe Found → Type 0
Finds store o None = o ≡ none
Finds store o (Some (Definition «type» body)) = (t a : Term) × (o ≡ some (defined t a)) × StandsAt store «type» a × StandsAt store body t
Finds store o (Some (Axiom «type»)) = (a : Term) × (o ≡ some (assumed a)) × StandsAt store «type» a
Finds store o (Some (Inductive p)) = (k : DataType) × (o ≡ some (inductive k)) × EntryAt store p (inductive k)

-- The place of a data type's words.
abbrev pub FindsPlace : List ℕ → Option DataType → Maybe ℕ → Type 0
FindsPlace store o None = o ≡ none
FindsPlace store o (Some p) = (k : DataType) × (o ≡ some k) × EntryAt store p (inductive k)

-- The numbers of the data type.
pub record Counts (k : DataType) (n : DataNumbers) : Type 0 where
  pub params : n.params ≡ length k.params
  pub level : n.level ≡ k.level
  pub cons : n.cons ≡ length k.cons

abbrev pub FindsData : Option DataType → Maybe DataNumbers → Type 0
FindsData o None = o ≡ none
FindsData o (Some n) = (k : DataType) × (o ≡ some k) × Counts k n

-- The numbers of the constructor.
abbrev pub con_at : Option DataType → ℕ → Option Constructor
con_at o i = option o none (λ k. get_elem? k.cons i)

abbrev pub FindsCon : Option Constructor → Maybe ConNumbers → Type 0
FindsCon o None = o ≡ none
FindsCon o (Some n) = (c : Constructor) × (o ≡ some c) × (n.fields ≡ length c.fields) × (n.recs ≡ c.recs)

-- The environment in the first 2 * count words of the table and the first used words of the store, with one entry more up to end; or there is no room for it.
abbrev pub Declares : (index store : List ℕ) (count used : ℕ) (index' store' : List ℕ) (d : Entry) (words : ℕ) → Maybe ℕ → Type 0
Declares index store count used index' store' d words None = (length index < 2 * (count + 1)) ⊎ (length store < used + words)
Declares index store count used index' store' d words (Some end) =
    (e : Env) → EnvAt (take (2 * count) index) (take used store) e → EnvAt (take (2 * (count + 1)) index') (take end store') (e ++ (d ∷ [])) × (end ≡ used + words)

-- The environment in the first 2 * count words of the table and the first used words of the store; once the words new stand in the
-- store behind three more, up to end, the table and the store hold one entry more.
abbrev pub Declared : (index store : List ℕ) (count used : ℕ) (index' store' : List ℕ) (d : Entry) (new : List ℕ) → Type 0
Declared index store count used index' store' d new =
    (e : Env) (end : ℕ) → EnvAt (take (2 * count) index) (take used store) e → Appends store (used + 3) new store end
    → EnvAt (take (2 * (count + 1)) index') (take end store') (e ++ (d ∷ []))
