-- The environment in words: an index table of places, two words each, and a store of entries.
use Rattle.std.specs.Prelude.{◌≡◌, ℕ, ◌+◌, ◌*◌, ◌/◌, ◌%◌, List, [], ◌∷◌, length, drop, slice_index}
use Rattle.std.proofs.Math.Option.{some}
use Rattle.std.proofs.Math.ListN.{get_elem?}
use Rattle.theory.specs.Terms.{size}
use Rattle.theory.specs.Environment.{Constructor, Entry, defined, assumed, inductive, Env}
use Rattle.terms.specs.Words.{put, puts}

-- The two numbers of each constructor: fields, recursive fields.
abbrev pub put_counts : List Constructor → List ℕ → List ℕ
put_counts [] r = r
put_counts (c ∷ cs) r = length c.fields ∷ c.recs ∷ put_counts cs r

-- The types of the fields of each constructor.
abbrev pub put_fields : List Constructor → List ℕ → List ℕ
put_fields [] r = r
put_fields (c ∷ cs) r = puts c.fields (put_fields cs r)

-- The words of an entry, before what follows. A definition: 0, the number of words of its type (the low word first), type, body. An
-- axiom: 1, two words that say nothing, type. A data type: 2, the numbers of parameters, level and constructors, the numbers of each
-- constructor, parameters, fields.
abbrev pub put_entry : Entry → List ℕ → List ℕ
put_entry (defined t a) r = 0 ∷ (3 * size a) % 4294967296 ∷ (3 * size a) / 4294967296 ∷ put a (put t r)
put_entry (assumed a) r = 1 ∷ 0 ∷ 0 ∷ put a r
put_entry (inductive k) r = 2 ∷ length k.params ∷ k.level ∷ length k.cons ∷ put_counts k.cons (puts k.params (put_fields k.cons r))

-- The place that the index table has for entry i.
abbrev pub place : List ℕ → ℕ → ℕ
place index i = slice_index index (2 * i) + 4294967296 * slice_index index (2 * i + 1)

-- Entry d stands in the store at place p.
pub record EntryAt (store : List ℕ) (p : ℕ) (d : Entry) : Type 0 where
  pub rest : List ℕ
  pub stands : drop p store ≡ put_entry d rest

-- The table and the store hold the environment e, and nothing more.
pub record EnvAt (index store : List ℕ) (e : Env) : Type 0 where
  pub counted : length index ≡ 2 * length e
  pub entries : (i : ℕ) (d : Entry) → get_elem? e i ≡ some d → EntryAt store (place index i) d

-- They hold some environment.
pub record Stored (index store : List ℕ) : Type 0 where
  pub env : Env
  pub at : EnvAt index store env
