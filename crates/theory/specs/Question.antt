-- The terms in question of an entry, and when they take more steps or more room than allowed.
use Rattle.std.specs.Prelude.{◌≡◌, List, [], ◌∷◌, ℕ, suc, ◌+◌, ◌*◌, ◌<◌, ◌≤◌, max}
use Rattle.std.proofs.Math.Option.{some}
use Rattle.theory.specs.Terms.{Term, size, depth}
use Rattle.theory.specs.Environment.{Constructor, DataType, Entry, defined, assumed, inductive, Env}
use Rattle.theory.specs.Reduction.{normal_steps}
use Rattle.theory.specs.Typing.{Infers, Subterm, extend}

-- MentionsTelescope g as d u: u, in context d, is a subterm of a type of the telescope as, in context g.
pub data MentionsTelescope : List Term → List Term → List Term → Term → Type 0 where
  here : {g : List Term} {a u : Term} {as₁ d : List Term} → Subterm g a d u → MentionsTelescope g (a ∷ as₁) d u
  there : {g : List Term} {a u : Term} {as₁ d : List Term} → MentionsTelescope (a ∷ g) as₁ d u → MentionsTelescope g (a ∷ as₁) d u

-- MentionsConstructors g cs d u: u, in context d, is a subterm of a field of the constructors cs, in context g.
pub data MentionsConstructors (g : List Term) : List Constructor → List Term → Term → Type 0 where
  in_first : {c : Constructor} {cs : List Constructor} {d : List Term} {u : Term}
      → MentionsTelescope g c.fields d u → MentionsConstructors g (c ∷ cs) d u
  in_rest : {c : Constructor} {cs : List Constructor} {d : List Term} {u : Term}
      → MentionsConstructors g cs d u → MentionsConstructors g (c ∷ cs) d u

-- Mentions c g u: u, in context g, is a subterm of the entry c.
pub data Mentions : Entry → List Term → Term → Type 0 where
  of_body : {t a u : Term} {g : List Term} → Subterm [] t g u → Mentions (defined t a) g u
  of_type : {t a u : Term} {g : List Term} → Subterm [] a g u → Mentions (defined t a) g u
  of_assumed : {a u : Term} {g : List Term} → Subterm [] a g u → Mentions (assumed a) g u
  of_params : {k : DataType} {g : List Term} {u : Term} → MentionsTelescope [] k.params g u → Mentions (inductive k) g u
  of_cons : {k : DataType} {g : List Term} {u : Term}
      → MentionsConstructors (extend [] k.params) k.cons g u → Mentions (inductive k) g u

-- A term in question: a subterm of the entry, or the inferred type of one.
pub data InQuestion (e : Env) (c : Entry) (t : Term) : Type 0 where
  mentioned : {g : List Term} → Mentions c g t → InQuestion e c t
  type_of : {g : List Term} {u : Term} → Mentions c g u → Infers e g u t → InQuestion e c t

-- A term in question has more than so many normal-order steps.
abbrev pub TakesLonger : Env → Entry → ℕ → Type 0
TakesLonger e c most = (t u : Term) × InQuestion e c t × (normal_steps e (suc most) t ≡ some u)

-- The nodes of terms together.
abbrev pub sizes : List Term → ℕ
sizes [] = 0
sizes (t ∷ ts) = size t + sizes ts

-- The size of constructors: four for each, and the nodes of its fields.
abbrev pub cons_size : List Constructor → ℕ
cons_size [] = 0
cons_size (c ∷ cs) = (4 + sizes c.fields) + cons_size cs

-- The size of an entry: the nodes of its terms, and its constructors.
abbrev pub entry_size : Entry → ℕ
entry_size (defined t a) = size t + size a
entry_size (assumed a) = size a
entry_size (inductive k) = sizes k.params + cons_size k.cons

-- The size of an environment: four for each entry, and its size.
abbrev pub env_size : Env → ℕ
env_size [] = 0
env_size (c ∷ e) = (4 + entry_size c) + env_size e

-- How deep arguments are nested in arguments, in terms.
abbrev pub depths : List Term → ℕ
depths [] = 0
depths (t ∷ ts) = max (depth t) (depths ts)

-- The same in the fields of constructors.
abbrev pub cons_depth : List Constructor → ℕ
cons_depth [] = 0
cons_depth (c ∷ cs) = max (depths c.fields) (cons_depth cs)

-- The same in an entry.
abbrev pub entry_depth : Entry → ℕ
entry_depth (defined t a) = max (depth t) (depth a)
entry_depth (assumed a) = depth a
entry_depth (inductive k) = max (depths k.params) (cons_depth k.cons)

-- The words in which a term u must find room, for a text of n bytes, in e, for the entry c: 65,536, 16 for each byte, 64 for each
-- node of e and c, and 128 for each node of u, times one more than arguments are nested in c.
abbrev pub room : ℕ → Env → Entry → Term → ℕ
room n e c u = 65536 + (16 * n + (64 * (env_size e + (4 + entry_size c)) + 128 * ((1 + entry_depth c) * size u)))

-- A term in question reduces, within so many normal-order steps, to one for which w words are too few.
abbrev pub TakesMore : Env → Entry → ℕ → ℕ → ℕ → Type 0
TakesMore e c most n w =
    (t u : Term) × (k : ℕ) × InQuestion e c t × (k ≤ most) × (normal_steps e k t ≡ some u) × (w < room n e c u)
