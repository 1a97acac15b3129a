-- The theorems about the rules, as types.
use Rattle.std.specs.Prelude.{List, [], ◌∷◌, ◌++◌, ℕ}
use Rattle.theory.specs.Terms.{Term, sort}
use Rattle.theory.specs.Environment.{Entry, Env}
use Rattle.theory.specs.Reduction.{Step, Steps, Conv}
use Rattle.theory.specs.Typing.{HasType, WfEntry, WfEnv, WfContext, Infers}

-- Convertible terms have a common reduct.
abbrev pub Confluence : Type 0
Confluence = (e : Env) (t u : Term) → WfEnv e → Conv e t u → (v : Term) × Steps e t v × Steps e u v

-- A term has one type, up to conversion.
abbrev pub UniqueTypes : Type 0
UniqueTypes = (e : Env) (g : List Term) (t a b : Term) → WfEnv e → HasType e g t a → HasType e g t b → Conv e a b

-- A step keeps the type.
abbrev pub SubjectReduction : Type 0
SubjectReduction = (e : Env) (g : List Term) (t u a : Term) → WfEnv e → WfContext e g → HasType e g t a → Step e t u → HasType e g u a

-- Every type is of a sort.
abbrev pub Validity : Type 0
Validity = (e : Env) (g : List Term) (t a : Term) → WfEnv e → WfContext e g → HasType e g t a → (i : ℕ) × HasType e g a (sort i)

-- The inferred type of a term that has a type is that type, up to conversion.
abbrev pub InferenceSound : Type 0
InferenceSound = (e : Env) (g : List Term) (t a b : Term) → WfEnv e → WfContext e g → HasType e g t a → Infers e g t b → Conv e a b

-- A term that has a type has an inferred type.
abbrev pub InferenceComplete : Type 0
InferenceComplete = (e : Env) (g : List Term) (t a : Term) → WfEnv e → WfContext e g → HasType e g t a → (b : Term) × Infers e g t b

-- One more entry changes no typing.
abbrev pub EnvWeakening : Type 0
EnvWeakening = (e : Env) (d : Entry) (g : List Term) (t a : Term) → WfEnv e → WfEntry e d → HasType e g t a → HasType (e ++ (d ∷ [])) g t a
