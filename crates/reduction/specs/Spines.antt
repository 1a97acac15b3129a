-- A term as a head applied to arguments.
use Rattle.std.specs.Prelude.{◌≡◌, ℕ, zero, suc, ◌+◌, ◌-◌, ◌*◌, ◌<◌, ◌≤◌, Bool, true, false, cond, ◌&&◌, ◌⊎◌, List, length, ◌==◌, nat_eq, Some, None, Option as Maybe}
use Rattle.std.proofs.Math.Option.{Option, some, none}
use Rattle.theory.specs.Terms.{Head, Term, var, const, sort, pi, lam, app, option, size}
use Rattle.std.proofs.Math.ListN.{get_elem?}
use Rattle.theory.specs.Environment.{DataType, Env, data_at}
use Rattle.theory.specs.Reduction.{contract, delta, needs_last, normal_step, bind, con_of, is_refl}
use Rattle.theory.proofs.WeakHead.{needs_arg}
use Rattle.terms.specs.Words.{At}
use Rattle.reduction.specs.declared.spine.Look.{Look}
use Rattle.reduction.specs.declared.spine.Look.TheVariants.{Leaf, Pair, Redex, Spread, Needs}

-- The number of arguments, and the term that is applied to them.
abbrev pub uses : Term → ℕ
uses (var x) = 0
uses (const h) = 0
uses (sort i) = 0
uses (pi a b) = 0
uses (lam a b) = 0
uses (app f a) = suc (uses f)

abbrev pub head_term : Term → Term
head_term (var x) = var x
head_term (const h) = const h
head_term (sort i) = sort i
head_term (pi a b) = pi a b
head_term (lam a b) = lam a b
head_term (app f a) = head_term f

-- The head of t, which has n arguments, stands at place p.
pub record HeadAt (ws : List ℕ) (p n : ℕ) (t : Term) : Type 0 where
  pub count : n ≡ uses t
  pub rest : List ℕ
  pub at : At ws p (head_term t) rest

-- The head that a term is.
abbrev pub head_of : Term → Option Head
head_of (var x) = none
head_of (const h) = some h
head_of (sort i) = none
head_of (pi a b) = none
head_of (lam a b) = none
head_of (app f a) = none

-- Does the term, applied to n arguments, have to look at its last one?
abbrev pub wants : Env → Term → ℕ → Bool
wants e t n = option (head_of t) false (λ h. needs_last e h n)

-- Is n the number, if there is one?
abbrev pub is_number : Maybe ℕ → ℕ → Bool
is_number None n = false
is_number (Some m) n = n == m

-- It has to exactly if there are so many arguments, and never if no number is given.
pub record Wants (e : Env) (t : Term) (o : Maybe ℕ) : Type 0 where
  pub at : (n : ℕ) → wants e t (suc n) ≡ is_number o (suc n)

-- The step of a redex at its root.
abbrev pub top_step : Env → Term → Option Term
top_step e (var x) = none
top_step e (const h) = delta e h
top_step e (sort i) = none
top_step e (pi a b) = none
top_step e (lam a b) = none
top_step e (app f a) = contract e f a

-- Is it a function?
abbrev pub is_lam : Term → Bool
is_lam (var x) = false
is_lam (const h) = false
is_lam (sort i) = false
is_lam (pi a b) = false
is_lam (lam a b) = true
is_lam (app f a) = false

-- The term below k applications.
abbrev pub strip : ℕ → Term → Term
strip zero t = t
strip (suc k) (var x) = var x
strip (suc k) (const h) = const h
strip (suc k) (sort i) = sort i
strip (suc k) (pi a b) = pi a b
strip (suc k) (lam a b) = lam a b
strip (suc k) (app f a) = strip k f

-- An application that is no redex and does not look at its argument first.
pub record CalmApp (e : Env) (f a : Term) : Type 0 where
  pub no_redex : contract e f a ≡ none
  pub no_need : needs_arg e f a ≡ false

-- The first k applications are calm.
abbrev pub CalmTo : Env → ℕ → Term → Type 0
CalmTo e zero t = Unit {0}
CalmTo e (suc k) (var x) = Unit {0}
CalmTo e (suc k) (const h) = Unit {0}
CalmTo e (suc k) (sort i) = Unit {0}
CalmTo e (suc k) (pi a b) = Unit {0}
CalmTo e (suc k) (lam a b) = Unit {0}
CalmTo e (suc k) (app f a) = CalmApp e f a × CalmTo e k f

-- What the head of a term unfolds to.
abbrev pub body_of : Env → Term → Option Term
body_of e (var x) = none
body_of e (const h) = delta e h
body_of e (sort i) = none
body_of e (pi a b) = none
body_of e (lam a b) = none
body_of e (app f a) = none

abbrev pub Unfolds : Env → Term → Bool → Type 0
Unfolds e t true = (u : Term) × (body_of e t ≡ some u)
Unfolds e t false = body_of e t ≡ none

-- What the pass does with the term t at a place: it has no parts and no step; its two parts come; a redex stands in it at place c; its head
-- and its n arguments come; its head has to look at argument m of n.
abbrev pub Looks : Env → ℕ → Term → Look → Type 0
Looks e at t Leaf = (normal_step e t ≡ none) × (size t ≡ 1)
Looks e at t Pair = (a b : Term) × ((t ≡ pi a b) ⊎ (t ≡ lam a b))
Looks e at t (Redex c) = (k : ℕ) × (u : Term) × (c ≡ at + 3 * k) × (k ≤ uses t) × CalmTo e k t × (top_step e (strip k t) ≡ some u)
Looks e at t (Spread n) = (0 < n) × (n ≡ uses t) × CalmTo e n t
Looks e at t (Needs n m) = (f a : Term) × (n ≡ uses t) × (2 ≤ m) × (m ≤ n) × CalmTo e (n - m) t × (strip (n - m) t ≡ app f a) × (needs_arg e f a ≡ true) × (m - 1 ≤ uses f) × CalmTo e (m - 1) f

-- Is it constructor k of the data type with all its n arguments? Is it a constructor of data type i with all its arguments? Is it reflexivity?
abbrev pub con_full : Option DataType → ℕ → ℕ → Bool
con_full o k n = option o false (λ d. option (get_elem? d.cons k) false (λ c. nat_eq n (length d.params + (length c.fields + c.recs))))

abbrev pub con_fits_lem : Env → ℕ → Option Head → ℕ → Bool
con_fits_lem e i o n = option (bind o con_of) false (λ c. cond (i == c.index) (con_full (data_at e i) c.con n) false)

abbrev pub refl_fits_lem : Option Head → ℕ → Bool
refl_fits_lem o n = option o false (λ h. is_refl h && n == 2)

-- Is f a, whose head looks at a, a redex?
abbrev pub Fires : Env → Term → Term → Bool → Type 0
Fires e f a true = (u : Term) × (contract e f a ≡ some u)
Fires e f a false = contract e f a ≡ none
