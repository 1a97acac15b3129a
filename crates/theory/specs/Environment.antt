-- Environments, and the types of heads in them.
use Rattle.std.specs.Prelude.{List, [], ◌∷◌, ◌++◌, reverse, ℕ, zero, suc, ◌+◌, length}
use Rattle.std.proofs.Math.Option.{Option, some, none}
use Rattle.std.proofs.Math.ListN.{get_elem?}
use Rattle.theory.specs.Terms.{Head, h_def, h_data, h_con, h_rec, h_eq, h_refl, h_along, Term, var, const, sort, pi, app, option, lift, subst_all, apps, lifts, pis}

-- A constructor: the types of its fields, each in the context of the parameters and the fields before it; then the number of
-- recursive fields, which are of the data type itself.
pub record Constructor : Type 0 where
  pub fields : List Term
  pub recs : ℕ

-- A data type: the types of its parameters, each in the context of those before it; its universe level; its constructors.
pub record DataType : Type 0 where
  pub params : List Term
  pub level : ℕ
  pub cons : List Constructor

-- An entry of the environment: a definition (body, type), an axiom (type), a data type.
pub data Entry : Type 0 where
  defined : Term → Term → Entry
  assumed : Term → Entry
  inductive : DataType → Entry

-- An environment: its entries, the oldest first.
abbrev pub Env : Type 0
Env = List Entry

-- The variables of n binders, the outermost first, seen from under d further binders.
abbrev pub vars : ℕ → ℕ → List Term
vars zero d = []
vars (suc n) d = var (n + d) ∷ vars n d

-- Data type i applied to its own parameters, from under d binders behind them.
abbrev pub self_type : ℕ → DataType → ℕ → Term
self_type i k d = apps (const (h_data i)) (vars (length k.params) d)

-- The function type over n recursive fields, from under d binders behind the parameters, into the data type.
abbrev pub rec_fields : ℕ → DataType → ℕ → ℕ → Term
rec_fields i k zero d = self_type i k d
rec_fields i k (suc n) d = pi (self_type i k d) (rec_fields i k n (suc d))

-- The type of a constructor: parameters, fields, recursive fields, and then the data type.
abbrev pub con_type : ℕ → DataType → Constructor → Term
con_type i k c = pis k.params (pis c.fields (rec_fields i k c.recs (length c.fields)))

-- A term, or each of several, under one more binder.
abbrev pub up : Term → Term
up t = lift 0 1 t

abbrev pub ups : List Term → List Term
ups ts = lifts 1 ts

-- The induction hypotheses: for each recursive field r the motive c at r, d of them so far; then e.
abbrev pub hypotheses : Term → List Term → ℕ → Term → Term
hypotheses c [] d e = lift 0 d e
hypotheses c (r ∷ rs) d e = pi (lift 0 d (app c r)) (hypotheses c rs (suc d) e)

-- The rest of a case's type behind the fields: n recursive fields, their induction hypotheses, the motive at the constructor.
-- ps: the parameters; c: the motive; q: the arguments so far; rs: the recursive ones among them.
abbrev pub case_recs : ℕ → ℕ → List Term → Term → List Term → List Term → ℕ → Term
case_recs i k ps c q rs zero = hypotheses c rs 0 (app c (apps (const (h_con i k)) (ps ++ q)))
case_recs i k ps c q rs (suc n) =
    pi (apps (const (h_data i)) ps) (case_recs i k (ups ps) (up c) (ups q ++ (var 0 ∷ [])) (ups rs ++ (var 0 ∷ [])) n)

-- The type of the case of constructor k: a function of its fields, its recursive fields and their induction hypotheses.
-- us: parameters and fields so far, the innermost first, which are put for the variables of the field types.
abbrev pub case_type : ℕ → ℕ → List Term → Term → List Term → List Term → List Term → ℕ → Term
case_type i k ps c us q [] n = case_recs i k ps c q [] n
case_type i k ps c us q (a ∷ as₁) n =
    pi (subst_all us 0 a) (case_type i k (ups ps) (up c) (var 0 ∷ ups us) (ups q ++ (var 0 ∷ [])) as₁ n)

-- The recursor's type behind parameters and motive: a case for each constructor, the scrutinee, the motive at the scrutinee.
-- n parameters; m cases so far; k the next constructor.
abbrev pub rec_cases : ℕ → ℕ → ℕ → ℕ → List Constructor → Term
rec_cases i n m k [] = pi (apps (const (h_data i)) (vars n (m + 1))) (app (var (m + 1)) (var 0))
rec_cases i n m k (c ∷ cs) =
    pi (case_type i k (vars n (m + 1)) (var m) (reverse (vars n (m + 1))) [] c.fields c.recs) (rec_cases i n (m + 1) (k + 1) cs)

-- The type of the recursor of data type i into Type j: parameters, motive, cases, scrutinee.
abbrev pub rec_type : ℕ → ℕ → DataType → Term
rec_type i j k = pis k.params (pi (pi (self_type i k 0) (sort j)) (rec_cases i (length k.params) 0 0 k.cons))

-- The type of equality: (A : Type i) -> A -> A -> Type i.
abbrev pub eq_type : ℕ → Term
eq_type i = pi (sort i) (pi (var 0) (pi (var 1) (sort i)))

-- The type eq.i a x y, and its proof same.i a x.
abbrev pub eq_of : ℕ → Term → Term → Term → Term
eq_of i a x y = app (app (app (const (h_eq i)) a) x) y

abbrev pub refl_of : ℕ → Term → Term → Term
refl_of i a x = app (app (const (h_refl i)) a) x

-- The type of reflexivity: (A : Type i) -> (a : A) -> eq.i A a a.
abbrev pub refl_type : ℕ → Term
refl_type i = pi (sort i) (pi (var 0) (eq_of i (var 1) (var 0) (var 0)))

-- The type of elimination: (A : Type i) -> (a : A) -> (C : (b : A) -> eq.i A a b -> Type j) -> C a (same.i A a)
-- -> (b : A) -> (p : eq.i A a b) -> C b p.
abbrev pub along_type : ℕ → ℕ → Term
along_type i j =
    pi (sort i) (pi (var 0) (pi (pi (var 1) (pi (eq_of i (var 2) (var 1) (var 0)) (sort j)))
    (pi (app (app (var 0) (var 1)) (refl_of i (var 2) (var 1)))
    (pi (var 3) (pi (eq_of i (var 4) (var 3) (var 0)) (app (app (var 3) (var 1)) (var 0)))))))

-- The type of a data type: (parameters) -> Type n.
abbrev pub data_type : DataType → Term
data_type k = pis k.params (sort k.level)

-- What an entry gives: a type (definitions and axioms), a body (definitions), a data type.
abbrev pub entry_type : Entry → Option Term
entry_type (defined t a) = some a
entry_type (assumed a) = some a
entry_type (inductive k) = none

abbrev pub entry_body : Entry → Option Term
entry_body (defined t a) = some t
entry_body (assumed a) = none
entry_body (inductive k) = none

abbrev pub entry_data : Entry → Option DataType
entry_data (defined t a) = none
entry_data (assumed a) = none
entry_data (inductive k) = some k

-- The data type at a place of the environment.
abbrev pub data_at : Env → ℕ → Option DataType
data_at e i = option (get_elem? e i) none entry_data

-- The type of a head, if it has one.
abbrev pub head_type_lem : Env → Head → Option Term
head_type_lem e (h_def i) = option (get_elem? e i) none entry_type
head_type_lem e (h_data i) = option (data_at e i) none (λ k. some (data_type k))
head_type_lem e (h_con i n) = option (data_at e i) none (λ k. option (get_elem? k.cons n) none (λ c. some (con_type i k c)))
head_type_lem e (h_rec i j) = option (data_at e i) none (λ k. some (rec_type i j k))
head_type_lem e (h_eq i) = some (eq_type i)
head_type_lem e (h_refl i) = some (refl_type i)
head_type_lem e (h_along i j) = some (along_type i j)
