-- Surface syntax: declarations as they are written, before names are resolved.
use Rattle.std.specs.Prelude.{ℕ, max, Bool, true, false, cond, not, ◌&&◌, ◌||◌, List, [], ◌∷◌, ◌++◌, codes, ◌==◌}

-- A name: its bytes.
abbrev pub Name : Type 0
Name = List ℕ

-- Are two names the same?
abbrev pub same : Name → Name → Bool
same [] [] = true
same [] (y ∷ ys) = false
same (x ∷ xs) [] = false
same (x ∷ xs) (y ∷ ys) = x == y && same xs ys

-- A surface term: a name; a name with numbers (I.2, eq.0, along.0.1); @x, a name with no argument left out; Type i;
-- (x : a) -> b, where a -> b has the empty name; fun (x : a) => b; f a; a hole; by { .. };
-- and have x : a { b } c, which is (fun (x : a) => c) b written in another order.
pub data Expr : Type 0 where
  e_name : Name → Expr
  e_at : Name → List ℕ → Expr
  e_full : Name → Expr
  e_sort : ℕ → Expr
  e_pi : Name → Expr → Expr → Expr
  e_lam : Name → Expr → Expr → Expr
  e_app : Expr → Expr → Expr
  e_hole : Expr
  e_by : Expr → Expr
  e_have : Name → Expr → Expr → Expr → Expr

-- A parameter or a field: its name and its type.
pub record Param : Type 0 where
  pub name : Name
  pub type : Expr

-- A constructor: its name, its fields, its number of recursive fields.
pub record ConDecl : Type 0 where
  pub name : Name
  pub fields : List Param
  pub recs : ℕ

-- A declaration: a definition or theorem (name, number of hidden arguments, type, body); an axiom (name, hidden, type);
-- a data type (name, hidden, parameters, level, constructors).
pub data Decl : Type 0 where
  d_def : Name → ℕ → Expr → Expr → Decl
  d_axiom : Name → ℕ → Expr → Decl
  d_data : Name → ℕ → List Param → ℕ → List ConDecl → Decl

-- The words that take numbers.
abbrev pub w_eq : Name
w_eq = codes "eq"

abbrev pub w_same : Name
w_same = codes "same"

abbrev pub w_along : Name
w_along = codes "along"

-- The stage of a form: 0 the core, 1 data types, 2 equality, 3 holes, 4 hidden arguments, 5 scripts.
abbrev pub at_stage : Name → ℕ
at_stage x = cond (same x w_eq || (same x w_same || same x w_along)) 2 1

abbrev pub expr_stage : Expr → ℕ
expr_stage (e_name x) = 0
expr_stage (e_at x ns) = at_stage x
expr_stage (e_full x) = 4
expr_stage (e_sort i) = 0
expr_stage (e_pi x a b) = max (expr_stage a) (expr_stage b)
expr_stage (e_lam x a b) = max (expr_stage a) (expr_stage b)
expr_stage (e_app f a) = max (expr_stage f) (expr_stage a)
expr_stage e_hole = 3
expr_stage (e_by a) = max 5 (expr_stage a)
expr_stage (e_have x a b c) = max (expr_stage a) (max (expr_stage b) (expr_stage c))

abbrev pub hide_stage : ℕ → ℕ
hide_stage n = cond (n == 0) 0 4

abbrev pub params_stage : List Param → ℕ
params_stage [] = 0
params_stage (p ∷ ps) = max (expr_stage p.type) (params_stage ps)

abbrev pub cons_stage : List ConDecl → ℕ
cons_stage [] = 0
cons_stage (c ∷ cs) = max (params_stage c.fields) (cons_stage cs)

abbrev pub decl_stage : Decl → ℕ
decl_stage (d_def x h a b) = max (hide_stage h) (max (expr_stage a) (expr_stage b))
decl_stage (d_axiom x h a) = max (hide_stage h) (expr_stage a)
decl_stage (d_data x h ps l cs) = max 1 (max (hide_stage h) (max (params_stage ps) (cons_stage cs)))

-- The stage of a text: the highest of its forms'.
abbrev pub stage : List Decl → ℕ
stage [] = 0
stage (d ∷ ds) = max (decl_stage d) (stage ds)

-- Is the name among those listed?
abbrev pub listed : Name → List Name → Bool
listed x [] = false
listed x (y ∷ ys) = same x y || listed x ys

-- The names that declarations declare, in order.
abbrev pub con_names : List ConDecl → List Name
con_names [] = []
con_names (c ∷ cs) = c.name ∷ con_names cs

abbrev pub decl_names : Decl → List Name
decl_names (d_def x h a b) = x ∷ []
decl_names (d_axiom x h a) = x ∷ []
decl_names (d_data x h ps l cs) = x ∷ con_names cs

abbrev pub names_of : List Decl → List Name
names_of [] = []
names_of (d ∷ ds) = decl_names d ++ names_of ds

-- No name is listed twice.
abbrev pub once : List Name → Bool
once [] = true
once (x ∷ xs) = not (listed x xs) && once xs
