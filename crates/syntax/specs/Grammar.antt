-- The grammar: which tokens are which terms, scripts, declarations.
use Rattle.std.specs.Prelude.{◌≡◌, ℕ, suc, ◌+◌, ◌-◌, ◌*◌, ◌<◌, Bool, true, cond, not, ◌&&◌, ◌||◌, T, List, [], ◌∷◌, ◌++◌, length, codes, nat_le}
use Rattle.std.proofs.Math.Option.{Option, some, none}
use Rattle.syntax.specs.Surface.{Name, same, listed, Expr, e_name, e_at, e_full, e_sort, e_pi, e_lam, e_app, e_hole, e_by, e_have, Param, ConDecl, Decl, d_def, d_axiom, d_data, names_of, once, w_eq, w_same, w_along}
use Rattle.syntax.specs.Tokens.{letter, tokens}

-- The keywords.
abbrev pub k_fun : Name
k_fun = codes "fun"

abbrev pub k_type : Name
k_type = codes "Type"

abbrev pub k_def : Name
k_def = codes "def"

abbrev pub k_theorem : Name
k_theorem = codes "theorem"

abbrev pub k_axiom : Name
k_axiom = codes "axiom"

abbrev pub k_data : Name
k_data = codes "data"

abbrev pub k_hide : Name
k_hide = codes "hide"

abbrev pub k_again : Name
k_again = codes "again"

abbrev pub k_by : Name
k_by = codes "by"

abbrev pub k_intro : Name
k_intro = codes "intro"

abbrev pub k_exact : Name
k_exact = codes "exact"

abbrev pub k_have : Name
k_have = codes "have"

abbrev pub k_apply : Name
k_apply = codes "apply"

-- The signs: ( ) { } ; : . @ _ := => ->
abbrev pub t_lp : Name
t_lp = codes "("

abbrev pub t_rp : Name
t_rp = codes ")"

abbrev pub t_lc : Name
t_lc = codes "{"

abbrev pub t_rc : Name
t_rc = codes "}"

abbrev pub t_semi : Name
t_semi = codes ";"

abbrev pub t_colon : Name
t_colon = codes ":"

abbrev pub t_dot : Name
t_dot = codes "."

abbrev pub t_at : Name
t_at = codes "@"

abbrev pub t_hole : Name
t_hole = codes "_"

abbrev pub t_is : Name
t_is = codes ":="

abbrev pub t_so : Name
t_so = codes "=>"

abbrev pub t_to : Name
t_to = codes "->"

-- The words that are no names.
abbrev pub reserved : List Name
reserved = k_fun ∷ k_type ∷ k_def ∷ k_theorem ∷ k_axiom ∷ k_data ∷ k_hide ∷ k_again ∷ k_by ∷ k_intro ∷ k_exact ∷ k_have ∷ k_apply ∷ w_eq ∷ w_same ∷ w_along ∷ t_hole ∷ []

-- Only letters, digits and _; begins with a digit (or is empty).
abbrev pub letters : Name → Bool
letters [] = true
letters (c ∷ cs) = letter c && letters cs

abbrev pub digit_first : Name → Bool
digit_first [] = true
digit_first (c ∷ cs) = nat_le 48 c && nat_le c 57

-- A name: 1 to 32 letters, digits and _, no digit first, no reserved word.
abbrev pub is_name : Name → Bool
is_name x = nat_le 1 (length x) && (nat_le (length x) 32 && (letters x && (not (digit_first x) && not (listed x reserved))))

-- What may stand before numbers: a name, or eq, same, along.
abbrev pub is_indexed_lem : Name → Bool
is_indexed_lem x = is_name x || listed x (w_eq ∷ w_same ∷ w_along ∷ [])

-- The value of decimal digits behind n; a number has one to three digits.
abbrev pub digits : ℕ → List ℕ → Option ℕ
digits n [] = some n
digits n (c ∷ cs) = cond (nat_le 48 c && nat_le c 57) (digits (n * 10 + (c - 48)) cs) none

abbrev pub IsNumber : Name → ℕ → Type 0
IsNumber w n = T (nat_le 1 (length w) && nat_le (length w) 3) × (digits 0 w ≡ some n)

-- One or two numbers, each behind a dot.
pub data IsDots : List Name → List ℕ → Type 0 where
  x_one : {w : Name} {n : ℕ} → IsNumber w n → IsDots (t_dot ∷ w ∷ []) (n ∷ [])
  x_two : {w v : Name} {n m : ℕ} → IsNumber w n → IsNumber v m → IsDots (t_dot ∷ w ∷ t_dot ∷ v ∷ []) (n ∷ m ∷ [])

mutual
  -- IsExpr n s a: the tokens s are the term a; at n = 0 any term, at 1 an application or tighter, at 2 an atom.
  pub data IsExpr : ℕ → List Name → Expr → Type 0 where
    x_tighter : {n : ℕ} {s : List Name} {a : Expr} → n < 2 → IsExpr (suc n) s a → IsExpr n s a
    x_fun : {x : Name} {s t : List Name} {a b : Expr} → T (is_name x) → IsExpr 0 s a → IsExpr 0 t b → IsExpr 0 (k_fun ∷ t_lp ∷ x ∷ t_colon ∷ (s ++ (t_rp ∷ t_so ∷ t))) (e_lam x a b)
    x_pi : {x : Name} {s t : List Name} {a b : Expr} → T (is_name x) → IsExpr 0 s a → IsExpr 0 t b → IsExpr 0 (t_lp ∷ x ∷ t_colon ∷ (s ++ (t_rp ∷ t_to ∷ t))) (e_pi x a b)
    x_arrow : {s t : List Name} {a b : Expr} → IsExpr 1 s a → IsExpr 0 t b → IsExpr 0 (s ++ (t_to ∷ t)) (e_pi [] a b)
    x_app : {s t : List Name} {f a : Expr} → IsExpr 1 s f → IsExpr 2 t a → IsExpr 1 (s ++ t) (e_app f a)
    x_name : {x : Name} → T (is_name x) → IsExpr 2 (x ∷ []) (e_name x)
    x_at : {x : Name} {s : List Name} {ns : List ℕ} → T (is_indexed_lem x) → IsDots s ns → IsExpr 2 (x ∷ s) (e_at x ns)
    x_full : {x : Name} → T (is_name x) → IsExpr 2 (t_at ∷ x ∷ []) (e_full x)
    x_sort : {w : Name} {n : ℕ} → IsNumber w n → IsExpr 2 (k_type ∷ w ∷ []) (e_sort n)
    x_hole : IsExpr 2 (t_hole ∷ []) e_hole
    x_brackets : {s : List Name} {a : Expr} → IsExpr 0 s a → IsExpr 2 (t_lp ∷ (s ++ (t_rp ∷ []))) a
    x_by : {s : List Name} {a : Expr} → IsScript s a → IsExpr 2 (k_by ∷ t_lc ∷ (s ++ (t_rc ∷ []))) (e_by a)

  -- A script: exact t; intro x; have x : a { .. }; apply t; { .. } { .. }.
  pub data IsScript : List Name → Expr → Type 0 where
    x_exact : {s : List Name} {a : Expr} → IsExpr 0 s a → IsScript (k_exact ∷ (s ++ (t_semi ∷ []))) a
    x_intro : {x : Name} {s : List Name} {a : Expr} → T (is_name x) → IsScript s a → IsScript (k_intro ∷ x ∷ t_semi ∷ s) (e_lam x e_hole a)
    x_have : {x : Name} {s t u : List Name} {a b c : Expr} → T (is_name x) → IsExpr 0 s a → IsScript t b → IsScript u c → IsScript (k_have ∷ x ∷ t_colon ∷ (s ++ (t_lc ∷ (t ++ (t_rc ∷ u))))) (e_have x a b c)
    x_apply : {s t : List Name} {a b : Expr} → IsExpr 0 s a → IsArgs t a b → IsScript (k_apply ∷ (s ++ (t_semi ∷ t))) b

  -- IsArgs t a b: the scripts in braces t, as arguments of a, make b.
  pub data IsArgs : List Name → Expr → Expr → Type 0 where
    x_no_args : {a : Expr} → IsArgs [] a a
    x_arg : {s t : List Name} {a b c : Expr} → IsScript s b → IsArgs t (e_app a b) c → IsArgs (t_lc ∷ (s ++ (t_rc ∷ t))) a c

-- Parameters or fields: (x : a) (y : b) ..
pub data IsParams : List Name → List Param → Type 0 where
  x_no_params : IsParams [] []
  x_param : {x : Name} {s t : List Name} {a : Expr} {ps : List Param} → T (is_name x) → IsExpr 0 s a → IsParams t ps → IsParams (t_lp ∷ x ∷ t_colon ∷ (s ++ (t_rp ∷ t))) (record { name = x; type = a } ∷ ps)

-- Constructors: c (x : a) .. again n; ..
pub data IsCons : List Name → List ConDecl → Type 0 where
  x_no_cons : IsCons [] []
  x_con : (w : Name) {x : Name} {n : ℕ} {s t : List Name} {ps : List Param} {cs : List ConDecl} → T (is_name x) → IsParams s ps → IsNumber w n → IsCons t cs → IsCons (x ∷ (s ++ (k_again ∷ w ∷ t_semi ∷ t))) (record { name = x; fields = ps; recs = n } ∷ cs)

-- Nothing, or hide n.
pub data IsHide : List Name → ℕ → Type 0 where
  x_no_hide : IsHide [] 0
  x_hide : {w : Name} {n : ℕ} → IsNumber w n → IsHide (k_hide ∷ w ∷ []) n

-- A declaration.
pub data IsDecl : List Name → Decl → Type 0 where
  x_def : {x : Name} {h : ℕ} {r s t : List Name} {a b : Expr} → T (is_name x) → IsHide r h → IsExpr 0 s a → IsExpr 0 t b → IsDecl (k_def ∷ x ∷ (r ++ (t_colon ∷ (s ++ (t_is ∷ (t ++ (t_semi ∷ []))))))) (d_def x h a b)
  x_theorem : {x : Name} {h : ℕ} {r s t : List Name} {a b : Expr} → T (is_name x) → IsHide r h → IsExpr 0 s a → IsExpr 0 t b → IsDecl (k_theorem ∷ x ∷ (r ++ (t_colon ∷ (s ++ (t_is ∷ (t ++ (t_semi ∷ []))))))) (d_def x h a b)
  x_axiom : {x : Name} {h : ℕ} {r s : List Name} {a : Expr} → T (is_name x) → IsHide r h → IsExpr 0 s a → IsDecl (k_axiom ∷ x ∷ (r ++ (t_colon ∷ (s ++ (t_semi ∷ []))))) (d_axiom x h a)
  x_data : (w : Name) {x : Name} {h n : ℕ} {r s t : List Name} {ps : List Param} {cs : List ConDecl} → T (is_name x) → IsHide r h → IsParams s ps → IsNumber w n → IsCons t cs → IsDecl (k_data ∷ x ∷ (r ++ (s ++ (t_colon ∷ k_type ∷ w ∷ t_lc ∷ (t ++ (t_rc ∷ [])))))) (d_data x h ps n cs)

-- Declarations in a row.
pub data IsDecls : List Name → List Decl → Type 0 where
  x_no_decls : IsDecls [] []
  x_decl : {s t : List Name} {d : Decl} {ds : List Decl} → IsDecl s d → IsDecls t ds → IsDecls (s ++ t) (d ∷ ds)

-- At most 64 brackets are open at once, n of them so far.
abbrev pub opens : Name → Bool
opens w = same w t_lp || same w t_lc

abbrev pub shuts : Name → Bool
shuts w = same w t_rp || same w t_rc

abbrev pub shallow : ℕ → List Name → Bool
shallow n [] = true
shallow n (w ∷ ws) = nat_le n 64 && shallow (cond (opens w) (n + 1) (cond (shuts w) (n - 1) n)) ws

-- The text t is the declarations ds: they are what its tokens say, it has at most 32,768 bytes and 64 open brackets, and each
-- name is declared once.
pub record Reads (t : List ℕ) (ds : List Decl) : Type 0 where
  pub said : IsDecls (tokens t) ds
  pub small : T (nat_le (length t) 32768 && shallow 0 (tokens t))
  pub distinct : T (once (names_of ds))

-- A text is at most one row of declarations.
abbrev pub OneReading : Type 0
OneReading = (t : List ℕ) (ds es : List Decl) → Reads t ds → Reads t es → ds ≡ es
