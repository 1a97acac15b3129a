-- How declarations are kept in words: in prefix order, each form under a tag.
use Rattle.std.specs.Prelude.{ℕ, List, [], ◌∷◌, ◌++◌, length}
use Rattle.syntax.specs.Surface.{Name, Expr, e_name, e_at, e_full, e_sort, e_pi, e_lam, e_app, e_hole, e_by, e_have, Param, ConDecl, Decl, d_def, d_axiom, d_data}

-- A name: its length and its bytes, before what follows.
abbrev pub put_name : Name → List ℕ → List ℕ
put_name x r = length x ∷ (x ++ r)

-- Numbers behind a name: how many, and each.
abbrev pub put_numbers : List ℕ → List ℕ → List ℕ
put_numbers ns r = length ns ∷ (ns ++ r)

-- A term, before what follows.
abbrev pub put_expr : Expr → List ℕ → List ℕ
put_expr (e_name x) r = 1 ∷ put_name x r
put_expr (e_at x ns) r = 2 ∷ put_name x (put_numbers ns r)
put_expr (e_full x) r = 3 ∷ put_name x r
put_expr (e_sort i) r = 4 ∷ i ∷ r
put_expr (e_pi x a b) r = 5 ∷ put_name x (put_expr a (put_expr b r))
put_expr (e_lam x a b) r = 6 ∷ put_name x (put_expr a (put_expr b r))
put_expr (e_app f a) r = 7 ∷ put_expr f (put_expr a r)
put_expr e_hole r = 8 ∷ r
put_expr (e_by a) r = 9 ∷ put_expr a r
put_expr (e_have x a b c) r = 10 ∷ put_name x (put_expr a (put_expr b (put_expr c r)))

-- Parameters or fields: each under a tag, then the end.
abbrev pub put_params : List Param → List ℕ → List ℕ
put_params [] r = 0 ∷ r
put_params (p ∷ ps) r = 11 ∷ put_name p.name (put_expr p.type (put_params ps r))

-- Constructors: each under a tag, then the end.
abbrev pub put_cons : List ConDecl → List ℕ → List ℕ
put_cons [] r = 0 ∷ r
put_cons (c ∷ cs) r = 12 ∷ put_name c.name (put_params c.fields (c.recs ∷ put_cons cs r))

-- A declaration, before what follows.
abbrev pub put_decl : Decl → List ℕ → List ℕ
put_decl (d_def x h a b) r = 13 ∷ put_name x (h ∷ put_expr a (put_expr b r))
put_decl (d_axiom x h a) r = 14 ∷ put_name x (h ∷ put_expr a r)
put_decl (d_data x h ps l cs) r = 15 ∷ put_name x (h ∷ put_params ps (l ∷ put_cons cs r))

-- Declarations in a row.
abbrev pub put_decls : List Decl → List ℕ → List ℕ
put_decls [] r = r
put_decls (d ∷ ds) r = put_decl d (put_decls ds r)

-- The words of declarations.
abbrev pub decls_words : List Decl → List ℕ
decls_words ds = put_decls ds []
