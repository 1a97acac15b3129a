-- The words of declarations in the tree bound what is kept of them: their names, the words of their entries, the words for resolving.
use Rattle.std.proofs.Common.{◌≡◌, ℕ, ◌+◌, ◌*◌, ◌≤◌, true, List, [], ◌∷◌, length, sym, ap, ◌∙◌, arith, length-append}
use Rattle.theory.proofs.Options.{and_true, false-true}
use Rattle.syntax.specs.Surface.{Expr, e_name, e_at, e_full, e_sort, e_pi, e_lam, e_app, e_hole, e_by, e_have, Param, ConDecl, Decl, d_def, d_axiom, d_data, con_names, decl_names, names_of}
use Rattle.syntax.specs.Tree.{put_expr, put_params, put_cons, put_decl, put_decls}
use Rattle.syntax.proofs.TreeWords.{expr_then}
use Rattle.syntax.proofs.DeclReadings.{params_then}
use Rattle.syntax.proofs.Items.{all_words}
use Rattle.syntax.proofs.AllReadings.{decls_apart}
use Rattle.syntax.specs.Declaring.{decl_words}
use Rattle.resolver.specs.Resolving.{basic, basic_decl}
use Rattle.resolver.specs.Entries.{decl_nodes}
use Rattle.resolver.proofs.Plain.{nodes_few}

-- The words of one declaration, and those behind it.
pub decl_length : (d : Decl) (ds : List Decl) → length (put_decl d (put_decls ds [])) ≡ length (put_decl d []) + length (put_decls ds [])
decl_length d ds =
    ap length (sym (decls_apart (d ∷ ds))) ∙ length-append (put_decl d []) (all_words decl_words ds) ∙ ap (λ (r : List ℕ). length (put_decl d []) + length r) (decls_apart ds)

expr_length : (a : Expr) (r : List ℕ) → length (put_expr a r) ≡ length (put_expr a []) + length r
expr_length a r = ap length (expr_then a r) ∙ length-append (put_expr a []) r

-- Each name of a declaration takes at least two words.
params_some : (ps : List Param) (r : List ℕ) → 1 + length r ≤ length (put_params ps r)
params_some ps r = omega (arith, ap length (params_then ps [] r) ∙ length-append (put_params ps []) r, some_param ps)
  where
    some_param : (ps : List Param) → 1 ≤ length (put_params ps [])
    some_param [] = omega arith
    some_param (p ∷ qs) = omega arith

cons_names : (cs : List ConDecl) → 4 * length (con_names cs) ≤ length (put_cons cs [])
cons_names [] = omega arith
cons_names (c ∷ cs) = omega (arith, cons_names cs, length-append c.name (put_params c.fields (c.recs ∷ put_cons cs [])), params_some c.fields (c.recs ∷ put_cons cs []))

decl_names_few : (d : Decl) → 4 * length (decl_names d) ≤ 2 * length (put_decl d [])
decl_names_few (d_def x h a b) = omega (arith, length-append x (h ∷ put_expr a (put_expr b [])))
decl_names_few (d_axiom x h a) = omega (arith, length-append x (h ∷ put_expr a []))
decl_names_few (d_data x h ps l cs) = omega (arith, cons_names cs, params_some ps (l ∷ put_cons cs []), length-append x (h ∷ put_params ps (l ∷ put_cons cs [])))

pub names_few : (ds : List Decl) → 4 * length (names_of ds) ≤ 2 * length (put_decls ds [])
names_few [] = omega arith
names_few (d ∷ ds) = omega (arith, decl_names_few d, names_few ds, decl_length d ds, length-append (decl_names d) (names_of ds))

-- The entry of a plain definition or axiom, with its names, takes at most twice its words.
pub entry_few : (d : Decl) → basic_decl d ≡ true → 3 + (3 * decl_nodes d + 4 * length (decl_names d)) ≤ 2 * length (put_decl d [])
entry_few (d_def x h a b) p = and_true (basic a) (basic b) p λ q r.
    omega (arith, nodes_few a q, nodes_few b r, length-append x (h ∷ put_expr a (put_expr b [])), expr_length a (put_expr b []), expr_length b [])
entry_few (d_axiom x h a) p = omega (arith, nodes_few a p, length-append x (h ∷ put_expr a []), expr_length a [])
entry_few (d_data x h ps l cs) p = false-true p

-- Every declaration takes at least four words.
expr_some : (a : Expr) (r : List ℕ) → 1 ≤ length (put_expr a r)
expr_some (e_name x) r = omega arith
expr_some (e_at x ns) r = omega arith
expr_some (e_full x) r = omega arith
expr_some (e_sort i) r = omega arith
expr_some (e_pi x a b) r = omega arith
expr_some (e_lam x a b) r = omega arith
expr_some (e_app f a) r = omega arith
expr_some e_hole r = omega arith
expr_some (e_by a) r = omega arith
expr_some (e_have x a b c) r = omega arith

decl_four : (d : Decl) → 4 ≤ length (put_decl d [])
decl_four (d_def x h a b) = omega (arith, expr_some a (put_expr b []), length-append x (h ∷ put_expr a (put_expr b [])))
decl_four (d_axiom x h a) = omega (arith, expr_some a [], length-append x (h ∷ put_expr a []))
decl_four (d_data x h ps l cs) = omega (arith, params_some ps (l ∷ put_cons cs []), length-append x (h ∷ put_params ps (l ∷ put_cons cs [])))

pub decls_few : (ds : List Decl) → 4 * length ds ≤ length (put_decls ds [])
decls_few [] = omega arith
decls_few (d ∷ ds) = omega (arith, decl_four d, decls_few ds, decl_length d ds)
