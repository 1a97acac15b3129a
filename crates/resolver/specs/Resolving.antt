-- Plain terms resolved: a name is the innermost binding of that name, else what was declared.
use Rattle.std.specs.Prelude.{ℕ, ◌+◌, Bool, true, false, cond, ◌&&◌, List, [], ◌∷◌}
use Rattle.std.proofs.Math.Option.{Option, some, none}
use Rattle.theory.specs.Terms.{Term, var, const, sort, pi, lam, app, option}
use Rattle.theory.specs.Environment.{Entry, defined, assumed}
use Rattle.syntax.specs.Surface.{Name, Expr, e_name, e_at, e_full, e_sort, e_pi, e_lam, e_app, e_hole, e_by, e_have, Decl, d_def, d_axiom, d_data}
use Rattle.elaboration.specs.Elaboration.{Global, lookup, index_of, indexed_head}

-- Is it of the first three stages: no hole, no @x, no script?
abbrev pub basic : Expr → Bool
basic (e_name x) = true
basic (e_at x ns) = true
basic (e_full x) = false
basic (e_sort i) = true
basic (e_pi x a b) = basic a && basic b
basic (e_lam x a b) = basic a && basic b
basic (e_app f a) = basic f && basic a
basic e_hole = false
basic (e_by a) = false
basic (e_have x a b c) = false

-- The nodes of the term that it stands for.
abbrev pub nodes : Expr → ℕ
nodes (e_name x) = 1
nodes (e_at x ns) = 1
nodes (e_full x) = 1
nodes (e_sort i) = 1
nodes (e_pi x a b) = 1 + (nodes a + nodes b)
nodes (e_lam x a b) = 1 + (nodes a + nodes b)
nodes (e_app f a) = 1 + (nodes f + nodes a)
nodes e_hole = 1
nodes (e_by a) = 1
nodes (e_have x a b c) = 1

-- What a name stands for, and what a name with numbers stands for.
abbrev pub name_term : List Global → List Name → Name → Option Term
name_term gs ys x = option (index_of ys x) (option (lookup gs x) none (λ g. some (const g.head))) (λ n. some (var n))

abbrev pub indexed_term : List Global → List Name → Name → List ℕ → Option Term
indexed_term gs ys x ns = option (index_of ys x) (option (indexed_head gs x ns) none (λ h. some (const h))) (λ n. none)

-- Is there one?
abbrev pub is_some : {A : Type 0} → Option A → Bool
is_some o = option o false (λ x. true)

-- Has every name of the term something that it stands for?
abbrev pub resolves : List Global → List Name → Expr → Bool
resolves gs ys (e_name x) = is_some (name_term gs ys x)
resolves gs ys (e_at x ns) = is_some (indexed_term gs ys x ns)
resolves gs ys (e_full x) = false
resolves gs ys (e_sort i) = true
resolves gs ys (e_pi x a b) = resolves gs ys a && resolves gs (x ∷ ys) b
resolves gs ys (e_lam x a b) = resolves gs ys a && resolves gs (x ∷ ys) b
resolves gs ys (e_app f a) = resolves gs ys f && resolves gs ys a
resolves gs ys e_hole = false
resolves gs ys (e_by a) = false
resolves gs ys (e_have x a b c) = false

-- The term, with Type 0 for what is nowhere.
abbrev pub resolved : List Global → List Name → Expr → Term
resolved gs ys (e_name x) = option (name_term gs ys x) (sort 0) (λ t. t)
resolved gs ys (e_at x ns) = option (indexed_term gs ys x ns) (sort 0) (λ t. t)
resolved gs ys (e_full x) = sort 0
resolved gs ys (e_sort i) = sort i
resolved gs ys (e_pi x a b) = pi (resolved gs ys a) (resolved gs (x ∷ ys) b)
resolved gs ys (e_lam x a b) = lam (resolved gs ys a) (resolved gs (x ∷ ys) b)
resolved gs ys (e_app f a) = app (resolved gs ys f) (resolved gs ys a)
resolved gs ys e_hole = sort 0
resolved gs ys (e_by a) = sort 0
resolved gs ys (e_have x a b c) = sort 0

-- The term that a plain term stands for, if every name is somewhere.
abbrev pub resolve : List Global → List Name → Expr → Option Term
resolve gs ys e = cond (resolves gs ys e) (some (resolved gs ys e)) none

-- The entry that a plain definition or axiom stands for.
abbrev pub resolve_decl : List Global → Decl → Option Entry
resolve_decl gs (d_def x h a b) = option (resolve gs [] a) none (λ c. option (resolve gs [] b) none (λ t. some (defined t c)))
resolve_decl gs (d_axiom x h a) = option (resolve gs [] a) none (λ c. some (assumed c))
resolve_decl gs (d_data x h ps l cs) = none

-- Is it a plain definition or axiom?
abbrev pub basic_decl : Decl → Bool
basic_decl (d_def x h a b) = basic a && basic b
basic_decl (d_axiom x h a) = basic a
basic_decl (d_data x h ps l cs) = false

-- Does have stand in scripts only?
abbrev pub scripted : Expr → Bool
scripted (e_name x) = true
scripted (e_at x ns) = true
scripted (e_full x) = true
scripted (e_sort i) = true
scripted (e_pi x a b) = scripted a && scripted b
scripted (e_lam x a b) = scripted a && scripted b
scripted (e_app f a) = scripted f && scripted a
scripted e_hole = true
scripted (e_by a) = true
scripted (e_have x a b c) = false
