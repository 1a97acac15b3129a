-- The grammar as functions from tokens: the value that is read, with the tokens behind it, or none. That these functions find
-- exactly what the grammar says is proved; the parser's contracts cite them.
use Rattle.std.specs.Prelude.{ℕ, zero, suc, Bool, false, cond, ◌&&◌, ◌||◌, List, [], ◌∷◌, length, nat_le}
use Rattle.std.proofs.Math.Option.{Option, some, none}
use Rattle.syntax.specs.Surface.{Name, same, Expr, e_name, e_at, e_full, e_sort, e_pi, e_lam, e_app, e_hole, e_by, e_have, Param, ConDecl, Decl, d_def, d_axiom, d_data}
use Rattle.syntax.specs.Grammar.{k_fun, k_type, k_def, k_theorem, k_axiom, k_data, k_hide, k_again, k_by, k_intro, k_exact, k_have, k_apply, t_lp, t_rp, t_lc, t_rc, t_semi, t_colon, t_dot, t_at, t_hole, t_is, t_so, t_to, is_name, is_indexed_lem, digits}

-- By cases on an option; a function of what is there; a function of what was read and of the tokens behind it.
abbrev pub option : {A C : Type 0} → Option A → C → (A → C) → C
option none c f = c
option (some x) c f = f x

abbrev pub bind : {A C : Type 0} → Option A → (A → Option C) → Option C
bind none f = none
bind (some x) f = f x

abbrev pub then : {A C : Type 0} → Option (A × List Name) → (A → List Name → Option C) → Option C
then none f = none
then (some p) f = f p.0 p.1

-- The given token; a name; a number.
abbrev pub eat : Name → List Name → Option (List Name)
eat k [] = none
eat k (w ∷ ts) = cond (same w k) (some ts) none

abbrev pub read_name : List Name → Option (Name × List Name)
read_name [] = none
read_name (w ∷ ts) = cond (is_name w) (some (w, ts)) none

abbrev pub number_of : Name → Option ℕ
number_of w = cond (nat_le 1 (length w) && nat_le (length w) 3) (digits 0 w) none

abbrev pub read_number : List Name → Option (ℕ × List Name)
read_number [] = none
read_number (w ∷ ts) = option (number_of w) none (λ n. some (n, ts))

-- ( x :
abbrev pub read_binder : List Name → Option (Name × List Name)
read_binder ts = bind (eat t_lp ts) (λ us. then (read_name us) (λ x vs. bind (eat t_colon vs) (λ ws. some (x, ws))))

-- Does an atom begin here?
abbrev pub starts_atom_lem : List Name → Bool
starts_atom_lem [] = false
starts_atom_lem (w ∷ ts) = is_indexed_lem w || (same w t_lp || (same w t_at || (same w k_type || (same w t_hole || same w k_by))))

-- The readers that call one another: terms; the arguments behind f; scripts; the scripts in braces behind apply.
pub record Readers : Type 0 where
  pub term : List Name → Option (Expr × List Name)
  pub row : Expr → List Name → Option (Expr × List Name)
  pub script : List Name → Option (Expr × List Name)
  pub args : Expr → List Name → Option (Expr × List Name)

-- A word, with numbers behind it or none.
abbrev pub read_dots : Name → List Name → Option (Expr × List Name)
read_dots w ts = then (read_number ts) (λ n us.
    option (eat t_dot us) (some (e_at w (n ∷ []), us)) (λ vs. then (read_number vs) (λ m ws. some (e_at w (n ∷ m ∷ []), ws))))

abbrev pub read_indexed : Name → List Name → Option (Expr × List Name)
read_indexed w ts = option (eat t_dot ts) (cond (is_name w) (some (e_name w, ts)) none) (read_dots w)

abbrev pub read_word : List Name → Option (Expr × List Name)
read_word [] = none
read_word (w ∷ ts) = cond (is_indexed_lem w) (read_indexed w ts) none

-- An atom.
abbrev pub read_atom : Readers → List Name → Option (Expr × List Name)
read_atom r ts =
    option (eat t_lp ts)
    (option (eat t_at ts)
    (option (eat k_type ts)
    (option (eat t_hole ts)
    (option (eat k_by ts)
    (read_word ts)
    (λ us. bind (eat t_lc us) (λ vs. then (r.script vs) (λ a ws. bind (eat t_rc ws) (λ xs. some (e_by a, xs))))))
    (λ us. some (e_hole, us)))
    (λ us. then (read_number us) (λ n vs. some (e_sort n, vs))))
    (λ us. then (read_name us) (λ x vs. some (e_full x, vs))))
    (λ us. then (r.term us) (λ a vs. bind (eat t_rp vs) (λ ws. some (a, ws))))

-- The arguments behind f.
abbrev pub read_row : Readers → Expr → List Name → Option (Expr × List Name)
read_row r f ts = cond (starts_atom_lem ts) (then (read_atom r ts) (λ a us. r.row (e_app f a) us)) (some (f, ts))

-- A row of uses, and what an arrow behind it leads to.
abbrev pub read_arrow : Readers → List Name → Option (Expr × List Name)
read_arrow r ts =
    then (read_atom r ts) (λ a us. then (r.row a us) (λ f vs.
    option (eat t_to vs) (some (f, vs)) (λ ws. then (r.term ws) (λ b xs. some (e_pi [] f b, xs)))))

-- Behind ( x : of a function type, and behind fun ( x : of a function.
abbrev pub read_pi : Readers → Name → List Name → Option (Expr × List Name)
read_pi r x ts =
    then (r.term ts) (λ a us. bind (eat t_rp us) (λ vs. bind (eat t_to vs) (λ ws. then (r.term ws) (λ b xs. some (e_pi x a b, xs)))))

abbrev pub read_lam : Readers → Name → List Name → Option (Expr × List Name)
read_lam r x ts =
    then (r.term ts) (λ a us. bind (eat t_rp us) (λ vs. bind (eat t_so vs) (λ ws. then (r.term ws) (λ b xs. some (e_lam x a b, xs)))))

-- A term.
abbrev pub read_term : Readers → List Name → Option (Expr × List Name)
read_term r ts =
    option (eat k_fun ts)
    (option (read_binder ts) (read_arrow r ts) (λ p. read_pi r p.0 p.1))
    (λ us. then (read_binder us) (read_lam r))

-- The scripts in braces behind apply a.
abbrev pub read_args : Readers → Expr → List Name → Option (Expr × List Name)
read_args r a ts =
    option (eat t_lc ts) (some (a, ts)) (λ us. then (r.script us) (λ b vs. bind (eat t_rc vs) (λ ws. r.args (e_app a b) ws)))

-- A script, by its first word.
abbrev pub read_intro : Readers → List Name → Option (Expr × List Name)
read_intro r ts = then (read_name ts) (λ x us. bind (eat t_semi us) (λ vs. then (r.script vs) (λ a ws. some (e_lam x e_hole a, ws))))

abbrev pub read_have : Readers → List Name → Option (Expr × List Name)
read_have r ts =
    then (read_name ts) (λ x us. bind (eat t_colon us) (λ vs. then (r.term vs) (λ a ws. bind (eat t_lc ws) (λ xs.
    then (r.script xs) (λ b ys. bind (eat t_rc ys) (λ zs. then (r.script zs) (λ c ps. some (e_have x a b c, ps))))))))

abbrev pub read_exact : Readers → List Name → Option (Expr × List Name)
read_exact r ts = then (r.term ts) (λ a us. bind (eat t_semi us) (λ vs. some (a, vs)))

abbrev pub read_apply : Readers → List Name → Option (Expr × List Name)
read_apply r ts = then (r.term ts) (λ a us. bind (eat t_semi us) (λ vs. r.args a vs))

abbrev pub read_script : Readers → List Name → Option (Expr × List Name)
read_script r ts =
    option (eat k_intro ts)
    (option (eat k_have ts)
    (option (eat k_exact ts)
    (option (eat k_apply ts) none
    (read_apply r))
    (read_exact r))
    (read_have r))
    (read_intro r)

-- The readers, with n calls of one another allowed; more than there are tokens is enough.
abbrev pub readers : ℕ → Readers
readers zero = record { term = λ ts. none; row = λ f ts. none; script = λ ts. none; args = λ a ts. none }
readers (suc n) = record { term = read_term (readers n); row = read_row (readers n); script = read_script (readers n); args = read_args (readers n) }

-- Parameters or fields, each in brackets.
abbrev pub read_params : ℕ → List Name → Option (List Param × List Name)
read_params zero ts = none
read_params (suc n) ts =
    option (eat t_lp ts) (some ([], ts)) (λ us.
    then (read_name us) (λ x vs. bind (eat t_colon vs) (λ ws. then ((readers n).term ws) (λ a xs. bind (eat t_rp xs) (λ ys.
    then (read_params n ys) (λ ps zs. some (record { name = x; type = a } ∷ ps, zs)))))))

-- Constructors up to the closing brace, and the brace.
abbrev pub read_cons : ℕ → List Name → Option (List ConDecl × List Name)
read_cons zero ts = none
read_cons (suc n) ts =
    option (eat t_rc ts)
    (then (read_name ts) (λ x us. then (read_params n us) (λ ps vs. bind (eat k_again vs) (λ ws. then (read_number ws) (λ k xs.
    bind (eat t_semi xs) (λ ys. then (read_cons n ys) (λ cs zs. some (record { name = x; fields = ps; recs = k } ∷ cs, zs))))))))
    (λ us. some ([], us))

-- hide n, or nothing, which hides none.
abbrev pub read_hide : List Name → Option (ℕ × List Name)
read_hide ts = option (eat k_hide ts) (some (0, ts)) read_number

-- A declaration behind its keyword, and with it.
abbrev pub read_def : ℕ → List Name → Option (Decl × List Name)
read_def n ts =
    then (read_name ts) (λ x us. then (read_hide us) (λ h vs. bind (eat t_colon vs) (λ ws. then ((readers n).term ws) (λ a xs.
    bind (eat t_is xs) (λ ys. then ((readers n).term ys) (λ b zs. bind (eat t_semi zs) (λ ps. some (d_def x h a b, ps))))))))

abbrev pub read_axiom : ℕ → List Name → Option (Decl × List Name)
read_axiom n ts =
    then (read_name ts) (λ x us. then (read_hide us) (λ h vs. bind (eat t_colon vs) (λ ws. then ((readers n).term ws) (λ a xs.
    bind (eat t_semi xs) (λ ys. some (d_axiom x h a, ys))))))

abbrev pub read_data : ℕ → List Name → Option (Decl × List Name)
read_data n ts =
    then (read_name ts) (λ x us. then (read_hide us) (λ h vs. then (read_params n vs) (λ ps ws. bind (eat t_colon ws) (λ xs.
    bind (eat k_type xs) (λ ys. then (read_number ys) (λ l zs. bind (eat t_lc zs) (λ qs. then (read_cons n qs) (λ cs rs.
    some (d_data x h ps l cs, rs)))))))))

abbrev pub read_decl : ℕ → List Name → Option (Decl × List Name)
read_decl n ts =
    option (eat k_def ts)
    (option (eat k_theorem ts)
    (option (eat k_axiom ts)
    (option (eat k_data ts) none
    (read_data n))
    (read_axiom n))
    (read_def n))
    (read_def n)

-- All declarations, to the end of the tokens.
abbrev pub read_decls : ℕ → List Name → Option (List Decl)
read_decls zero ts = none
read_decls (suc n) [] = some []
read_decls (suc n) (w ∷ ts) = then (read_decl n (w ∷ ts)) (λ d us. bind (read_decls n us) (λ ds. some (d ∷ ds)))
