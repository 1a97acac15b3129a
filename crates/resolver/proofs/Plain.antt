-- Plain declarations stand for one entry each, the resolved one; so nothing is left out that would have to be forced.
-- A resolved term is not larger than what is written.
use Rattle.std.proofs.Common.{◌≡◌, ℕ, ◌+◌, ◌*◌, ◌<◌, ◌≤◌, max, true, List, [], ◌∷◌, ◌++◌, length, sym, refl, ap, ◌∙◌, subst as tr, arith, length-append}
use mathlib.Core.Option.{some}
use Rattle.theory.specs.Terms.{Term, sort, option, size}
use Rattle.theory.specs.Environment.{Entry, Env}
use Rattle.theory.specs.Reduction.{conv_refl}
use Rattle.theory.proofs.Options.{none-some, false-true, some_inj, cases_option, cond-some, option-some, and_true}
use Rattle.syntax.specs.Surface.{Name, Expr, e_name, e_at, e_full, e_sort, e_pi, e_lam, e_app, e_hole, e_by, e_have, expr_stage, Decl, d_def, d_axiom, d_data}
use Rattle.syntax.specs.Tree.{put_expr, put_numbers}
use Rattle.syntax.proofs.TreeWords.{expr_then}
use Rattle.elaboration.specs.Elaboration.{Global, Elab, index_of, lookup, indexed_head}
use Rattle.elaboration.specs.Declarations.{ElabDecl, el_def, el_axiom, el_data, Forced, ConvEntry, conv_defined, conv_assumed}
use Rattle.resolver.specs.Resolving.{basic, nodes, name_term, indexed_term, resolves, resolved, resolve, resolve_decl, basic_decl, scripted}
use Rattle.resolver.proofs.Resolution.{NoneHidden, sound, complete}

-- Terms: sound, complete and unique.
pub resolve_sound : {gs : List Global} → NoneHidden gs → (ys : List Name) (e : Expr) (t : Term) → resolve gs ys e ≡ some t → Elab gs ys e t
resolve_sound {gs} h ys e t p = cond-some (resolves gs ys e) (some (resolved gs ys e)) p λ q r. tr (Elab gs ys e) (some_inj r) (sound h e q)

pub resolve_complete : {gs : List Global} → NoneHidden gs → (ys : List Name) (e : Expr) (t : Term) → basic e ≡ true → Elab gs ys e t → resolve gs ys e ≡ some t
resolve_complete {gs} h ys e t b d = let c = complete h d b in rw (c.0, c.1) refl

pub elab_unique : {gs : List Global} → NoneHidden gs → (ys : List Name) (e : Expr) (t u : Term) → basic e ≡ true → Elab gs ys e t → Elab gs ys e u → t ≡ u
elab_unique h ys e t u b p q = some_inj (sym (resolve_complete h ys e t b p) ∙ resolve_complete h ys e u b q)

-- Declarations: likewise.
pub decl_sound : {gs : List Global} → NoneHidden gs → (d : Decl) (c : Entry) → resolve_decl gs d ≡ some c → ElabDecl gs d c
decl_sound {gs} h (d_def x k a b) c p = option-some (resolve gs [] a) _ p λ u q r. option-some (resolve gs [] b) _ r λ t s w.
    tr (ElabDecl gs (d_def x k a b)) (some_inj w) (el_def (resolve_sound h [] a u q) (resolve_sound h [] b t s))
decl_sound {gs} h (d_axiom x k a) c p = option-some (resolve gs [] a) _ p λ u q r. tr (ElabDecl gs (d_axiom x k a)) (some_inj r) (el_axiom (resolve_sound h [] a u q))
decl_sound h (d_data x k ps l cs) c p = none-some p

pub decl_complete : {gs : List Global} → NoneHidden gs → {d : Decl} {c : Entry} → ElabDecl gs d c → basic_decl d ≡ true → resolve_decl gs d ≡ some c
decl_complete {gs} h (el_def {a = a} {b = b} {c = c} {t = t} p q) s = and_true _ _ s λ u v. rw (resolve_complete h [] a c u p, resolve_complete h [] b t v q) refl
decl_complete {gs} h (el_axiom {a = a} {c = c} p) s = rw (resolve_complete h [] a c s p) refl
decl_complete h (el_data p q) s = false-true s

-- An entry is convertible to itself, so the only one is forced.
entry_refl : (e : Env) {gs : List Global} {d : Decl} {c : Entry} → ElabDecl gs d c → basic_decl d ≡ true → ConvEntry e c c
entry_refl e (el_def p q) s = conv_defined conv_refl conv_refl
entry_refl e (el_axiom p) s = conv_assumed conv_refl
entry_refl e (el_data p q) s = false-true s

pub forced : {gs : List Global} → NoneHidden gs → (e : Env) (d : Decl) (c : Entry) → basic_decl d ≡ true → ElabDecl gs d c → Forced gs e d c
forced h e d c s p b q = tr (ConvEntry e c) (some_inj (sym (decl_complete h p s) ∙ decl_complete h q.0 s)) (entry_refl e p s)

-- The nodes of the resolved term, and the words that say it.
pub name_size : (gs : List Global) (ys : List Name) (x : Name) → size (option (name_term gs ys x) (sort 0) (λ t. t)) ≡ 1
name_size gs ys x = cases_option (index_of ys x) (λ n. cases_option (lookup gs x) (λ m. rw (n, m) refl) (λ g m. rw (n, m) refl)) (λ k q. rw q refl)

pub indexed_size : (gs : List Global) (ys : List Name) (x : Name) (ns : List ℕ) → size (option (indexed_term gs ys x ns) (sort 0) (λ t. t)) ≡ 1
indexed_size gs ys x ns = cases_option (index_of ys x) (λ n. cases_option (indexed_head gs x ns) (λ m. rw (n, m) refl) (λ g m. rw (n, m) refl)) (λ k q. rw q refl)

pub resolved-size : (gs : List Global) (ys : List Name) (e : Expr) → size (resolved gs ys e) ≡ nodes e
resolved-size gs ys (e_name x) = name_size gs ys x
resolved-size gs ys (e_at x ns) = indexed_size gs ys x ns
resolved-size gs ys (e_full x) = refl
resolved-size gs ys (e_sort i) = refl
resolved-size gs ys (e_pi x a b) = omega (arith, resolved-size gs ys a, resolved-size gs (x ∷ ys) b)
resolved-size gs ys (e_lam x a b) = omega (arith, resolved-size gs ys a, resolved-size gs (x ∷ ys) b)
resolved-size gs ys (e_app f a) = omega (arith, resolved-size gs ys f, resolved-size gs ys a)
resolved-size gs ys e_hole = refl
resolved-size gs ys (e_by a) = refl
resolved-size gs ys (e_have x a b c) = refl

-- Two words of the tree make room for three words of the term.
both : (a b : Expr) (r : List ℕ) → length (put_expr a (put_expr b r)) ≡ length (put_expr a []) + (length (put_expr b []) + length r)
both a b r = ap length (expr_then a (put_expr b r) ∙ ap (λ (z : List ℕ). put_expr a [] ++ z) (expr_then b r)) ∙ length-append (put_expr a []) _ ∙ ap (λ (n : ℕ). length (put_expr a []) + n) (length-append (put_expr b []) r)

pub nodes_few : (e : Expr) → basic e ≡ true → 3 * nodes e + 1 ≤ 2 * length (put_expr e [])
nodes_few (e_name x) p = omega (arith, length-append x [])
nodes_few (e_at x ns) p = omega (arith, length-append x (put_numbers ns []))
nodes_few (e_full x) p = false-true p
nodes_few (e_sort i) p = omega arith
nodes_few (e_pi x a b) p = and_true (basic a) (basic b) p λ q r. omega (arith, nodes_few a q, nodes_few b r, length-append x (put_expr a (put_expr b [])), both a b [])
nodes_few (e_lam x a b) p = and_true (basic a) (basic b) p λ q r. omega (arith, nodes_few a q, nodes_few b r, length-append x (put_expr a (put_expr b [])), both a b [])
nodes_few (e_app f a) p = and_true (basic f) (basic a) p λ q r. omega (arith, nodes_few f q, nodes_few a r, both f a [])
nodes_few e_hole p = false-true p
nodes_few (e_by a) p = false-true p
nodes_few (e_have x a b c) p = false-true p

-- Terms of the first three stages, in which have stands in scripts only, are plain.
max_left : (a b n : ℕ) → max a b < n → a < n
max_left a b n h = omega arith

max_right : (a b n : ℕ) → max a b < n → b < n
max_right a b n h = omega arith

pub stage-basic : (e : Expr) → expr_stage e < 3 → scripted e ≡ true → basic e ≡ true
stage-basic (e_name x) h p = refl
stage-basic (e_at x ns) h p = refl
stage-basic (e_full x) h p = absurd (let z : ⊥ = omega arith in z)
stage-basic (e_sort i) h p = refl
stage-basic (e_pi x a b) h p = and_true _ _ p λ q r. rw (stage-basic a (max_left _ _ _ h) q, stage-basic b (max_right (expr_stage a) _ _ h) r) refl
stage-basic (e_lam x a b) h p = and_true _ _ p λ q r. rw (stage-basic a (max_left _ _ _ h) q, stage-basic b (max_right (expr_stage a) _ _ h) r) refl
stage-basic (e_app f a) h p = and_true _ _ p λ q r. rw (stage-basic f (max_left _ _ _ h) q, stage-basic a (max_right (expr_stage f) _ _ h) r) refl
stage-basic e_hole h p = absurd (let z : ⊥ = omega arith in z)
stage-basic (e_by a) h p = absurd (let z : ⊥ = omega (arith, max_left 5 (expr_stage a) 3 h) in z)
stage-basic (e_have x a b c) h p = false-true p
