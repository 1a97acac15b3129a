-- The words that begin declarations are reserved: no term, script, parameter or constructor has one. So in a text that reads, the
-- n-th of these words begins the n-th declaration.
use Rattle.std.proofs.Common.{◌≡◌, ℕ, zero, suc, ◌-◌, Bool, true, false, T, eqb, List, [], ◌∷◌, ◌++◌, sym, refl, ap, ◌∙◌, subst as tr, subst₂ as tr₂, arith}
use mathlib.Core.Option.{some}
use Rattle.std.proofs.lemmas.Bool.{cond-true, cond-false, ne_eqb}
use Rattle.syntax.specs.Surface.{Name, same, Expr, Param, ConDecl, Decl}
use Rattle.syntax.specs.Grammar.{k_def, k_theorem, k_axiom, k_data, is_name, is_indexed_lem, IsNumber, IsDots, x_one, x_two, IsExpr, x_tighter, x_fun, x_pi, x_arrow, x_app, x_name, x_at, x_full, x_sort, x_hole, x_brackets, x_by, IsScript, x_exact, x_intro, x_have, x_apply, IsArgs, x_no_args, x_arg, IsParams, x_no_params, x_param, IsCons, x_no_cons, x_con, IsHide, x_no_hide, x_hide, IsDecl, x_def, x_theorem, x_axiom, x_data, IsDecls, x_no_decls, x_decl}
use Rattle.syntax.specs.Headers.{begins_decl, nth_decl, decl_name, name_at, Declared, HeadersRight}
use Rattle.syntax.proofs.Gives.{no_some}
use Rattle.syntax.proofs.Same.{to_true}
use Rattle.syntax.proofs.Scanning.{same_true}

-- What no word has that begins a declaration tells a word from them.
other : (P : Name → Type 0) → (P k_def → ⊥) → (P k_theorem → ⊥) → (P k_axiom → ⊥) → (P k_data → ⊥) → (w : Name) → P w → begins_decl w ≡ false
other P n₁ n₂ n₃ n₄ w p = go (same w k_def) (same w k_theorem) (same w k_axiom) (same w k_data) refl refl refl refl
  where
    go : (a b c d : Bool) → same w k_def ≡ a → same w k_theorem ≡ b → same w k_axiom ≡ c → same w k_data ≡ d → begins_decl w ≡ false
    go true b c d q₁ q₂ q₃ q₄ = absurd (n₁ (tr P (same_true w k_def q₁) p))
    go false true c d q₁ q₂ q₃ q₄ = absurd (n₂ (tr P (same_true w k_theorem q₂) p))
    go false false true d q₁ q₂ q₃ q₄ = absurd (n₃ (tr P (same_true w k_axiom q₃) p))
    go false false false true q₁ q₂ q₃ q₄ = absurd (n₄ (tr P (same_true w k_data q₄) p))
    go false false false false q₁ q₂ q₃ q₄ = rw (q₁, q₂, q₃, q₄) refl

name_other : (x : Name) → T (is_name x) → begins_decl x ≡ false
name_other = other (λ w. T (is_name w)) (λ p. p) (λ p. p) (λ p. p) (λ p. p)

indexed_other : (x : Name) → T (is_indexed_lem x) → begins_decl x ≡ false
indexed_other = other (λ w. T (is_indexed_lem w)) (λ p. p) (λ p. p) (λ p. p) (λ p. p)

number_other : (w : Name) {n : ℕ} → IsNumber w n → begins_decl w ≡ false
number_other w {n} = other (λ v. IsNumber v n) (λ p. no_some p.1) (λ p. no_some p.1) (λ p. no_some p.1) (λ p. no_some p.1) w

-- No token begins a declaration.
abbrev Others : List Name → Type 0
Others [] = Unit {0}
Others (w ∷ ws) = (begins_decl w ≡ false) × Others ws

append : (s t : List Name) → Others s → Others t → Others (s ++ t)
append [] t p q = q
append (w ∷ ws) t p q = (p.0, append ws t p.1 q)

-- Terms, scripts, scripts in braces.
dots_others : {s : List Name} {ns : List ℕ} → IsDots s ns → Others s
dots_others (x_one {w} i) = (refl, (number_other w i, tt))
dots_others (x_two {w} {v} i j) = (refl, (number_other w i, (refl, (number_other v j, tt))))

mutual
  expr_others : {n : ℕ} {s : List Name} {a : Expr} → IsExpr n s a → Others s
  expr_others (x_tighter h e) = expr_others e
  expr_others (x_fun {x} {s} {t} p e f) = (refl, (refl, (name_other x p, (refl, append s _ (expr_others e) (refl, (refl, expr_others f))))))
  expr_others (x_pi {x} {s} {t} p e f) = (refl, (name_other x p, (refl, append s _ (expr_others e) (refl, (refl, expr_others f)))))
  expr_others (x_arrow {s} {t} e f) = append s _ (expr_others e) (refl, expr_others f)
  expr_others (x_app {s} {t} e f) = append s t (expr_others e) (expr_others f)
  expr_others (x_name {x} p) = (name_other x p, tt)
  expr_others (x_at {x} {s} p d) = (indexed_other x p, dots_others d)
  expr_others (x_full {x} p) = (refl, (name_other x p, tt))
  expr_others (x_sort {w} i) = (refl, (number_other w i, tt))
  expr_others x_hole = (refl, tt)
  expr_others (x_brackets {s} e) = (refl, append s _ (expr_others e) (refl, tt))
  expr_others (x_by {s} e) = (refl, (refl, append s _ (script_others e) (refl, tt)))

  script_others : {s : List Name} {a : Expr} → IsScript s a → Others s
  script_others (x_exact {s} e) = (refl, append s _ (expr_others e) (refl, tt))
  script_others (x_intro {x} {s} p e) = (refl, (name_other x p, (refl, script_others e)))
  script_others (x_have {x} {s} {t} {u} p e f g) = (refl, (name_other x p, (refl, append s _ (expr_others e) (refl, append t _ (script_others f) (refl, script_others g)))))
  script_others (x_apply {s} {t} e f) = (refl, append s _ (expr_others e) (refl, args_others f))

  args_others : {t : List Name} {a b : Expr} → IsArgs t a b → Others t
  args_others x_no_args = tt
  args_others (x_arg {s} {t} e f) = (refl, append s _ (script_others e) (refl, args_others f))

-- Parameters, constructors, hide n.
params_others : {s : List Name} {ps : List Param} → IsParams s ps → Others s
params_others x_no_params = tt
params_others (x_param {x} {s} {t} p e f) = (refl, (name_other x p, (refl, append s _ (expr_others e) (refl, params_others f))))

cons_others : {s : List Name} {cs : List ConDecl} → IsCons s cs → Others s
cons_others x_no_cons = tt
cons_others (x_con w {x} {s = s} p e i f) = (name_other x p, append s _ (params_others e) (refl, (number_other w i, (refl, cons_others f))))

hide_others : {s : List Name} {n : ℕ} → IsHide s n → Others s
hide_others x_no_hide = tt
hide_others (x_hide {w} i) = (refl, (number_other w i, tt))

-- A declaration: a word that begins one, its name, and no such word behind it.
pub record Headed (s : List Name) (d : Decl) : Type 0 where
  pub word : Name
  pub behind : List Name
  pub is : s ≡ word ∷ decl_name d ∷ behind
  pub begins : begins_decl word ≡ true
  pub named : T (is_name (decl_name d))
  pub others : Others behind

headed : {s : List Name} {d : Decl} → IsDecl s d → Headed s d
headed (x_def {x} {h} {r} {s} {t} p i e f) =
    record { word = k_def; behind = _; is = refl; begins = refl; named = p; others = append r _ (hide_others i) (refl, append s _ (expr_others e) (refl, append t _ (expr_others f) (refl, tt))) }
headed (x_theorem {x} {h} {r} {s} {t} p i e f) =
    record { word = k_theorem; behind = _; is = refl; begins = refl; named = p; others = append r _ (hide_others i) (refl, append s _ (expr_others e) (refl, append t _ (expr_others f) (refl, tt))) }
headed (x_axiom {x} {h} {r} {s} p i e) =
    record { word = k_axiom; behind = _; is = refl; begins = refl; named = p; others = append r _ (hide_others i) (refl, append s _ (expr_others e) (refl, tt)) }
headed (x_data w {x} {r = r} {s = s} {t = t} p i e j f) =
    record { word = k_data; behind = _; is = refl; begins = refl; named = p; others = append r _ (hide_others i) (append s _ (params_others e) (refl, (refl, (number_other w j, (refl, append t _ (cons_others f) (refl, tt)))))) }

-- Looking for the n-th declaration goes past tokens that begin none.
past : (n : ℕ) (s t : List Name) → Others s → nth_decl n (s ++ t) ≡ nth_decl n t
past n [] t p = refl
past n (w ∷ ws) t p = cond-false (begins_decl w) _ _ p.0 ∙ past n ws t p.1

-- The first declaration, and one behind it.
first_here : (s t : List Name) (d : Decl) → Headed s d → nth_decl 0 (s ++ t) ≡ some (s ++ t)
first_here s t d h = rw h.is (cond-true (begins_decl h.word) _ _ h.begins)

later_there : (n : ℕ) (s t : List Name) (d : Decl) → Headed s d → nth_decl (suc n) (s ++ t) ≡ nth_decl n t
later_there n s t d h =
    rw h.is (cond-true (begins_decl h.word) _ _ h.begins ∙ cond-false (eqb (suc n) 0) _ _ (ne_eqb (suc n) 0 (λ e. omega arith))
    ∙ ap (λ (m : ℕ). nth_decl m (decl_name d ∷ (h.behind ++ t))) (let z : suc n - 1 ≡ n = omega arith in z)
    ∙ past n (decl_name d ∷ h.behind) t (name_other (decl_name d) h.named, h.others))

next_name : (n : ℕ) (d : Decl) (ds : List Decl) → name_at (d ∷ ds) (suc n) ≡ name_at ds n
next_name n d ds = cond-false (eqb (suc n) 0) _ _ (ne_eqb (suc n) 0 (λ e. omega arith)) ∙ ap (name_at ds) (let z : suc n - 1 ≡ n = omega arith in z)

-- So the n-th of these words begins the n-th declaration.
declared : {ts : List Name} {ds : List Decl} → IsDecls ts ds → (n : ℕ) → Declared (nth_decl n ts) (name_at ds n)
declared x_no_decls n = tt
declared (x_decl {s} {t} {d} {ds} e es) zero =
    let h = headed e in
    tr (λ o. Declared o (some (decl_name d))) (sym (first_here s t d h ∙ ap (λ (x : List Name). some (x ++ t)) h.is)) (refl, to_true (is_name (decl_name d)) h.named)
declared (x_decl {s} {t} {d} {ds} e es) (suc n) = tr₂ Declared (sym (later_there n s t d (headed e))) (sym (next_name n d ds)) (declared es n)

pub headers_right : HeadersRight
headers_right t ds r n = declared r.said n
