-- What is read of a text: have stands in scripts only, so definitions and axioms of the first three stages are plain and hide nothing.
use Rattle.std.proofs.Common.{◌≡◌, ℕ, ◌<◌, max, Bool, true, false, cond, ◌&&◌, eqb, List, refl, subst as tr, arith}
use Rattle.theory.proofs.Options.{cases_bool}
use Rattle.syntax.specs.Surface.{Name, Expr, expr_stage, hide_stage, d_def, d_axiom, decl_stage}
use Rattle.syntax.specs.Grammar.{IsExpr, x_tighter, x_fun, x_pi, x_arrow, x_app, x_name, x_at, x_full, x_sort, x_hole, x_brackets, x_by, IsDecl, x_def, x_theorem, x_axiom}
use Rattle.resolver.specs.Resolving.{basic, basic_decl, scripted}
use Rattle.resolver.specs.Entries.{unhidden}
use Rattle.resolver.proofs.Plain.{stage-basic}

pub expr_scripted : {n : ℕ} {s : List Name} {a : Expr} → IsExpr n s a → scripted a ≡ true
expr_scripted (x_tighter h x) = expr_scripted x
expr_scripted (x_fun h x y) = rw (expr_scripted x, expr_scripted y) refl
expr_scripted (x_pi h x y) = rw (expr_scripted x, expr_scripted y) refl
expr_scripted (x_arrow x y) = rw (expr_scripted x, expr_scripted y) refl
expr_scripted (x_app x y) = rw (expr_scripted x, expr_scripted y) refl
expr_scripted (x_name h) = refl
expr_scripted (x_at h d) = refl
expr_scripted (x_full h) = refl
expr_scripted (x_sort h) = refl
expr_scripted x_hole = refl
expr_scripted (x_brackets x) = expr_scripted x
expr_scripted (x_by x) = refl

pub expr_basic : {n : ℕ} {s : List Name} {a : Expr} → IsExpr n s a → expr_stage a < 3 → basic a ≡ true
expr_basic {a = a} x h = stage-basic a h (expr_scripted x)

hides_none : (h : ℕ) → hide_stage h < 3 → eqb h 0 ≡ true
hides_none h p = cases_bool (eqb h 0) (λ e. e) (λ e. absurd (four e (tr (λ (b : Bool). cond b 0 4 < 3) e p)))
  where
    four : eqb h 0 ≡ false → cond false 0 4 < 3 → ⊥
    four e q = omega arith

left : (a b : ℕ) → max a b < 3 → a < 3
left a b h = omega arith

right : (a b : ℕ) → max a b < 3 → b < 3
right a b h = omega arith

pub def_plain : {s : List Name} {x : Name} {h : ℕ} {a b : Expr} → IsDecl s (d_def x h a b) → decl_stage (d_def x h a b) < 3 → (basic_decl (d_def x h a b) ≡ true) × (unhidden (d_def x h a b) ≡ true)
def_plain {h = h} {a = a} {b = b} d p = go d (left (hide_stage h) _ p) (left (expr_stage a) (expr_stage b) (right (hide_stage h) _ p)) (right (expr_stage a) (expr_stage b) (right (hide_stage h) _ p))
  where
    go : {s : List Name} {x : Name} → IsDecl s (d_def x h a b) → hide_stage h < 3 → expr_stage a < 3 → expr_stage b < 3 → ((basic a && basic b) ≡ true) × (eqb h 0 ≡ true)
    go (x_def n k u v) i j l = (rw (expr_basic u j, expr_basic v l) refl, hides_none h i)
    go (x_theorem n k u v) i j l = (rw (expr_basic u j, expr_basic v l) refl, hides_none h i)

pub axiom_plain : {s : List Name} {x : Name} {h : ℕ} {a : Expr} → IsDecl s (d_axiom x h a) → decl_stage (d_axiom x h a) < 3 → (basic_decl (d_axiom x h a) ≡ true) × (unhidden (d_axiom x h a) ≡ true)
axiom_plain {h = h} {a = a} (x_axiom n k u) p = (expr_basic u (right (hide_stage h) _ p), hides_none h (left (hide_stage h) (expr_stage a) p))
