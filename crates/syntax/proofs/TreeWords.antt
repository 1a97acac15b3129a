-- The words of a tree, taken apart: what follows stands behind the words of the tree alone.
use Rattle.std.proofs.Common.{◌≡◌, ℕ, List, [], ◌∷◌, ◌++◌, length, sym, refl, ap, ◌∙◌, append_assoc, append-nil}
use Rattle.syntax.specs.Surface.{Name, Expr, e_name, e_at, e_full, e_sort, e_pi, e_lam, e_app, e_hole, e_by, e_have}
use Rattle.syntax.specs.Tree.{put_name, put_numbers, put_expr}

-- A tag and a name.
pub named : (t : ℕ) (x : Name) → t ∷ (length x ∷ x) ≡ t ∷ put_name x []
named t x = ap (λ (r : List ℕ). t ∷ (length x ∷ r)) (sym (append-nil x))

-- A name, then more.
pub name_apart : (x : Name) (r s : List ℕ) → put_name x (r ++ s) ≡ put_name x r ++ s
name_apart x r s = ap (λ (z : List ℕ). length x ∷ z) (sym (append_assoc x r s))

pub numbers_apart : (ns r s : List ℕ) → put_numbers ns (r ++ s) ≡ put_numbers ns r ++ s
numbers_apart = name_apart

-- A term, then more.
pub expr_apart : (a : Expr) (r s : List ℕ) → put_expr a (r ++ s) ≡ put_expr a r ++ s
expr_apart (e_name x) r s = ap (λ (z : List ℕ). 1 ∷ z) (name_apart x r s)
expr_apart (e_at x ns) r s = ap (λ (z : List ℕ). 2 ∷ put_name x z) (numbers_apart ns r s) ∙ ap (λ (z : List ℕ). 2 ∷ z) (name_apart x (put_numbers ns r) s)
expr_apart (e_full x) r s = ap (λ (z : List ℕ). 3 ∷ z) (name_apart x r s)
expr_apart (e_sort i) r s = refl
expr_apart (e_pi x a b) r s =
    ap (λ (z : List ℕ). 5 ∷ put_name x (put_expr a z)) (expr_apart b r s) ∙ ap (λ (z : List ℕ). 5 ∷ put_name x z) (expr_apart a (put_expr b r) s)
    ∙ ap (λ (z : List ℕ). 5 ∷ z) (name_apart x (put_expr a (put_expr b r)) s)
expr_apart (e_lam x a b) r s =
    ap (λ (z : List ℕ). 6 ∷ put_name x (put_expr a z)) (expr_apart b r s) ∙ ap (λ (z : List ℕ). 6 ∷ put_name x z) (expr_apart a (put_expr b r) s)
    ∙ ap (λ (z : List ℕ). 6 ∷ z) (name_apart x (put_expr a (put_expr b r)) s)
expr_apart (e_app f a) r s = ap (λ (z : List ℕ). 7 ∷ put_expr f z) (expr_apart a r s) ∙ ap (λ (z : List ℕ). 7 ∷ z) (expr_apart f (put_expr a r) s)
expr_apart e_hole r s = refl
expr_apart (e_by a) r s = ap (λ (z : List ℕ). 9 ∷ z) (expr_apart a r s)
expr_apart (e_have x a b c) r s =
    ap (λ (z : List ℕ). 10 ∷ put_name x (put_expr a (put_expr b z))) (expr_apart c r s)
    ∙ ap (λ (z : List ℕ). 10 ∷ put_name x (put_expr a z)) (expr_apart b (put_expr c r) s)
    ∙ ap (λ (z : List ℕ). 10 ∷ put_name x z) (expr_apart a (put_expr b (put_expr c r)) s)
    ∙ ap (λ (z : List ℕ). 10 ∷ z) (name_apart x (put_expr a (put_expr b (put_expr c r))) s)

pub expr_then : (a : Expr) (s : List ℕ) → put_expr a s ≡ put_expr a [] ++ s
expr_then a s = expr_apart a [] s
