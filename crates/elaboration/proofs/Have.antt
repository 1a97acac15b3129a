-- have x : a { b } c is another way to write (fun (x : a) => c) b: the two elaborate to the same terms, and as much is left out
-- of the one as of the other.
use Rattle.std.proofs.Common.{◌≡◌, refl, Bool, true, false, ◌&&◌, List, ◌∷◌}
use Rattle.theory.specs.Terms.{Term}
use Rattle.syntax.specs.Surface.{Name, Expr, e_lam, e_app, e_have}
use Rattle.elaboration.specs.Elaboration.{Global, Elab, el_lam, el_app, el_have, plain}

-- What have elaborates to, the application does.
pub have_applied : {gs : List Global} {ys : List Name} {x : Name} {a b c : Expr} {t : Term}
    → Elab gs ys (e_have x a b c) t → Elab gs ys (e_app (e_lam x a c) b) t
have_applied (el_have p q r) = el_app (el_lam p r) q

-- What the application elaborates to, have does.
pub applied_have : {gs : List Global} {ys : List Name} {x : Name} {a b c : Expr} {t : Term}
    → Elab gs ys (e_app (e_lam x a c) b) t → Elab gs ys (e_have x a b c) t
applied_have (el_app (el_lam p r) q) = el_have p q r

-- The last two of three tests change places.
and_swap : (p q r : Bool) → (p && (q && r)) ≡ ((p && r) && q)
and_swap true true true = refl
and_swap true true false = refl
and_swap true false true = refl
and_swap true false false = refl
and_swap false q r = refl

-- The one is plain just if the other is.
pub have_plain : (gs : List Global) (ys : List Name) (x : Name) (a b c : Expr)
    → plain gs ys (e_have x a b c) ≡ plain gs ys (e_app (e_lam x a c) b)
have_plain gs ys x a b c = and_swap (plain gs ys a) (plain gs ys b) (plain gs (x ∷ ys) c)
