-- Terms resolved: the innermost binding of a name, else what was declared, else nothing.
use Rattle.std.proofs.Common.{◌≡◌, List, [], ◌∷◌, codes, refl}
use mathlib.Core.Option.{some, none}
use Rattle.theory.specs.Terms.{h_def, h_data, h_rec, h_eq, h_along, var, const, sort, pi, lam, app}
use Rattle.syntax.specs.Surface.{e_name, e_at, e_sort, e_pi, e_lam, e_app, w_eq, w_along}
use Rattle.elaboration.specs.Elaboration.{Global}
use Rattle.resolver.specs.Resolving.{resolve}

-- A definition A and a data type N.
abbrev pub globals : List Global
globals = record { name = codes "A"; head = h_def 0; hidden = 0 } ∷ record { name = codes "N"; head = h_data 1; hidden = 0 } ∷ []

pub identity_type : resolve [] [] (e_pi (codes "A") (e_sort 0) (e_pi [] (e_name (codes "A")) (e_name (codes "A")))) ≡ some (pi (sort 0) (pi (var 0) (var 1)))
identity_type = refl

pub innermost_first : resolve globals [] (e_lam (codes "A") (e_sort 0) (e_lam (codes "A") (e_name (codes "A")) (e_name (codes "A")))) ≡ some (lam (sort 0) (lam (var 0) (var 0)))
innermost_first = refl

pub global_else : resolve globals [] (e_app (e_name (codes "A")) (e_at (codes "N") (2 ∷ []))) ≡ some (app (const (h_def 0)) (const (h_rec 1 2)))
global_else = refl

pub not_longer : resolve globals [] (e_name (codes "AN")) ≡ none
not_longer = refl

pub equality : resolve [] [] (e_app (e_at w_eq (0 ∷ [])) (e_at w_along (0 ∷ 1 ∷ []))) ≡ some (app (const (h_eq 0)) (const (h_along 0 1)))
equality = refl
