-- Terms that stand in words written out.
use Rattle.std.proofs.Common.{ℕ, List, [], ◌∷◌, refl, lit<}
use Rattle.theory.specs.Terms.{var, sort, lam, app}
use Rattle.terms.specs.Words.{Holds, HoldsSmall}

abbrev pub far_words : List ℕ
far_words = 1 ∷ 0 ∷ 0 ∷ 4 ∷ 3 ∷ 0 ∷ 2 ∷ 0 ∷ 0 ∷ 3 ∷ 0 ∷ 0 ∷ 3 ∷ 1 ∷ 1 ∷ []

abbrev pub near_words : List ℕ
near_words = 1 ∷ 0 ∷ 0 ∷ 4 ∷ 3 ∷ 0 ∷ 2 ∷ 0 ∷ 0 ∷ 3 ∷ 0 ∷ 0 ∷ 3 ∷ 1 ∷ 0 ∷ []

pub far : Holds far_words 0
far = record { term = lam (sort 3) (app (var 0) (var 4294967297)); rest = []; at = record { stands = refl } }

pub near : Holds near_words 0
near = record { term = lam (sort 3) (app (var 0) (var 1)); rest = []; at = record { stands = refl } }

pub far_domain : Holds far_words 3
far_domain = record { term = sort 3; rest = _; at = record { stands = refl } }

pub near_domain : Holds near_words 3
near_domain = record { term = sort 3; rest = _; at = record { stands = refl } }

pub far_small : HoldsSmall 18446744073709551615 far_words 0
far_small = record { term = lam (sort 3) (app (var 0) (var 4294967297)); rest = []; at = record { stands = refl }; small = (tt, (lit< tt, lit< tt)) }

pub near_small : HoldsSmall 9223372036854775808 near_words 0
near_small = record { term = lam (sort 3) (app (var 0) (var 1)); rest = []; at = record { stands = refl }; small = (tt, (lit< tt, lit< tt)) }
