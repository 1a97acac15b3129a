-- Worked examples of the rules: the types of the recursors of numbers and lists and of a constructor, 1 + 1 in seven normal-order
-- steps, elimination on reflexivity, the identity function.
use Rattle.std.proofs.Common.{◌≡◌, refl, [], ◌∷◌}
use mathlib.Core.Option.{some, none}
use Rattle.theory.specs.Terms.{h_def, h_data, h_con, h_rec, h_eq, h_refl, h_along, Term, var, const, sort, pi, lam, app}
use Rattle.theory.specs.Environment.{DataType, defined, inductive, Env, head_type_lem}
use Rattle.theory.specs.Reduction.{normal_step, normal_steps}
use Rattle.theory.specs.Typing.{HasType, t_var, t_sort, t_pi, t_lam}

-- Entry 0: numbers, zero and successor. Entry 1: lists, with a parameter. Entry 2: addition, by recursion on its first argument.
number_data : DataType
number_data = record { params = []; level = 0; cons = record { fields = []; recs = 0 } ∷ record { fields = []; recs = 1 } ∷ [] }

list_data : DataType
list_data = record { params = sort 0 ∷ []; level = 0; cons = record { fields = []; recs = 0 } ∷ record { fields = var 0 ∷ []; recs = 1 } ∷ [] }

abbrev number : Term
number = const (h_data 0)

abbrev zer : Term
zer = const (h_con 0 0)

abbrev succ : Term → Term
succ = app (const (h_con 0 1))

abbrev list_of : Term → Term
list_of = app (const (h_data 1))

plus : Term
plus = lam number (lam number (app (app (app (app (const (h_rec 0 0)) (lam number number)) (var 0)) (lam number (lam number (succ (var 0))))) (var 1)))

env : Env
unfolding number_data list_data plus
env = inductive number_data ∷ inductive list_data ∷ defined plus (pi number (pi number number)) ∷ []

-- The recursor of numbers into Type 2: C zero, and C (succ y) from y and C y, give C x for every number x.
number_recursor :
    head_type_lem env (h_rec 0 2)
    ≡ some (pi (pi number (sort 2)) (pi (app (var 0) zer)
    (pi (pi number (pi (app (var 2) (var 0)) (app (var 3) (succ (var 1))))) (pi number (app (var 3) (var 0))))))
unfolding env number_data list_data plus
number_recursor = refl

-- The recursor of lists of A: C empty, and C (a followed by l) from a, l and C l, give C l for every list l.
list_recursor :
    head_type_lem env (h_rec 1 0)
    ≡ some (pi (sort 0) (pi (pi (list_of (var 0)) (sort 0)) (pi (app (var 0) (app (const (h_con 1 0)) (var 1)))
    (pi (pi (var 2) (pi (list_of (var 3)) (pi (app (var 3) (var 0)) (app (var 4) (app (app (app (const (h_con 1 1)) (var 5)) (var 2)) (var 1))))))
    (pi (list_of (var 3)) (app (var 3) (var 0)))))))
unfolding env number_data list_data plus
list_recursor = refl

-- The second constructor of lists: from A, an element and a list.
list_constructor : head_type_lem env (h_con 1 1) ≡ some (pi (sort 0) (pi (var 0) (pi (list_of (var 1)) (list_of (var 2)))))
unfolding env number_data list_data plus
list_constructor = refl

-- 1 + 1 reduces to 2 in seven steps, the outermost redex first, and 2 is normal.
one_and_one : normal_steps env 7 (app (app (const (h_def 2)) (succ zer)) (succ zer)) ≡ some (succ (succ zer))
unfolding env number_data list_data plus
one_and_one = refl

two_is_normal : normal_step env (succ (succ zer)) ≡ none
unfolding env number_data list_data plus
two_is_normal = refl

-- Elimination of an equality on reflexivity gives the case.
along_reflexivity :
    normal_step env (app (app (app (app (app (app (const (h_along 0 0)) number) zer)
    (lam number (lam (app (app (app (const (h_eq 0)) number) zer) (var 0)) number))) (succ zer)) zer) (app (app (const (h_refl 0)) number) zer))
    ≡ some (succ zer)
unfolding env number_data list_data plus
along_reflexivity = refl

-- The identity function, for all types of Type 0.
identity_type : HasType [] [] (lam (sort 0) (lam (var 0) (var 0))) (pi (sort 0) (pi (var 0) (var 1)))
identity_type = t_lam t_sort (t_pi (t_var refl) (t_var refl)) (t_lam (t_var refl) (t_var refl) (t_var refl))
