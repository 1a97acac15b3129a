-- Small texts, worked out by the definitions themselves:
-- the tokens of a definition, the stage of a script, and what the readers find.
use Rattle.std.proofs.Common.{◌≡◌, [], ◌∷◌, codes, refl}
use mathlib.Core.Option.{some}
use Rattle.syntax.specs.Surface.{e_name, e_sort, e_pi, e_lam, e_app, e_hole, e_by, e_have, d_def, stage}
use Rattle.syntax.specs.Tokens.{tokens}
use Rattle.syntax.specs.Reader.{readers, read_decls}

-- Words, signs, single bytes, a comment.
cut : tokens (codes "def f:A->B:=fun(x:A)=>_;#n")
    ≡ codes "def" ∷ codes "f" ∷ codes ":" ∷ codes "A" ∷ codes "->" ∷ codes "B" ∷ codes ":="
    ∷ codes "fun" ∷ codes "(" ∷ codes "x" ∷ codes ":" ∷ codes "A" ∷ codes ")" ∷ codes "=>" ∷ codes "_" ∷ codes ";" ∷ []
cut = refl

-- A definition by a script is of stage 5.
late : stage (d_def (codes "f") 0 (e_sort 0) (e_by e_hole) ∷ []) ≡ 5
late = refl

-- A definition that hides one argument.
defines : read_decls 30 (tokens (codes "def f hide 1 : Type 0 := fun (x : A) => x;"))
    ≡ some (d_def (codes "f") 1 (e_sort 0) (e_lam (codes "x") (e_name (codes "A")) (e_name (codes "x"))) ∷ [])
defines = refl

-- Arrows to the right, uses from the left.
to_the_right : (readers 9).term (tokens (codes "A -> B -> C")) ≡ some (e_pi [] (e_name (codes "A")) (e_pi [] (e_name (codes "B")) (e_name (codes "C"))), [])
to_the_right = refl

from_the_left : (readers 9).term (tokens (codes "f a b")) ≡ some (e_app (e_app (e_name (codes "f")) (e_name (codes "a"))) (e_name (codes "b")), [])
from_the_left = refl

-- A script with a step of its own.
by_steps : (readers 30).term (tokens (codes "by { intro x; have y : A { exact a; } exact y; }"))
    ≡ some (e_by (e_lam (codes "x") e_hole (e_have (codes "y") (e_name (codes "A")) (e_name (codes "a")) (e_name (codes "y")))), [])
by_steps = refl
