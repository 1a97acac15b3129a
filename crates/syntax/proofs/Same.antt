-- Tests: one that passes is true and one that fails is false, and so through their and and or;
-- names for which same passes are equal.
use Rattle.std.proofs.Common.{◌≡◌, ◌+◌, ◌<◌, ◌≤◌, Bool, true, false, not, ◌&&◌, ◌||◌, T, eqb, List, [], ◌∷◌, length, drop, slice_index_or, sym, refl, ap, ◌∙◌, ap₂, eqb→eq, arith, ℕ, drop_of_length-le}
use Rattle.std.proofs.lemmas.List.{drop_more}
use Rattle.std.specs.Cmp.Lexicographic.{pointwise}
use Rattle.std.specs.List.{list_any}
use Rattle.syntax.specs.Surface.{Name, same, listed}

pub to_true : (b : Bool) → T b → b ≡ true
to_true true t = refl
to_true false t = absurd t

pub to_false : (b : Bool) → T (not b) → b ≡ false
to_false true t = absurd t
to_false false t = refl

pub and_left : (a b : Bool) → T (a && b) → T a
and_left true b t = tt
and_left false b t = t

pub and_right : (a b : Bool) → T (a && b) → T b
and_right true b t = t
and_right false b t = absurd t

pub or_left : (a b : Bool) → T a → T (a || b)
or_left true b t = tt
or_left false b t = absurd t

pub same_is : (x y : Name) → T (same x y) → x ≡ y
same_is [] [] t = refl
same_is [] (y ∷ ys) t = absurd t
same_is (x ∷ xs) [] t = absurd t
same_is (x ∷ xs) (y ∷ ys) t = ap₂ {C = Name} ◌∷◌ (eqb→eq x y (and_left _ _ t)) (same_is xs ys (and_right (eqb x y) _ t))

-- What == says of two slices of numbers is what same says.
pub pointwise_same : (x y : Name) → pointwise eqb x y ≡ same x y
pointwise_same [] [] = refl
pointwise_same [] (y ∷ ys) = refl
pointwise_same (x ∷ xs) [] = refl
pointwise_same (x ∷ xs) (y ∷ ys) = ap (λ (b : Bool). eqb x y && b) (pointwise_same xs ys)

eqb_sym : (x y : ℕ) → eqb x y ≡ eqb y x
eqb_sym x y = grind arith

same_sym : (x y : Name) → same x y ≡ same y x
same_sym [] [] = refl
same_sym [] (y ∷ ys) = refl
same_sym (x ∷ xs) [] = refl
same_sym (x ∷ xs) (y ∷ ys) = ap₂ (λ (a b : Bool). a && b) (eqb_sym x y) (same_sym xs ys)

-- What contains says of a table of words is what listed says.
pub any_listed : (x : Name) (ks : List Name) → list_any (λ k. pointwise eqb k x) ks ≡ listed x ks
any_listed x [] = refl
any_listed x (k ∷ ks) = ap₂ (λ (a b : Bool). a || b) (pointwise_same k x ∙ same_sym k x) (any_listed x ks)

-- What two slices say from a place on, by the items there.
pub pairs_left : {X : Type 0} (E : X → X → Bool) (xs ys : List X) (i : ℕ) (x y : X) → i < length xs → i < length ys → x ≡ slice_index_or xs i x → y ≡ slice_index_or ys i y
    → pointwise E (drop i xs) (drop i ys) ≡ (E x y && pointwise E (drop (i + 1) xs) (drop (i + 1) ys))
pairs_left E xs ys i x y l m p q =
    ap₂ (pointwise E) (drop_more xs i x l ∙ ap (λ z. z ∷ drop (i + 1) xs) (sym p)) (drop_more ys i y m ∙ ap (λ z. z ∷ drop (i + 1) ys) (sym q))

pub no_pairs_left : {X : Type 0} (E : X → X → Bool) (xs ys : List X) (i : ℕ) → length xs ≤ i → length ys ≤ i → pointwise E (drop i xs) (drop i ys) ≡ true
no_pairs_left E xs ys i l m = ap₂ (pointwise E) (drop_of_length-le xs l) (drop_of_length-le ys m)

pub not_true : (b : Bool) → true ≡ not b → b ≡ false
not_true true e = e
not_true false e = refl

pub not_false : (b : Bool) → false ≡ not b → b ≡ true
not_false true e = refl
not_false false e = e
