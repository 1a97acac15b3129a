-- A term is its root and its parts, in words too.
use Rattle.std.proofs.Common.{◌≡◌, ℕ, zero, suc, ◌+◌, ◌*◌, ◌/◌, ◌%◌, ◌≤◌, cond, true, false, List, [], ◌∷◌, ◌++◌, length, get_or, sym, refl, ap, ◌∙◌, ap₂, arith, length-append}
use Rattle.std.proofs.lemmas.List.{nil_from_length}
use Rattle.theory.specs.Terms.{h_def, h_data, h_con, h_rec, h_eq, h_refl, h_along, Term, var, const, sort, pi, lam, app, size}
use Rattle.theory.proofs.Closed.{Scoped}
use Rattle.terms.specs.declared.sign.Sign.{Sign}
use Rattle.terms.specs.declared.sign.Sign.TheVariants.{Pi, Lam, App, Var, Sort, Def, Data, Con, Rec, Eq, Refl, Along}
use Rattle.terms.specs.Words.{put, puts, sizes, root, parts, sign_words, sign_of, has_parts, Small, SmallSign}

-- The three words at the root.
abbrev pub tag : Term → ℕ
tag (pi a b) = 0
tag (lam a b) = 1
tag (app f a) = 2
tag (var x) = 3
tag (sort i) = 4
tag (const (h_def i)) = 5
tag (const (h_data i)) = 6
tag (const (h_con i k)) = 7
tag (const (h_rec i j)) = 8
tag (const (h_eq i)) = 9
tag (const (h_refl i)) = 10
tag (const (h_along i j)) = 11

abbrev pub low : Term → ℕ
low (pi a b) = 0
low (lam a b) = 0
low (app f a) = 0
low (var x) = x % 4294967296
low (sort i) = i
low (const (h_def i)) = i
low (const (h_data i)) = i
low (const (h_con i k)) = i
low (const (h_rec i j)) = i
low (const (h_eq i)) = i
low (const (h_refl i)) = i
low (const (h_along i j)) = i

abbrev pub high : Term → ℕ
high (pi a b) = 0
high (lam a b) = 0
high (app f a) = 0
high (var x) = x / 4294967296
high (sort i) = 0
high (const (h_def i)) = 0
high (const (h_data i)) = 0
high (const (h_con i k)) = k
high (const (h_rec i j)) = j
high (const (h_eq i)) = 0
high (const (h_refl i)) = 0
high (const (h_along i j)) = j

-- The words of a term: those of its root, then its parts in a row.
pub put_words : (t : Term) (r : List ℕ) → put t r ≡ tag t ∷ low t ∷ high t ∷ puts (parts t) r
put_words (pi a b) r = refl
put_words (lam a b) r = refl
put_words (app f a) r = refl
put_words (var x) r = refl
put_words (sort i) r = refl
put_words (const (h_def i)) r = refl
put_words (const (h_data i)) r = refl
put_words (const (h_con i k)) r = refl
put_words (const (h_rec i j)) r = refl
put_words (const (h_eq i)) r = refl
put_words (const (h_refl i)) r = refl
put_words (const (h_along i j)) r = refl

pub put_sign : (t : Term) (r : List ℕ) → put t r ≡ sign_words (root t) ++ puts (parts t) r
put_sign (pi a b) r = refl
put_sign (lam a b) r = refl
put_sign (app f a) r = refl
put_sign (var x) r = refl
put_sign (sort i) r = refl
put_sign (const (h_def i)) r = refl
put_sign (const (h_data i)) r = refl
put_sign (const (h_con i k)) r = refl
put_sign (const (h_rec i j)) r = refl
put_sign (const (h_eq i)) r = refl
put_sign (const (h_refl i)) r = refl
put_sign (const (h_along i j)) r = refl

-- A number is what its two words say.
pub join : (x : ℕ) → x % 4294967296 + 4294967296 * (x / 4294967296) ≡ x
join x = omega arith

-- The root is what the three words say.
pub sign_is : (t : Term) → sign_of (tag t) (low t) (high t) ≡ root t
sign_is (pi a b) = refl
sign_is (lam a b) = refl
sign_is (app f a) = refl
sign_is (var x) = ap (λ (y : ℕ). Var record { 0 = y }) (join x)
sign_is (sort i) = refl
sign_is (const (h_def i)) = refl
sign_is (const (h_data i)) = refl
sign_is (const (h_con i k)) = refl
sign_is (const (h_rec i j)) = refl
sign_is (const (h_eq i)) = refl
sign_is (const (h_refl i)) = refl
sign_is (const (h_along i j)) = refl

pub sign_three : (t : Term) → sign_words (root t) ≡ tag t ∷ low t ∷ high t ∷ []
sign_three (pi a b) = refl
sign_three (lam a b) = refl
sign_three (app f a) = refl
sign_three (var x) = refl
sign_three (sort i) = refl
sign_three (const (h_def i)) = refl
sign_three (const (h_data i)) = refl
sign_three (const (h_con i k)) = refl
sign_three (const (h_rec i j)) = refl
sign_three (const (h_eq i)) = refl
sign_three (const (h_refl i)) = refl
sign_three (const (h_along i j)) = refl

pub root-same : (t u : Term) → tag t ≡ tag u → low t ≡ low u → high t ≡ high u → root t ≡ root u
root-same t u p q r = let a = sign_is t in let b = sign_is u in cc

pub same-root : (t u : Term) → root t ≡ root u → (tag t ≡ tag u) × (low t ≡ low u) × (high t ≡ high u)
same-root t u e = let a = sign_three t in let b = sign_three u in (cc, cc, cc)

-- The number of parts is told by the root.
pub parts_count : (t : Term) → length (parts t) ≡ cond (has_parts (root t)) 2 0
parts_count (pi a b) = refl
parts_count (lam a b) = refl
parts_count (app f a) = refl
parts_count (var x) = refl
parts_count (sort i) = refl
parts_count (const (h_def i)) = refl
parts_count (const (h_data i)) = refl
parts_count (const (h_con i k)) = refl
parts_count (const (h_rec i j)) = refl
parts_count (const (h_eq i)) = refl
parts_count (const (h_refl i)) = refl
parts_count (const (h_along i j)) = refl

pub parts_two : (t : Term) → has_parts (root t) ≡ true → length (parts t) ≡ 2
parts_two t h = rw (parts_count t, h)

pub parts_none : (t : Term) → has_parts (root t) ≡ false → parts t ≡ []
parts_none t h = nil_from_length (parts t) (rw (parts_count t, h))

-- The term with this root and these parts.
abbrev pub build : Sign → List Term → Term
build Pi ts = pi (get_or ts 0 (sort 0)) (get_or ts 1 (sort 0))
build Lam ts = lam (get_or ts 0 (sort 0)) (get_or ts 1 (sort 0))
build App ts = app (get_or ts 0 (sort 0)) (get_or ts 1 (sort 0))
build (Var x) ts = var x.0
build (Sort i) ts = sort i.0
build (Def i) ts = const (h_def i)
build (Data i) ts = const (h_data i)
build (Con i k) ts = const (h_con i k)
build (Rec i j) ts = const (h_rec i j)
build (Eq i) ts = const (h_eq i)
build (Refl i) ts = const (h_refl i)
build (Along i j) ts = const (h_along i j)

pub build_is : (t : Term) → build (root t) (parts t) ≡ t
build_is (pi a b) = refl
build_is (lam a b) = refl
build_is (app f a) = refl
build_is (var x) = refl
build_is (sort i) = refl
build_is (const (h_def i)) = refl
build_is (const (h_data i)) = refl
build_is (const (h_con i k)) = refl
build_is (const (h_rec i j)) = refl
build_is (const (h_eq i)) = refl
build_is (const (h_refl i)) = refl
build_is (const (h_along i j)) = refl

-- Rows.
pub puts_append : (ts us : List Term) (r : List ℕ) → puts (ts ++ us) r ≡ puts ts (puts us r)
puts_append [] us r = refl
puts_append (t ∷ ts) us r = ap (put t) (puts_append ts us r)

pub row_words : (t : Term) (ts : List Term) (r : List ℕ) → puts (t ∷ ts) r ≡ tag t ∷ low t ∷ high t ∷ puts (parts t ++ ts) r
row_words t ts r = put_words t (puts ts r) ∙ ap (λ (z : List ℕ). tag t ∷ low t ∷ high t ∷ z) (sym (puts_append (parts t) ts r))

pub row_sign : (t : Term) (ts : List Term) (r : List ℕ) → puts (t ∷ ts) r ≡ sign_words (root t) ++ puts (parts t ++ ts) r
row_sign t ts r = put_sign t (puts ts r) ∙ ap (λ (z : List ℕ). sign_words (root t) ++ z) (sym (puts_append (parts t) ts r))

pub sizes_append : (ts us : List Term) → sizes (ts ++ us) ≡ sizes ts + sizes us
sizes_append [] us = omega arith
sizes_append (t ∷ ts) us = omega (arith, sizes_append ts us)

-- The nodes of a term are its root and those of its parts.
pub size-parts : (t : Term) → size t ≡ 1 + sizes (parts t)
size-parts (pi a b) = omega arith
size-parts (lam a b) = omega arith
size-parts (app f a) = omega arith
size-parts (var x) = refl
size-parts (sort i) = refl
size-parts (const h) = refl

pub put-length : (t : Term) (r : List ℕ) → length (put t r) ≡ 3 * size t + length r
put-length (pi a b) r = omega (arith, put-length a (put b r), put-length b r)
put-length (lam a b) r = omega (arith, put-length a (put b r), put-length b r)
put-length (app f a) r = omega (arith, put-length f (put a r), put-length a r)
put-length (var x) r = omega arith
put-length (sort i) r = omega arith
put-length (const (h_def i)) r = omega arith
put-length (const (h_data i)) r = omega arith
put-length (const (h_con i k)) r = omega arith
put-length (const (h_rec i j)) r = omega arith
put-length (const (h_eq i)) r = omega arith
put-length (const (h_refl i)) r = omega arith
put-length (const (h_along i j)) r = omega arith

pub puts-length : (ts : List Term) (r : List ℕ) → length (puts ts r) ≡ 3 * sizes ts + length r
puts-length [] r = omega arith
puts-length (t ∷ ts) r = omega (arith, put-length t (puts ts r), puts-length ts r)

pub length-sizes : (ts : List Term) → length ts ≤ sizes ts
length-sizes [] = omega arith
length-sizes (t ∷ ts) = omega (arith, size-parts t, length-sizes ts)

-- Rows of equal lengths that say the same in words are the same.
pub append_split : (as₁ bs xs ys : List Term) → length as₁ ≡ length bs → as₁ ++ xs ≡ bs ++ ys → (as₁ ≡ bs) × (xs ≡ ys)
append_split [] [] xs ys l e = (refl, e)
append_split [] (b ∷ bs) xs ys l e = absurd (let z : ⊥ = omega arith in z)
append_split (a ∷ as₁) [] xs ys l e = absurd (let z : ⊥ = omega arith in z)
append_split (a ∷ as₁) (b ∷ bs) xs ys l e =
    let h = append_split as₁ bs xs ys (omega arith) (cc) in
    let p : a ≡ b = cc in
    (ap₂ ◌∷◌ p h.0, h.1)

pub same_parts : (t u : Term) → root t ≡ root u → length (parts t) ≡ length (parts u)
same_parts t u e = parts_count t ∙ ap (λ (s : Sign). cond (has_parts s) 2 0) e ∙ sym (parts_count u)

pub pairs_on : (t u : Term) (ts us : List Term) → root t ≡ root u → parts t ++ ts ≡ parts u ++ us → ◌≡◌ {A = List Term} (t ∷ ts) (u ∷ us)
pairs_on t u ts us e p =
    let h = append_split (parts t) (parts u) ts us (same_parts t u e) p in
    ap₂ ◌∷◌ (sym (build_is t) ∙ ap₂ build e h.0 ∙ build_is u) h.1

pub pairs_back : (t u : Term) (ts us : List Term) → ◌≡◌ {A = List Term} (t ∷ ts) (u ∷ us) → parts t ++ ts ≡ parts u ++ us
pairs_back t u ts us e = let p : t ≡ u = cc in let q : ts ≡ us = cc in ap₂ (λ (x : Term) (y : List Term). parts x ++ y) p q

pub puts_one : (n : ℕ) (ts us : List Term) (r s : List ℕ) → sizes ts ≤ n → length ts ≡ length us → puts ts r ≡ puts us s → (ts ≡ us) × (r ≡ s)
puts_one n [] [] r s h l e = (refl, e)
puts_one n [] (u ∷ us) r s h l e = absurd (let z : ⊥ = omega arith in z)
puts_one n (t ∷ ts) [] r s h l e = absurd (let z : ⊥ = omega arith in z)
puts_one zero (t ∷ ts) (u ∷ us) r s h l e = absurd (let z : ⊥ = omega (arith, size-parts t) in z)
puts_one (suc n) (t ∷ ts) (u ∷ us) r s h l e =
    let p = sym (row_words t ts r) ∙ e ∙ row_words u us s in
    let q = root-same t u (cc) (cc) (cc) in
    let ih = puts_one n (parts t ++ ts) (parts u ++ us) r s (omega (arith, size-parts t, sizes_append (parts t) ts)) (omega (arith, length-append (parts t) ts, length-append (parts u) us, same_parts t u q)) (cc) in
    (pairs_on t u ts us q ih.0, ih.1)

pub put_one : (t u : Term) (r s : List ℕ) → put t r ≡ put u s → (t ≡ u) × (r ≡ s)
put_one t u r s e = let h = puts_one (sizes (t ∷ [])) (t ∷ []) (u ∷ []) r s (omega arith) refl e in (cc, h.1)

-- Indices below a bound.
pub scoped_small : (t : Term) (n b : ℕ) → Scoped n t → n + size t ≤ b → Small b t
scoped_small (var x) n b s h = omega arith
scoped_small (const h) n b s p = tt
scoped_small (sort i) n b s h = tt
scoped_small (pi a c) n b s h = (scoped_small a n b s.0 (omega arith), scoped_small c (suc n) b s.1 (omega arith))
scoped_small (lam a c) n b s h = (scoped_small a n b s.0 (omega arith), scoped_small c (suc n) b s.1 (omega arith))
scoped_small (app f a) n b s h = (scoped_small f n b s.0 (omega arith), scoped_small a n b s.1 (omega arith))

pub small_more : (t : Term) (b c : ℕ) → Small b t → b ≤ c → Small c t
small_more (var x) b c s h = omega arith
small_more (const k) b c s h = tt
small_more (sort i) b c s h = tt
small_more (pi a d) b c s h = (small_more a b c s.0 h, small_more d b c s.1 h)
small_more (lam a d) b c s h = (small_more a b c s.0 h, small_more d b c s.1 h)
small_more (app f a) b c s h = (small_more f b c s.0 h, small_more a b c s.1 h)

abbrev pub EachSmall : ℕ → List Term → Type 0
EachSmall b [] = Unit {0}
EachSmall b (t ∷ ts) = Small b t × EachSmall b ts

pub small_sign : (t : Term) (b : ℕ) → Small b t → SmallSign b (root t)
small_sign (pi a c) b s = tt
small_sign (lam a c) b s = tt
small_sign (app f a) b s = tt
small_sign (var x) b s = s
small_sign (sort i) b s = tt
small_sign (const (h_def i)) b s = tt
small_sign (const (h_data i)) b s = tt
small_sign (const (h_con i k)) b s = tt
small_sign (const (h_rec i j)) b s = tt
small_sign (const (h_eq i)) b s = tt
small_sign (const (h_refl i)) b s = tt
small_sign (const (h_along i j)) b s = tt

pub small_parts : (t : Term) (ts : List Term) (b : ℕ) → Small b t → EachSmall b ts → EachSmall b (parts t ++ ts)
small_parts (pi a c) ts b s h = (s.0, (s.1, h))
small_parts (lam a c) ts b s h = (s.0, (s.1, h))
small_parts (app f a) ts b s h = (s.0, (s.1, h))
small_parts (var x) ts b s h = h
small_parts (sort i) ts b s h = h
small_parts (const k) ts b s h = h

-- What follows may be added later.
pub put_append : (t : Term) (r s : List ℕ) → put t (r ++ s) ≡ put t r ++ s
put_append (pi a b) r s = ap (λ (z : List ℕ). 0 ∷ 0 ∷ 0 ∷ z) (ap (put a) (put_append b r s) ∙ put_append a (put b r) s)
put_append (lam a b) r s = ap (λ (z : List ℕ). 1 ∷ 0 ∷ 0 ∷ z) (ap (put a) (put_append b r s) ∙ put_append a (put b r) s)
put_append (app f a) r s = ap (λ (z : List ℕ). 2 ∷ 0 ∷ 0 ∷ z) (ap (put f) (put_append a r s) ∙ put_append f (put a r) s)
put_append (var x) r s = refl
put_append (sort i) r s = refl
put_append (const (h_def i)) r s = refl
put_append (const (h_data i)) r s = refl
put_append (const (h_con i k)) r s = refl
put_append (const (h_rec i j)) r s = refl
put_append (const (h_eq i)) r s = refl
put_append (const (h_refl i)) r s = refl
put_append (const (h_along i j)) r s = refl

pub puts_tail : (ts : List Term) (r s : List ℕ) → puts ts (r ++ s) ≡ puts ts r ++ s
puts_tail [] r s = refl
puts_tail (t ∷ ts) r s = ap (put t) (puts_tail ts r s) ∙ put_append t (puts ts r) s
