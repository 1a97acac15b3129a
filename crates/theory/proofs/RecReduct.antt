-- The arguments of a recursor and of a constructor put together from their parts.
-- What the recursor reduces to, in terms of the parts.
use Rattle.std.proofs.Common.{◌≡◌, refl, sym, ap, ◌∙◌, List, [], ◌∷◌, ◌++◌, append_assoc, ℕ, zero, suc, ◌+◌, ◌<◌, length, take, drop, length-append, arith}
use mathlib.Core.Option.{some}
use lib.ListN.{get_elem?}
use lib.Seq.{take-append_seam, drop-append_seam}
use Rattle.theory.proofs.SubstAll.{get_append}
use Rattle.theory.specs.Terms.{h_rec, Term, const, apps}
use Rattle.theory.specs.Environment.{Constructor, DataType}
use Rattle.theory.specs.Reduction.{app_each, last_arg, case_args}
use Rattle.theory.proofs.Iota.{last_append}

-- the parts of a list that is put together
get_front : {A : Type 0} (xs ys : List A) (n : ℕ) → n < length xs → get_elem? (xs ++ ys) n ≡ get_elem? xs n
get_front [] ys n p = absurd (omega arith)
get_front (x ∷ xs) ys zero p = refl
get_front (x ∷ xs) ys (suc n) p = get_front xs ys n (omega arith)

take_front : (xs ys : List Term) (n : ℕ) → n ≡ length xs → take n (xs ++ ys) ≡ xs
take_front xs ys n p = ap (λ z. take z (xs ++ ys)) p ∙ take-append_seam xs ys

drop_front : (xs ys : List Term) (n : ℕ) → n ≡ length xs → drop n (xs ++ ys) ≡ ys
drop_front xs ys n p = ap (λ z. drop z (xs ++ ys)) p ∙ drop-append_seam xs ys

module _ (ps : List Term) (m : Term) (cs : List Term) (s : Term) where
  -- parameters, motive, cases, scrutinee
  abbrev pub all_args : List Term
  all_args = ps ++ (m ∷ (cs ++ (s ∷ [])))

  pub all_but_last : all_args ≡ (ps ++ (m ∷ cs)) ++ (s ∷ [])
  all_but_last = sym (append_assoc ps (m ∷ cs) (s ∷ []))

  pub take_cases : (n : ℕ) → n ≡ length ps + suc (length cs) → take n all_args ≡ ps ++ (m ∷ cs)
  take_cases n p = ap (take n) all_but_last ∙ take_front (ps ++ (m ∷ cs)) (s ∷ []) n (omega (arith, length-append ps (m ∷ cs)))

  pub get_case : (n l : ℕ) → l ≡ length ps + suc n → n < length cs → get_elem? all_args l ≡ get_elem? cs n
  get_case n l p q = get_append ps (m ∷ (cs ++ (s ∷ []))) l (suc n) (omega (arith, p)) ∙ get_front cs (s ∷ []) n q

  pub last_is : last_arg all_args ≡ some s
  last_is = ap last_arg all_but_last ∙ last_append (ps ++ (m ∷ cs)) s

  -- what the recursor reduces to, with the constructor's arguments split too
  pub reduct_is : (i j : ℕ) (k : DataType) (c : Constructor) (x : Term) (qs fs rs : List Term) → length ps ≡ length k.params → length cs ≡ length k.cons → length qs ≡ length k.params → length fs ≡ length c.fields
      → apps x (case_args i j k c all_args (qs ++ (fs ++ rs))) ≡ apps x ((fs ++ rs) ++ app_each (apps (const (h_rec i j)) (ps ++ (m ∷ cs))) rs)
  reduct_is i j k c x qs fs rs p q r l =
      let y : take (length k.params + (1 + length k.cons)) all_args ≡ ps ++ (m ∷ cs) = take_cases (length k.params + (1 + length k.cons)) (omega arith) in
      let z : drop (length k.params) (qs ++ (fs ++ rs)) ≡ fs ++ rs = drop_front qs (fs ++ rs) (length k.params) (omega arith) in
      let u : drop (length k.params + length c.fields) (qs ++ (fs ++ rs)) ≡ rs =
      ap (drop (length k.params + length c.fields)) (sym (append_assoc qs fs rs)) ∙ drop_front (qs ++ fs) rs (length k.params + length c.fields) (omega (arith, length-append qs fs)) in
      rw (y, z, u) refl
