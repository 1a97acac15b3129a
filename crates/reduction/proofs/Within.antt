-- A term that stands within another one has its indices.
use Rattle.std.proofs.Common.{◌≡◌, ℕ, zero, suc, ◌+◌, ◌*◌, List, [], ◌∷◌, ◌++◌, length, drop, sym, refl, ap, ◌∙◌, subst as tr, arith}
use Rattle.std.proofs.lemmas.List.{drop-drop, drop_all, drop_at}
use Rattle.theory.specs.Terms.{Term}
use Rattle.terms.specs.Words.{put, puts, Small, parts}
use Rattle.terms.proofs.Nodes.{EachSmall, small_parts, row_words, put_one, put-length, size-parts}

none_stands : (x : Term) (rest : List ℕ) {B : Type 0} → [] ≡ put x rest → B
none_stands x rest p = absurd (omega (arith, ap length p, put-length x rest, size-parts x))

pub small_within : (b k m : ℕ) → m ≡ 3 * k → (ts : List Term) → EachSmall b ts → (x : Term) (rest : List ℕ) → drop m (puts ts []) ≡ put x rest → Small b x
small_within b k m q [] s x rest p = none_stands x rest (sym (drop_all m [] (omega arith)) ∙ p)
small_within b zero m q (t ∷ ts) s x rest p =
    tr (Small b) (put_one t x (puts ts []) rest (ap (λ (i : ℕ). drop i (puts (t ∷ ts) [])) (let z : 0 ≡ m = omega arith in z) ∙ p)).0 s.0
small_within b (suc k) m q (t ∷ ts) s x rest p =
    small_within b k (3 * k) refl (parts t ++ ts) (small_parts t ts b s.0 s.1) x rest
    (sym (ap (drop (3 * k)) (ap (drop 3) (row_words t ts []))) ∙ (drop-drop (3 * k) 3 (puts (t ∷ ts) []) ∙ (ap (λ (i : ℕ). drop i (puts (t ∷ ts) [])) (let z : 3 + 3 * k ≡ m = omega arith in z) ∙ p)))

pub small_inside : (b k : ℕ) (t x : Term) (before rest : List ℕ) → length before ≡ 3 * k → put t [] ≡ before ++ put x rest → Small b t → Small b x
small_inside b k t x before rest l p s =
    small_within b k (3 * k) refl (t ∷ []) (s, tt) x rest (ap (drop (3 * k)) p ∙ drop_at before (put x rest) (3 * k) l)
