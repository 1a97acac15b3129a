-- The types of cases commute with lift, subst and subst_all, and with the term put for a binder of theirs.
-- The types of constructors and recursors behind the parameters, as functions of parameters and motive.
use Rattle.std.proofs.Common.{◌≡◌, refl, sym, ap, ap₂, ◌∙◌, List, [], ◌∷◌, ◌++◌, map, reverse, ℕ, zero, suc, ◌+◌, ◌≤◌, length, arith}
use mathlib.Core.List.{map-append}
use mathlib.Mathlib.Data.List.Basic.{map-reverse_aux}
use Rattle.theory.specs.Terms.{Head, h_data, h_con, Term, var, const, pi, app, lift, subst, subst_all, apps}
use Rattle.theory.specs.Environment.{Constructor, DataType, vars, self_type, rec_fields, up, ups, hypotheses, case_recs, case_type, rec_cases}
use Rattle.theory.proofs.Indices.{lift-zero, subst-lift}
use Rattle.theory.proofs.SubstAll.{Family, subst_family, family_subst_all, family_apps, family_up, family_ups, subst-up, subst-ups, up-apps, up_var, lift-vars}

-- n arguments of type a, and then a
abbrev pub arrows : Term → ℕ → Term
arrows a zero = a
arrows a (suc n) = pi a (arrows (up a) n)

-- the recursor's type behind parameters ps and motive c, from constructor k on
abbrev pub cases_at : ℕ → List Term → Term → ℕ → List Constructor → Term
cases_at i ps c k [] = pi (apps (const (h_data i)) ps) (app (up c) (var 0))
cases_at i ps c k (d ∷ ds) = pi (case_type i k ps c (reverse ps) [] d.fields d.recs) (cases_at i (ups ps) (up c) (k + 1) ds)

module _ {φ : ℕ → Term → Term} (fam : Family φ) where
  pub family_arrows : (b : ℕ) (a : Term) (n : ℕ) → φ b (arrows a n) ≡ arrows (φ b a) n
  family_arrows b a zero = refl
  family_arrows b a (suc n) = fam.at_pi b a (arrows (up a) n) ∙ ap₂ pi refl (family_arrows (suc b) (up a) n ∙ ap (λ z. arrows z n) (family_up fam b a))

  pub family_hypotheses : (c : Term) (rs : List Term) (d : ℕ) (t : Term) (b l : ℕ) → l ≡ b + d → φ l (hypotheses c rs d t) ≡ hypotheses (φ b c) (map (φ b) rs) d (φ b t)
  family_hypotheses c [] d t b l p = fam.past t b d l p
  family_hypotheses c (r ∷ rs) d t b l p =
      fam.at_pi l (lift 0 d (app c r)) (hypotheses c rs (suc d) t)
      ∙ ap₂ pi (fam.past (app c r) b d l p ∙ ap (lift 0 d) (fam.at_app b c r)) (family_hypotheses c rs (suc d) t b (suc l) (omega arith))

  family_snoc : (b : ℕ) (ts : List Term) → map (φ (suc b)) (ups ts ++ (var 0 ∷ [])) ≡ ups (map (φ b) ts) ++ (var 0 ∷ [])
  family_snoc b ts = map-append (φ (suc b)) (ups ts) (var 0 ∷ []) ∙ ap₂ ◌++◌ (family_ups fam b ts) (ap₂ ◌∷◌ (fam.below (suc b) 0 (omega arith)) refl)

  family_const_apps : (b : ℕ) (h : Head) (ts : List Term) → φ b (apps (const h) ts) ≡ apps (const h) (map (φ b) ts)
  family_const_apps b h ts = family_apps fam b (const h) ts ∙ ap (λ f. apps f (map (φ b) ts)) (fam.at_const b h)

  pub family_case_recs : (i k : ℕ) (ps : List Term) (c : Term) (q rs : List Term) (n b : ℕ)
      → φ b (case_recs i k ps c q rs n) ≡ case_recs i k (map (φ b) ps) (φ b c) (map (φ b) q) (map (φ b) rs) n
  family_case_recs i k ps c q rs zero b =
      family_hypotheses c rs 0 (app c (apps (const (h_con i k)) (ps ++ q))) b b (omega arith)
      ∙ ap (hypotheses (φ b c) (map (φ b) rs) 0)
      (fam.at_app b c (apps (const (h_con i k)) (ps ++ q)) ∙ ap₂ app refl (family_const_apps b (h_con i k) (ps ++ q) ∙ ap (apps (const (h_con i k))) (map-append (φ b) ps q)))
  family_case_recs i k ps c q rs (suc n) b =
      fam.at_pi b (apps (const (h_data i)) ps) (case_recs i k (ups ps) (up c) (ups q ++ (var 0 ∷ [])) (ups rs ++ (var 0 ∷ [])) n)
      ∙ ap₂ pi (family_const_apps b (h_data i) ps)
      (family_case_recs i k (ups ps) (up c) (ups q ++ (var 0 ∷ [])) (ups rs ++ (var 0 ∷ [])) n (suc b)
      ∙ rw (family_ups fam b ps, family_up fam b c, family_snoc b q, family_snoc b rs) refl)

  pub family_case_type : (i k : ℕ) (ps : List Term) (c : Term) (us q as₁ : List Term) (n b : ℕ)
      → φ b (case_type i k ps c us q as₁ n) ≡ case_type i k (map (φ b) ps) (φ b c) (map (φ b) us) (map (φ b) q) as₁ n
  family_case_type i k ps c us q [] n b = family_case_recs i k ps c q [] n b
  family_case_type i k ps c us q (a ∷ as₁) n b =
      fam.at_pi b (subst_all us 0 a) (case_type i k (ups ps) (up c) (var 0 ∷ ups us) (ups q ++ (var 0 ∷ [])) as₁ n)
      ∙ ap₂ pi (family_subst_all fam a us b 0 b (omega arith))
      (family_case_type i k (ups ps) (up c) (var 0 ∷ ups us) (ups q ++ (var 0 ∷ [])) as₁ n (suc b)
      ∙ rw (family_ups fam b ps, family_up fam b c, family_snoc b q, fam.below (suc b) 0 (omega arith), family_ups fam b us) refl)

  pub family_cases_at : (i : ℕ) (ps : List Term) (c : Term) (k : ℕ) (ds : List Constructor) (b : ℕ) → φ b (cases_at i ps c k ds) ≡ cases_at i (map (φ b) ps) (φ b c) k ds
  family_cases_at i ps c k [] b =
      fam.at_pi b (apps (const (h_data i)) ps) (app (up c) (var 0))
      ∙ ap₂ pi (family_const_apps b (h_data i) ps) (fam.at_app (suc b) (up c) (var 0) ∙ ap₂ app (family_up fam b c) (fam.below (suc b) 0 (omega arith)))
  family_cases_at i ps c k (d ∷ ds) b =
      fam.at_pi b (case_type i k ps c (reverse ps) [] d.fields d.recs) (cases_at i (ups ps) (up c) (k + 1) ds)
      ∙ ap₂ pi (family_case_type i k ps c (reverse ps) [] d.fields d.recs b ∙ ap (λ us. case_type i k (map (φ b) ps) (φ b c) us [] d.fields d.recs) (map-reverse_aux (φ b) ps []))
      (family_cases_at i (ups ps) (up c) (k + 1) ds (suc b) ∙ ap₂ (λ qs z. cases_at i qs z (k + 1) ds) (family_ups fam b ps) (family_up fam b c))

-- a term put for the binder
pub subst-hypotheses : (c : Term) (rs : List Term) (t u : Term) (d d₁ k : ℕ) → k ≤ d → d₁ ≡ suc d → subst k u (hypotheses c rs d₁ t) ≡ hypotheses c rs d t
subst-hypotheses c [] t u d d₁ k p q = subst-lift t 0 d d₁ k u (omega arith) (omega arith) q
subst-hypotheses c (r ∷ rs) t u d d₁ k p q = ap₂ pi (subst-lift (app c r) 0 d d₁ k u (omega arith) (omega arith) q) (subst-hypotheses c rs t u (suc d) (suc d₁) (suc k) (omega arith) (omega arith))

subst_snoc : (u : Term) (ts : List Term) → map (subst 0 u) (ups ts ++ (var 0 ∷ [])) ≡ ts ++ (u ∷ [])
subst_snoc u ts = map-append (subst 0 u) (ups ts) (var 0 ∷ []) ∙ ap₂ ◌++◌ (subst-ups u ts) (ap₂ ◌∷◌ (lift-zero u 0) refl)

pub subst-case_recs : (i k : ℕ) (ps : List Term) (c : Term) (q rs : List Term) (n : ℕ) (u : Term)
    → subst 0 u (case_recs i k (ups ps) (up c) (ups q ++ (var 0 ∷ [])) (ups rs ++ (var 0 ∷ [])) n) ≡ case_recs i k ps c (q ++ (u ∷ [])) (rs ++ (u ∷ [])) n
subst-case_recs i k ps c q rs n u =
    family_case_recs (subst_family u) i k (ups ps) (up c) (ups q ++ (var 0 ∷ [])) (ups rs ++ (var 0 ∷ [])) n 0
    ∙ rw (subst-ups u ps, subst-up u c, subst_snoc u q, subst_snoc u rs) refl

pub subst-case_type : (i k : ℕ) (ps : List Term) (c : Term) (us q as₁ : List Term) (n : ℕ) (u : Term)
    → subst 0 u (case_type i k (ups ps) (up c) (var 0 ∷ ups us) (ups q ++ (var 0 ∷ [])) as₁ n) ≡ case_type i k ps c (u ∷ us) (q ++ (u ∷ [])) as₁ n
subst-case_type i k ps c us q as₁ n u =
    family_case_type (subst_family u) i k (ups ps) (up c) (var 0 ∷ ups us) (ups q ++ (var 0 ∷ [])) as₁ n 0
    ∙ rw (subst-ups u ps, subst-up u c, subst_snoc u q, lift-zero u 0, subst-ups u us) refl

pub subst_cases_at : (i : ℕ) (ps : List Term) (c : Term) (k : ℕ) (ds : List Constructor) (u : Term) → subst 0 u (cases_at i (ups ps) (up c) k ds) ≡ cases_at i ps c k ds
subst_cases_at i ps c k ds u = family_cases_at (subst_family u) i (ups ps) (up c) k ds 0 ∙ ap₂ (λ qs z. cases_at i qs z k ds) (subst-ups u ps) (subst-up u c)

-- the types of the specification in this form
pub self_type-up : (i : ℕ) (k : DataType) (d : ℕ) → up (self_type i k d) ≡ self_type i k (suc d)
self_type-up i k d = up-apps (const (h_data i)) (vars (length k.params) d) ∙ ap (apps (const (h_data i))) (lift-vars (length k.params) d 1 (suc d) (omega arith))

pub rec_fields_arrows : (i : ℕ) (k : DataType) (n d : ℕ) → rec_fields i k n d ≡ arrows (self_type i k d) n
rec_fields_arrows i k zero d = refl
rec_fields_arrows i k (suc n) d = ap₂ pi refl (rec_fields_arrows i k n (suc d) ∙ ap (λ a. arrows a n) (sym (self_type-up i k d)))

pub rec_cases_at : (i n m k : ℕ) (ds : List Constructor) → rec_cases i n m k ds ≡ cases_at i (vars n (m + 1)) (var m) k ds
rec_cases_at i n m k [] = ap₂ pi refl (ap₂ app (sym (up_var m (m + 1) (omega arith))) refl)
rec_cases_at i n m k (d ∷ ds) =
    ap₂ pi refl (rec_cases_at i n (m + 1) (k + 1) ds ∙ ap₂ (λ ps z. cases_at i ps z (k + 1) ds) (sym (lift-vars n (m + 1) 1 (m + 1 + 1) refl)) (sym (up_var m (m + 1) (omega arith))))
