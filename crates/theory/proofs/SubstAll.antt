-- Laws of simultaneous substitution with lift, subst and itself; families of maps that commute with lift.
-- A family gives what lift, subst and subst_all have in common: one proof serves all three.
use Rattle.std.proofs.Common.{◌≡◌, refl, sym, ap, ap₂, ◌∙◌, List, [], ◌∷◌, ◌++◌, map, reverse, ℕ, zero, suc, ◌+◌, ◌-◌, ◌≤◌, ◌<◌, length, ltb, arith, lt-ltb, le-ltb, ltb-true, ltb-false}
use mathlib.Core.List.{reverse_aux}
use lib.ListN.{get_elem?}
use Rattle.theory.specs.Terms.{Head, Term, var, const, sort, pi, lam, app, option, lift, subst, subst_all, apps, lifts}
use mathlib.Core.List.{reverse-append}
use mathlib.Mathlib.Data.List.Basic.{map-reverse_aux}
use Rattle.theory.specs.Environment.{Env, vars, up, ups}
use Rattle.theory.specs.Typing.{HasType}
use Rattle.theory.proofs.Options.{cases_bool}
use Rattle.theory.proofs.Indices.{lift_above, lift-zero, lift-lift, lift_merge, subst-lift, subst_past_lift, lift_below, subst_below}

-- the variable cases
pub subst_all_below : {d x : ℕ} (us : List Term) → x < d → subst_all us d (var x) ≡ var x
subst_all_below {d} {x} us p = rw (lt-ltb x d p) refl

pub subst_all_above : (us : List Term) (d x y : ℕ) → x ≡ y + d → subst_all us d (var x) ≡ option (get_elem? us y) (sort 0) (lift 0 d)
subst_all_above us d x y p = rw (le-ltb x d (omega arith)) (ap (λ n. option (get_elem? us n) (sort 0) (lift 0 d)) (omega arith))

-- a map of terms for each number of binders that it goes under: it keeps the shape of terms and the bound variables, and commutes with lift
pub record Family (φ : ℕ → Term → Term) : Type 0 where
  pub at_const : (c : ℕ) (h : Head) → φ c (const h) ≡ const h
  pub at_sort : (c i : ℕ) → φ c (sort i) ≡ sort i
  pub at_pi : (c : ℕ) (a b : Term) → φ c (pi a b) ≡ pi (φ c a) (φ (suc c) b)
  pub at_lam : (c : ℕ) (a b : Term) → φ c (lam a b) ≡ lam (φ c a) (φ (suc c) b)
  pub at_app : (c : ℕ) (f a : Term) → φ c (app f a) ≡ app (φ c f) (φ c a)
  pub below : (c x : ℕ) → x < c → φ c (var x) ≡ var x
  pub past : (t : Term) (c k l : ℕ) → l ≡ c + k → φ l (lift 0 k t) ≡ lift 0 k (φ c t)

-- substitution goes past a lifting in front of it
pub subst_all_past_lift : (t : Term) (us : List Term) (b d c l : ℕ) → b ≤ c → l ≡ c + d → subst_all us l (lift b d t) ≡ lift b d (subst_all us c t)
subst_all_past_lift (var x) us b d c l p q =
    let z : (t : Term) → lift b d (lift 0 c t) ≡ lift 0 l t = λ t. lift_merge t 0 c b d l (omega arith) (omega arith) q in
    grind (arith, z)
subst_all_past_lift (const h) us b d c l p q = refl
subst_all_past_lift (sort i) us b d c l p q = refl
subst_all_past_lift (pi a a₁) us b d c l p q = ap₂ pi (subst_all_past_lift a us b d c l p q) (subst_all_past_lift a₁ us (suc b) d (suc c) (suc l) (omega arith) (omega arith))
subst_all_past_lift (lam a a₁) us b d c l p q = ap₂ lam (subst_all_past_lift a us b d c l p q) (subst_all_past_lift a₁ us (suc b) d (suc c) (suc l) (omega arith) (omega arith))
subst_all_past_lift (app f a) us b d c l p q = ap₂ app (subst_all_past_lift f us b d c l p q) (subst_all_past_lift a us b d c l p q)

pub lift_family : (d : ℕ) → Family (λ c. lift c d)
lift_family d = record { at_const = λ c h. refl; at_sort = λ c i. refl; at_pi = λ c a b. refl; at_lam = λ c a b. refl; at_app = λ c f a. refl; below = λ c x p. lift_below d p; past = λ t c k l p. lift-lift t 0 k c d l (omega arith) p }

pub subst_family : (u : Term) → Family (λ c. subst c u)
subst_family u = record { at_const = λ c h. refl; at_sort = λ c i. refl; at_pi = λ c a b. refl; at_lam = λ c a b. refl; at_app = λ c f a. refl; below = λ c x p. subst_below u p; past = λ t c k l p. subst_past_lift t 0 k c l u (omega arith) p }

pub subst_all_family : (us : List Term) → Family (subst_all us)
subst_all_family us = record { at_const = λ c h. refl; at_sort = λ c i. refl; at_pi = λ c a b. refl; at_lam = λ c a b. refl; at_app = λ c f a. refl; below = λ c x p. subst_all_below us p; past = λ t c k l p. subst_all_past_lift t us 0 k c l (omega arith) p }

-- a family goes past a substitution: it acts on the terms that are put in
module _ {φ : ℕ → Term → Term} (fam : Family φ) where
  pub family_subst_all : (t : Term) (us : List Term) (c k l : ℕ) → l ≡ c + k → φ l (subst_all us k t) ≡ subst_all (map (φ c) us) k t
  family_subst_all (var x) us c k l p =
      cases_bool (ltb x k)
      (λ q. rw q (fam.below l x (let z : x < k = ltb-true x k q in omega arith)))
      (λ q. rw q (go us (x - k)))
    where
      go : (us : List Term) (y : ℕ) → φ l (option (get_elem? us y) (sort 0) (lift 0 k)) ≡ option (get_elem? (map (φ c) us) y) (sort 0) (lift 0 k)
      go [] y = fam.at_sort l 0
      go (u ∷ us) zero = fam.past u c k l p
      go (u ∷ us) (suc y) = go us y
  family_subst_all (const h) us c k l p = fam.at_const l h
  family_subst_all (sort i) us c k l p = fam.at_sort l i
  family_subst_all (pi a b) us c k l p = fam.at_pi l _ _ ∙ ap₂ pi (family_subst_all a us c k l p) (family_subst_all b us c (suc k) (suc l) (omega arith))
  family_subst_all (lam a b) us c k l p = fam.at_lam l _ _ ∙ ap₂ lam (family_subst_all a us c k l p) (family_subst_all b us c (suc k) (suc l) (omega arith))
  family_subst_all (app f a) us c k l p = fam.at_app l _ _ ∙ ap₂ app (family_subst_all f us c k l p) (family_subst_all a us c k l p)

  pub family_apps : (c : ℕ) (f : Term) (ts : List Term) → φ c (apps f ts) ≡ apps (φ c f) (map (φ c) ts)
  family_apps c f [] = refl
  family_apps c f (t ∷ ts) = family_apps c (app f t) ts ∙ ap (λ g. apps g (map (φ c) ts)) (fam.at_app c f t)

  pub family_up : (c : ℕ) (t : Term) → φ (suc c) (up t) ≡ up (φ c t)
  family_up c t = fam.past t c 1 (suc c) (omega arith)

  pub family_ups : (c : ℕ) (ts : List Term) → map (φ (suc c)) (ups ts) ≡ ups (map (φ c) ts)
  family_ups c [] = refl
  family_ups c (t ∷ ts) = ap₂ ◌∷◌ (family_up c t) (family_ups c ts)

-- one more term put in, first or last
pub subst-subst_all : (t u : Term) (us : List Term) (k : ℕ) → subst k u (subst_all us (suc k) t) ≡ subst_all (u ∷ us) k t
subst-subst_all (var x) u us k =
    let z : (t : Term) → subst k u (lift 0 (suc k) t) ≡ lift 0 k t = λ t. subst-lift t 0 k (suc k) k u (omega arith) (omega arith) refl in
    grind (arith, z)
subst-subst_all (const h) u us k = refl
subst-subst_all (sort i) u us k = refl
subst-subst_all (pi a b) u us k = ap₂ pi (subst-subst_all a u us k) (subst-subst_all b u us (suc k))
subst-subst_all (lam a b) u us k = ap₂ lam (subst-subst_all a u us k) (subst-subst_all b u us (suc k))
subst-subst_all (app f a) u us k = ap₂ app (subst-subst_all f u us k) (subst-subst_all a u us k)

-- under one more binder
pub subst_all-under : (t : Term) (us : List Term) (k : ℕ) → subst_all (var 0 ∷ ups us) k t ≡ subst_all us (suc k) t
subst_all-under (var x) us k =
    let z : (t : Term) → lift 0 k (up t) ≡ lift 0 (suc k) t = λ t. lift_merge t 0 1 0 k (suc k) (omega arith) (omega arith) (omega arith) in
    cases_bool (ltb x k) (λ q. grind arith)
    (λ q. let y : k ≤ x = ltb-false x k q in subst_all_above (var 0 ∷ ups us) k x (x - k) (omega arith) ∙ go z y (x - k) (omega arith))
  where
    get_ups : ((t : Term) → lift 0 k (up t) ≡ lift 0 (suc k) t) → (vs : List Term) (y : ℕ) → option (get_elem? (ups vs) y) (sort 0) (lift 0 k) ≡ option (get_elem? vs y) (sort 0) (lift 0 (suc k))
    get_ups z [] y = refl
    get_ups z (v ∷ vs) zero = z v
    get_ups z (v ∷ vs) (suc y) = get_ups z vs y

    go : ((t : Term) → lift 0 k (up t) ≡ lift 0 (suc k) t) → k ≤ x → (y : ℕ) → x ≡ y + k → option (get_elem? (var 0 ∷ ups us) y) (sort 0) (lift 0 k) ≡ subst_all us (suc k) (var x)
    go z p zero q = lift_above {c = 0} {x = 0} k x (omega arith) (omega arith) ∙ sym (subst_all_below us (omega arith))
    go z p (suc y) q = get_ups z us y ∙ sym (subst_all_above us (suc k) x y (omega arith))
subst_all-under (const h) us k = refl
subst_all-under (sort i) us k = refl
subst_all-under (pi a b) us k = ap₂ pi (subst_all-under a us k) (subst_all-under b us (suc k))
subst_all-under (lam a b) us k = ap₂ lam (subst_all-under a us k) (subst_all-under b us (suc k))
subst_all-under (app f a) us k = ap₂ app (subst_all-under f us k) (subst_all-under a us k)

-- what is put for variables that lifting has left out is gone
pub get_append : {A : Type 0} (xs ys : List A) (i j : ℕ) → i ≡ j + length xs → get_elem? (xs ++ ys) i ≡ get_elem? ys j
get_append [] ys i j p = ap (get_elem? ys) (omega arith)
get_append (x ∷ xs) ys zero j p = absurd (omega arith)
get_append (x ∷ xs) ys (suc i) j p = get_append xs ys i j (omega arith)

pub subst_all-lift : (t : Term) (ts us : List Term) (k d : ℕ) → d ≡ length ts → subst_all (ts ++ us) k (lift k d t) ≡ subst_all us k t
subst_all-lift (var x) ts us k d p =
    cases_bool (ltb x k) (λ q. grind arith)
    (λ q. rw q (let z : k ≤ x = ltb-false x k q in subst_all_above (ts ++ us) k (x + d) (x + d - k) (omega arith) ∙ ap (λ o. option o (sort 0) (lift 0 k)) (get_append ts us (x + d - k) (x - k) (omega arith))))
subst_all-lift (const h) ts us k d p = refl
subst_all-lift (sort i) ts us k d p = refl
subst_all-lift (pi a b) ts us k d p = ap₂ pi (subst_all-lift a ts us k d p) (subst_all-lift b ts us (suc k) d p)
subst_all-lift (lam a b) ts us k d p = ap₂ lam (subst_all-lift a ts us k d p) (subst_all-lift b ts us (suc k) d p)
subst_all-lift (app f a) ts us k d p = ap₂ app (subst_all-lift f ts us k d p) (subst_all-lift a ts us k d p)

pub subst-up : (u t : Term) → subst 0 u (up t) ≡ t
subst-up u t = subst-lift t 0 0 1 0 u (omega arith) (omega arith) refl ∙ lift-zero t 0

pub up_var : (x y : ℕ) → y ≡ suc x → up (var x) ≡ var y
up_var x y p = lift_above 1 y (omega arith) (omega arith)

-- lists of terms
pub lifts-map : (d : ℕ) (ts : List Term) → lifts d ts ≡ map (lift 0 d) ts
lifts-map d [] = refl
lifts-map d (t ∷ ts) = ap₂ ◌∷◌ refl (lifts-map d ts)

pub lift-apps : (c d : ℕ) (f : Term) (ts : List Term) → lift c d (apps f ts) ≡ apps (lift c d f) (map (lift c d) ts)
lift-apps c d f ts = family_apps (lift_family d) c f ts

pub up-apps : (f : Term) (ts : List Term) → up (apps f ts) ≡ apps (up f) (ups ts)
up-apps f ts = lift-apps 0 1 f ts ∙ ap (apps (up f)) (sym (lifts-map 1 ts))

pub apps_append : (f : Term) (ts us : List Term) → apps f (ts ++ us) ≡ apps (apps f ts) us
apps_append f [] us = refl
apps_append f (t ∷ ts) us = apps_append (app f t) ts us

pub ups_append : (ts us : List Term) → ups (ts ++ us) ≡ ups ts ++ ups us
ups_append [] us = refl
ups_append (t ∷ ts) us = ap₂ ◌∷◌ refl (ups_append ts us)

pub ups-reverse : (ts : List Term) → ups (reverse ts) ≡ reverse (ups ts)
ups-reverse ts = lifts-map 1 (reverse ts) ∙ map-reverse_aux (lift 0 1) ts [] ∙ ap reverse (sym (lifts-map 1 ts))

pub length-ups : (ts : List Term) → length (ups ts) ≡ length ts
length-ups [] = refl
length-ups (t ∷ ts) = ap suc (length-ups ts)

pub subst-ups : (u : Term) (ts : List Term) → map (subst 0 u) (ups ts) ≡ ts
subst-ups u [] = refl
subst-ups u (t ∷ ts) = ap₂ ◌∷◌ (subst-up u t) (subst-ups u ts)

-- the variables of n binders
pub length-vars : (n d : ℕ) → length (vars n d) ≡ n
length-vars zero d = refl
length-vars (suc n) d = ap suc (length-vars n d)

pub lift-vars : (n d k m : ℕ) → m ≡ d + k → lifts k (vars n d) ≡ vars n m
lift-vars zero d k m p = refl
lift-vars (suc n) d k m p = ap₂ ◌∷◌ (lift_above k (n + m) (omega arith) (omega arith)) (lift-vars n d k m p)

pub vars_last : (n d : ℕ) → vars (suc n) d ≡ vars n (suc d) ++ (var d ∷ [])
vars_last zero d = ap₂ ◌∷◌ (ap var (omega arith)) refl
vars_last (suc n) d = ap₂ ◌∷◌ (ap var (omega arith)) (vars_last n d)

pub reverse-vars : (n : ℕ) → reverse (vars (suc n) 0) ≡ var 0 ∷ ups (reverse (vars n 0))
reverse-vars n =
    ap reverse (vars_last n 0) ∙ reverse-append (vars n 1) (var 0 ∷ []) ∙ ap₂ ◌∷◌ refl (ap reverse (sym (lift-vars n 0 1 1 (omega arith))) ∙ sym (ups-reverse (vars n 0)))

-- put for the variables of their binders, terms take their places
get_reverse : (xs ys : List Term) (i j : ℕ) → i ≡ j + length xs → get_elem? (reverse_aux xs ys) i ≡ get_elem? ys j
get_reverse [] ys i j p = ap (get_elem? ys) (omega arith)
get_reverse (x ∷ xs) ys i j p = get_reverse xs (x ∷ ys) i (suc j) (omega arith)

pub subst_all-vars : (ts us : List Term) (n : ℕ) → n ≡ length ts → map (subst_all (reverse_aux ts us) 0) (vars n 0) ≡ ts
subst_all-vars [] us zero p = refl
subst_all-vars [] us (suc n) p = absurd (omega arith)
subst_all-vars (t ∷ ts) us zero p = absurd (omega arith)
subst_all-vars (t ∷ ts) us (suc n) p =
    ap₂ ◌∷◌
    (subst_all_above (reverse_aux ts (t ∷ us)) 0 (n + 0) n (omega arith) ∙ ap (λ o. option o (sort 0) (lift 0 0)) (get_reverse ts (t ∷ us) n 0 (omega arith)) ∙ lift-zero t 0)
    (subst_all-vars ts (t ∷ us) n (omega arith))

-- a substitution from g for the context d: a term for each variable of d, the innermost first, of its type there
pub data Substitution (e : Env) (g : List Term) : List Term → List Term → Type 0 where
  sub_end : Substitution e g [] []
  sub_more : {us d : List Term} {u a : Term} → Substitution e g us d → HasType e g u (subst_all us 0 a) → Substitution e g (u ∷ us) (a ∷ d)
