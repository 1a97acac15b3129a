-- Laws of lift and subst with one another.
-- Every sum of indices is a variable with an equation, so that arithmetic discharges it.
use Rattle.std.proofs.Common.{◌≡◌, refl, sym, ap, ap₂, ℕ, suc, ◌+◌, ◌≤◌, ◌<◌, arith, lt-ltb, le-ltb, eq-eqb, ne_eqb}
use Rattle.theory.specs.Terms.{Term, var, const, sort, pi, lam, app, lift, subst}

-- the variable cases
pub lift_below : {c x : ℕ} (d : ℕ) → x < c → lift c d (var x) ≡ var x
lift_below {c} {x} d p = rw (lt-ltb x c p) refl

pub lift_above : {c x : ℕ} (d y : ℕ) → c ≤ x → y ≡ x + d → lift c d (var x) ≡ var y
lift_above {c} {x} d y p q = rw (le-ltb x c p) (ap var (sym q))

pub subst_below : {k x : ℕ} (u : Term) → x < k → subst k u (var x) ≡ var x
subst_below {k} {x} u p = rw (lt-ltb x k p) refl

pub subst_at : (k : ℕ) (u : Term) → subst k u (var k) ≡ lift 0 k u
subst_at k u = rw (le-ltb k k (omega arith), eq-eqb k k refl) refl

pub subst_above : {k x : ℕ} (u : Term) (y : ℕ) → k < x → x ≡ suc y → subst k u (var x) ≡ var y
subst_above {k} {x} u y p q = rw (le-ltb x k (omega arith), ne_eqb x k (omega arith)) (ap var (omega arith))

-- lifting by nothing
pub lift-zero : (t : Term) (c : ℕ) → lift c 0 t ≡ t
lift-zero (var x) c = grind arith
lift-zero (const h) c = refl
lift-zero (sort i) c = refl
lift-zero (pi a b) c = ap₂ pi (lift-zero a c) (lift-zero b (suc c))
lift-zero (lam a b) c = ap₂ lam (lift-zero a c) (lift-zero b (suc c))
lift-zero (app f a) c = ap₂ app (lift-zero f c) (lift-zero a c)

-- two liftings change places
pub lift-lift : (t : Term) (c₁ d₁ c₂ d₂ c₃ : ℕ) → c₁ ≤ c₂ → c₃ ≡ c₂ + d₁ → lift c₃ d₂ (lift c₁ d₁ t) ≡ lift c₁ d₁ (lift c₂ d₂ t)
lift-lift (var x) c₁ d₁ c₂ d₂ c₃ p q = grind arith
lift-lift (const h) c₁ d₁ c₂ d₂ c₃ p q = refl
lift-lift (sort i) c₁ d₁ c₂ d₂ c₃ p q = refl
lift-lift (pi a b) c₁ d₁ c₂ d₂ c₃ p q = ap₂ pi (lift-lift a c₁ d₁ c₂ d₂ c₃ p q) (lift-lift b (suc c₁) d₁ (suc c₂) d₂ (suc c₃) (omega arith) (omega arith))
lift-lift (lam a b) c₁ d₁ c₂ d₂ c₃ p q = ap₂ lam (lift-lift a c₁ d₁ c₂ d₂ c₃ p q) (lift-lift b (suc c₁) d₁ (suc c₂) d₂ (suc c₃) (omega arith) (omega arith))
lift-lift (app f a) c₁ d₁ c₂ d₂ c₃ p q = ap₂ app (lift-lift f c₁ d₁ c₂ d₂ c₃ p q) (lift-lift a c₁ d₁ c₂ d₂ c₃ p q)

-- two liftings at overlapping places are one
pub lift_merge : (t : Term) (c₁ d₁ c₂ d₂ d₃ : ℕ) → c₁ ≤ c₂ → c₂ ≤ c₁ + d₁ → d₃ ≡ d₁ + d₂ → lift c₂ d₂ (lift c₁ d₁ t) ≡ lift c₁ d₃ t
lift_merge (var x) c₁ d₁ c₂ d₂ d₃ p q r = grind arith
lift_merge (const h) c₁ d₁ c₂ d₂ d₃ p q r = refl
lift_merge (sort i) c₁ d₁ c₂ d₂ d₃ p q r = refl
lift_merge (pi a b) c₁ d₁ c₂ d₂ d₃ p q r = ap₂ pi (lift_merge a c₁ d₁ c₂ d₂ d₃ p q r) (lift_merge b (suc c₁) d₁ (suc c₂) d₂ d₃ (omega arith) (omega arith) r)
lift_merge (lam a b) c₁ d₁ c₂ d₂ d₃ p q r = ap₂ lam (lift_merge a c₁ d₁ c₂ d₂ d₃ p q r) (lift_merge b (suc c₁) d₁ (suc c₂) d₂ d₃ (omega arith) (omega arith) r)
lift_merge (app f a) c₁ d₁ c₂ d₂ d₃ p q r = ap₂ app (lift_merge f c₁ d₁ c₂ d₂ d₃ p q r) (lift_merge a c₁ d₁ c₂ d₂ d₃ p q r)

-- putting a term for an index that lifting has left out undoes one binder of the lifting
pub subst-lift : (t : Term) (c d d₁ k : ℕ) (u : Term) → c ≤ k → k ≤ c + d → d₁ ≡ suc d → subst k u (lift c d₁ t) ≡ lift c d t
subst-lift (var x) c d d₁ k u p q r = grind arith
subst-lift (const h) c d d₁ k u p q r = refl
subst-lift (sort i) c d d₁ k u p q r = refl
subst-lift (pi a b) c d d₁ k u p q r = ap₂ pi (subst-lift a c d d₁ k u p q r) (subst-lift b (suc c) d d₁ (suc k) u (omega arith) (omega arith) r)
subst-lift (lam a b) c d d₁ k u p q r = ap₂ lam (subst-lift a c d d₁ k u p q r) (subst-lift b (suc c) d d₁ (suc k) u (omega arith) (omega arith) r)
subst-lift (app f a) c d d₁ k u p q r = ap₂ app (subst-lift f c d d₁ k u p q r) (subst-lift a c d d₁ k u p q r)

-- a substitution goes past a lifting in front of it
pub subst_past_lift : (t : Term) (c d k k₁ : ℕ) (u : Term) → c ≤ k → k₁ ≡ k + d → subst k₁ u (lift c d t) ≡ lift c d (subst k u t)
subst_past_lift (var x) c d k k₁ u p q = let z : lift c d (lift 0 k u) ≡ lift 0 k₁ u = lift_merge u 0 k c d k₁ (omega arith) (omega arith) q in grind arith
subst_past_lift (const h) c d k k₁ u p q = refl
subst_past_lift (sort i) c d k k₁ u p q = refl
subst_past_lift (pi a b) c d k k₁ u p q = ap₂ pi (subst_past_lift a c d k k₁ u p q) (subst_past_lift b (suc c) d (suc k) (suc k₁) u (omega arith) (omega arith))
subst_past_lift (lam a b) c d k k₁ u p q = ap₂ lam (subst_past_lift a c d k k₁ u p q) (subst_past_lift b (suc c) d (suc k) (suc k₁) u (omega arith) (omega arith))
subst_past_lift (app f a) c d k k₁ u p q = ap₂ app (subst_past_lift f c d k k₁ u p q) (subst_past_lift a c d k k₁ u p q)

-- a lifting goes past a substitution in front of it
pub lift-subst : (t : Term) (k c d c₁ c₂ : ℕ) (u : Term) → c₁ ≡ c + k → c₂ ≡ suc c₁ → lift c₁ d (subst k u t) ≡ subst k (lift c d u) (lift c₂ d t)
lift-subst (var x) k c d c₁ c₂ u p q = let z : lift c₁ d (lift 0 k u) ≡ lift 0 k (lift c d u) = lift-lift u 0 k c d c₁ (omega arith) p in grind arith
lift-subst (const h) k c d c₁ c₂ u p q = refl
lift-subst (sort i) k c d c₁ c₂ u p q = refl
lift-subst (pi a b) k c d c₁ c₂ u p q = ap₂ pi (lift-subst a k c d c₁ c₂ u p q) (lift-subst b (suc k) c d (suc c₁) (suc c₂) u (omega arith) (omega arith))
lift-subst (lam a b) k c d c₁ c₂ u p q = ap₂ lam (lift-subst a k c d c₁ c₂ u p q) (lift-subst b (suc k) c d (suc c₁) (suc c₂) u (omega arith) (omega arith))
lift-subst (app f a) k c d c₁ c₂ u p q = ap₂ app (lift-subst f k c d c₁ c₂ u p q) (lift-subst a k c d c₁ c₂ u p q)

-- two substitutions change places
pub subst-subst : (t : Term) (k j m m₁ : ℕ) (u v : Term) → m ≡ j + k → m₁ ≡ suc m → subst m v (subst k u t) ≡ subst k (subst j v u) (subst m₁ v t)
subst-subst (var x) k j m m₁ u v p q =
    let y : subst m v (lift 0 k u) ≡ lift 0 k (subst j v u) = subst_past_lift u 0 k j m v (omega arith) p in
    let z : subst k (subst j v u) (lift 0 m₁ v) ≡ lift 0 m v = subst-lift v 0 m m₁ k (subst j v u) (omega arith) (omega arith) q in
    grind arith
subst-subst (const h) k j m m₁ u v p q = refl
subst-subst (sort i) k j m m₁ u v p q = refl
subst-subst (pi a b) k j m m₁ u v p q = ap₂ pi (subst-subst a k j m m₁ u v p q) (subst-subst b (suc k) j (suc m) (suc m₁) u v (omega arith) (omega arith))
subst-subst (lam a b) k j m m₁ u v p q = ap₂ lam (subst-subst a k j m m₁ u v p q) (subst-subst b (suc k) j (suc m) (suc m₁) u v (omega arith) (omega arith))
subst-subst (app f a) k j m m₁ u v p q = ap₂ app (subst-subst f k j m m₁ u v p q) (subst-subst a k j m m₁ u v p q)
