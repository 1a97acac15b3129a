-- What the head of a spine and the number of its arguments say of the pass.
use Rattle.std.proofs.Common.{◌≡◌, ℕ, zero, suc, ◌+◌, ◌-◌, ◌*◌, ◌<◌, ◌≤◌, false, Some, None, Option as Maybe, IfSome, sym, refl, ap, ◌∙◌, subst as tr, inl, inr, arith, eq-eqb, ne_eqb}
use mathlib.Core.Option.{some}
use Rattle.theory.specs.Terms.{h_def, h_data, h_con, h_rec, h_eq, h_refl, h_along, Term, var, const, sort, pi, lam, app, subst}
use Rattle.theory.specs.Environment.{Env}
use Rattle.theory.specs.Reduction.{contract}
use Rattle.theory.proofs.Options.{none-some}
use Rattle.reduction.specs.Spines.{uses, head_term, wants, Wants, is_lam, strip, top_step, body_of, Looks}
use Rattle.reduction.specs.declared.spine.Look.TheVariants.{Redex, Spread, Needs}
use Rattle.reduction.proofs.Spreading.{calm_to, needs_is}

-- The term below k applications has the same head and k arguments fewer.
pub strip-uses : (k : ℕ) (t : Term) → k ≤ uses t → uses (strip k t) + k ≡ uses t
strip-uses zero t l = omega arith
strip-uses (suc k) (var x) l = absurd (omega arith)
strip-uses (suc k) (const h) l = absurd (omega arith)
strip-uses (suc k) (sort i) l = absurd (omega arith)
strip-uses (suc k) (pi a b) l = absurd (omega arith)
strip-uses (suc k) (lam a b) l = absurd (omega arith)
strip-uses (suc k) (app f a) l = omega (arith, strip-uses k f (omega arith))

pub strip_head : (k : ℕ) (t : Term) → head_term (strip k t) ≡ head_term t
strip_head zero t = refl
strip_head (suc k) (var x) = refl
strip_head (suc k) (const h) = refl
strip_head (suc k) (sort i) = refl
strip_head (suc k) (pi a b) = refl
strip_head (suc k) (lam a b) = refl
strip_head (suc k) (app f a) = strip_head k f

pub no_uses : (t : Term) → uses t ≡ 0 → head_term t ≡ t
no_uses (var x) p = refl
no_uses (const h) p = refl
no_uses (sort i) p = refl
no_uses (pi a b) p = refl
no_uses (lam a b) p = refl
no_uses (app f a) p = absurd (omega arith)

pub some-uses : {D : Type 0} (t : Term) → 0 < uses t → ((f a : Term) → t ≡ app f a → D) → D
some-uses (var x) l k = absurd (omega arith)
some-uses (const h) l k = absurd (omega arith)
some-uses (sort i) l k = absurd (omega arith)
some-uses (pi a b) l k = absurd (omega arith)
some-uses (lam a b) l k = absurd (omega arith)
some-uses (app f a) l k = k f a refl

-- A function applied to arguments.
beta_steps : (e : Env) (s b c : Term) → uses s ≡ 1 → head_term s ≡ lam b c → (u : Term) × (top_step e s ≡ some u)
beta_steps e (var x) b c l p = absurd (omega arith)
beta_steps e (const h) b c l p = absurd (omega arith)
beta_steps e (sort i) b c l p = absurd (omega arith)
beta_steps e (pi x y) b c l p = absurd (omega arith)
beta_steps e (lam x y) b c l p = absurd (omega arith)
beta_steps e (app f a) b c l p = (subst 0 a c, tr (λ z. contract e z a ≡ some (subst 0 a c)) (sym p ∙ no_uses f (omega arith)) refl)

pub look_lam : (e : Env) (at : ℕ) (t b c : Term) (n : ℕ) → n ≡ uses t → 0 < n → head_term t ≡ lam b c → Looks e at t (Redex (at + 3 * (n - 1)))
look_lam e at t b c n q l p =
    let (u, s) = beta_steps e (strip (n - 1) t) b c (omega (arith, strip-uses (n - 1) t (omega arith))) (strip_head (n - 1) t ∙ p) in
    (n - 1, u, refl, omega arith, calm_to e (n - 1) t (omega arith) (inr (omega arith)) (λ m x y. ap (λ z. wants e z (suc m)) p), s)

-- A name that unfolds.
unfolding_top : (e : Env) (s : Term) {u : Term} → body_of e s ≡ some u → top_step e s ≡ some u
unfolding_top e (var x) p = none-some p
unfolding_top e (const h) p = p
unfolding_top e (sort i) p = none-some p
unfolding_top e (pi a b) p = none-some p
unfolding_top e (lam a b) p = none-some p
unfolding_top e (app f a) p = none-some p

unfolding_calm : (e : Env) (s : Term) {u : Term} → body_of e s ≡ some u → (is_lam s ≡ false) × ((m : ℕ) → wants e s m ≡ false)
unfolding_calm e (var x) p = none-some p
unfolding_calm e (const (h_def i)) p = (refl, λ m. refl)
unfolding_calm e (const (h_data i)) p = none-some p
unfolding_calm e (const (h_con i k)) p = none-some p
unfolding_calm e (const (h_rec i j)) p = none-some p
unfolding_calm e (const (h_eq i)) p = none-some p
unfolding_calm e (const (h_refl i)) p = none-some p
unfolding_calm e (const (h_along i j)) p = none-some p
unfolding_calm e (sort i) p = none-some p
unfolding_calm e (pi a b) p = none-some p
unfolding_calm e (lam a b) p = none-some p
unfolding_calm e (app f a) p = none-some p

pub look_def : (e : Env) (at : ℕ) (t u : Term) (n : ℕ) → n ≡ uses t → body_of e (head_term t) ≡ some u → Looks e at t (Redex (at + 3 * n))
look_def e at t u n q p =
    let (nl, w) = unfolding_calm e (head_term t) p in
    let h : strip n t ≡ head_term t = sym (no_uses (strip n t) (omega (arith, strip-uses n t (omega arith)))) ∙ strip_head n t in
    (n, u, refl, omega arith, calm_to e n t (omega arith) (inl nl) (λ m x y. w (suc m)), ap (top_step e) h ∙ unfolding_top e (head_term t) p)

-- A spine that does not look at an argument, and one that does.
pub look_spread : (e : Env) (at : ℕ) (t : Term) (n : ℕ) (o : Maybe ℕ) → n ≡ uses t → 0 < n → is_lam (head_term t) ≡ false → Wants e (head_term t) o → IfSome o (λ m. n < m) → Looks e at t (Spread n)
look_spread e at t n None q l nl w z = (l, q, calm_to e n t (omega arith) (inl nl) (λ k x y. w.at k))
look_spread e at t n (Some m) q l nl w z = (l, q, calm_to e n t (omega arith) (inl nl) (λ k x y. w.at k ∙ ne_eqb (suc k) m (λ r. omega arith)))

pub look_needs : (e : Env) (at : ℕ) (t : Term) (n m : ℕ) → n ≡ uses t → 2 ≤ m → m ≤ n → is_lam (head_term t) ≡ false → Wants e (head_term t) (Some m) → Looks e at t (Needs n m)
look_needs e at t n m q two l nl w = some-uses (strip (n - m) t) (omega (arith, strip-uses (n - m) t (omega arith))) λ f a is.
    let u : suc (uses f) ≡ m = omega (arith, ap uses is, strip-uses (n - m) t (omega arith)) in
    let h : head_term f ≡ head_term t = sym (ap head_term is) ∙ strip_head (n - m) t in (
      f,
      a,
      q,
      two,
      l,
      calm_to e (n - m) t (omega arith) (inl nl) (λ k x y. w.at k ∙ ne_eqb (suc k) m (λ r. omega arith)),
      is,
      needs_is e f a ∙ (ap (λ z. wants e z (suc (uses f))) h ∙ (w.at (uses f) ∙ eq-eqb (suc (uses f)) m u)),
      omega arith,
      calm_to e (m - 1) f (omega arith) (inl (ap is_lam h ∙ nl)) (λ k x y. ap (λ z. wants e z (suc k)) h ∙ (w.at k ∙ ne_eqb (suc k) m (λ r. omega arith))),
    )

pub look_alone : (e : Env) (at : ℕ) (t u : Term) → uses t ≡ 0 → body_of e t ≡ some u → Looks e at t (Redex at)
look_alone e at t u q p = (0, u, omega arith, omega arith, tt, unfolding_top e t p)
