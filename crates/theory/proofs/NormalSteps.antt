-- Normal-order steps: each is a reduction step; a term without one is normal; they compose, and there is one way of taking them.
-- The first reduct with a property, and the inferred type, are unique.
use Rattle.std.proofs.Common.{◌≡◌, refl, sym, ap, ap₂, ◌∙◌, subst as tr, Bool, true, false, cond, List, ℕ, zero, suc, ◌+◌, ◌-◌, ◌<◌, ◌≤◌, max, arith, ltb, ltb-true, ltb-false}
use mathlib.Core.Option.{Option, some, none}
use Rattle.theory.proofs.Options.{none-some, true-false, some_inj, cases_bool, bind-some, map-some, or_else_some, map-none, or_else_none}
use Rattle.theory.specs.Terms.{Term, var, const, sort, pi, lam, app, lift, subst}
use Rattle.theory.specs.Environment.{Env}
use Rattle.theory.specs.Reduction.{or_else, map_option, bind, contract, Step, contracts, unfolds, in_fun, in_arg, in_pi, under_pi, in_lam, under_lam, Steps, no_steps, a_step, normal_step, normal_steps}
use Rattle.theory.specs.Typing.{FirstReduct, Infers, i_var, i_head, i_sort, i_pi, i_lam, i_app}
use Rattle.theory.proofs.WeakHead.{needs_arg}

-- The normal-order step in one of two parts, the first first.
in_parts : {A : Type 0} (x y : Option A) {z : A} {D : Type 0} → or_else x y ≡ some z → (x ≡ some z → D) → (y ≡ some z → D) → D
in_parts x y p j k = or_else_some x y p j (λ _ q. k q)

in_either : {A : Type 0} (b : Bool) (x y : Option A) {z : A} {D : Type 0} → cond b (or_else x y) (or_else y x) ≡ some z → (x ≡ some z → D) → (y ≡ some z → D) → D
in_either true x y p j k = in_parts x y p j k
in_either false x y p j k = in_parts y x p k j

no_either : {A : Type 0} (b : Bool) (x y : Option A) {D : Type 0} → cond b (or_else x y) (or_else y x) ≡ none → (x ≡ none → y ≡ none → D) → D
no_either true x y p k = or_else_none x y p k
no_either false x y p k = or_else_none y x p (λ q r. k r q)

-- A normal-order step is a step.
pub normal_step_step : (e : Env) (t : Term) {u : Term} → normal_step e t ≡ some u → Step e t u
normal_step_step e (var x) p = none-some p
normal_step_step e (const h) p = unfolds p
normal_step_step e (sort i) p = none-some p
normal_step_step e (pi a b) p =
    in_parts (map_option (λ c. pi c b) (normal_step e a)) _ p
    (λ q. map-some (λ c. pi c b) (normal_step e a) q λ c was is. tr (Step e (pi a b)) is (in_pi (normal_step_step e a was)))
    (λ q. map-some (pi a) (normal_step e b) q λ c was is. tr (Step e (pi a b)) is (under_pi (normal_step_step e b was)))
normal_step_step e (lam a b) p =
    in_parts (map_option (λ c. lam c b) (normal_step e a)) _ p
    (λ q. map-some (λ c. lam c b) (normal_step e a) q λ c was is. tr (Step e (lam a b)) is (in_lam (normal_step_step e a was)))
    (λ q. map-some (lam a) (normal_step e b) q λ c was is. tr (Step e (lam a b)) is (under_lam (normal_step_step e b was)))
normal_step_step e (app f a) p =
    or_else_some (contract e f a) _ p contracts λ _ q.
    in_either (needs_arg e f a) (map_option (app f) (normal_step e a)) _ q
    (λ r. map-some (app f) (normal_step e a) r λ b was is. tr (Step e (app f a)) is (in_arg (normal_step_step e a was)))
    (λ r. map-some (λ g. app g a) (normal_step e f) r λ g was is. tr (Step e (app f a)) is (in_fun (normal_step_step e f was)))

-- A term without a normal-order step takes no step at all.
pub normal_stays : {e : Env} {t u : Term} → Step e t u → normal_step e t ≡ none → ⊥
normal_stays {e} (contracts {f} {a} p) n = or_else_none (contract e f a) _ n λ q _. none-some (sym q ∙ p)
normal_stays {e} (unfolds p) n = none-some (sym n ∙ p)
normal_stays {e} (in_fun {f} {a} s) n = or_else_none (contract e f a) _ n λ _ q.
    no_either (needs_arg e f a) (map_option (app f) (normal_step e a)) _ q λ _ r. normal_stays s (map-none (λ g. app g a) (normal_step e f) r)
normal_stays {e} (in_arg {f} {a} s) n = or_else_none (contract e f a) _ n λ _ q.
    no_either (needs_arg e f a) (map_option (app f) (normal_step e a)) _ q λ r _. normal_stays s (map-none (app f) (normal_step e a) r)
normal_stays {e} (in_pi {a} {c} s) n = or_else_none (map_option (λ b. pi b c) (normal_step e a)) _ n λ p _. normal_stays s (map-none (λ b. pi b c) (normal_step e a) p)
normal_stays {e} (under_pi {a} {b} s) n = or_else_none (map_option (λ c. pi c b) (normal_step e a)) _ n λ _ p. normal_stays s (map-none (pi a) (normal_step e b) p)
normal_stays {e} (in_lam {a} {c} s) n = or_else_none (map_option (λ b. lam b c) (normal_step e a)) _ n λ p _. normal_stays s (map-none (λ b. lam b c) (normal_step e a) p)
normal_stays {e} (under_lam {a} {b} s) n = or_else_none (map_option (λ c. lam c b) (normal_step e a)) _ n λ _ p. normal_stays s (map-none (lam a) (normal_step e b) p)

-- Laws of bind.
bind-some_out : {A : Type 0} (o : Option A) → bind o some ≡ o
bind-some_out none = refl
bind-some_out (some x) = refl

bind-bind : {A B C : Type 0} (o : Option A) (f : A → Option B) (g : B → Option C) → bind (bind o f) g ≡ bind o (λ x. bind (f x) g)
bind-bind none f g = refl
bind-bind (some x) f g = refl

-- n and then m normal-order steps; the first of them first.
pub normal_steps_add : (e : Env) (n m : ℕ) (t : Term) → normal_steps e (n + m) t ≡ bind (normal_steps e n t) (normal_steps e m)
normal_steps_add e n zero t = ap (λ k. normal_steps e k t) (let z : n + 0 ≡ n = omega arith in z) ∙ sym (bind-some_out (normal_steps e n t))
normal_steps_add e n (suc m) t =
    ap (λ k. normal_steps e k t) (let z : n + suc m ≡ suc (n + m) = omega arith in z)
    ∙ (ap (λ o. bind o (normal_step e)) (normal_steps_add e n m t) ∙ bind-bind (normal_steps e n t) (normal_steps e m) (normal_step e))

pub normal_steps-suc : (e : Env) (n : ℕ) (t : Term) → normal_steps e (suc n) t ≡ bind (normal_step e t) (normal_steps e n)
normal_steps-suc e n t = ap (λ k. normal_steps e k t) (let z : suc n ≡ 1 + n = omega arith in z) ∙ normal_steps_add e 1 n t

pub normal_steps-then : (e : Env) (n m : ℕ) (t : Term) {u : Term} → normal_steps e n t ≡ some u → normal_steps e (n + m) t ≡ normal_steps e m u
normal_steps-then e n m t p = normal_steps_add e n m t ∙ ap (λ o. bind o (normal_steps e m)) p

-- Fewer steps can be taken too; and the steps of a function type begin in its domain.
pub normal_steps_fewer : (e : Env) (n m : ℕ) (t : Term) {u : Term} → normal_steps e n t ≡ some u → m ≤ n → (v : Term) × (normal_steps e m t ≡ some v)
normal_steps_fewer e n m t p l =
    bind-some (normal_steps e m t) (normal_steps e (n - m)) (sym (normal_steps_add e m (n - m) t) ∙ (ap (λ k. normal_steps e k t) (let z : m + (n - m) ≡ n = omega arith in z) ∙ p)) λ v q _. (v, q)

pub domain_steps : (e : Env) (n : ℕ) (a b : Term) {c : Term} → normal_steps e n a ≡ some c → normal_steps e n (pi a b) ≡ some (pi c b)
domain_steps e zero a b p = ap (λ z. some (pi z b)) (some_inj p)
domain_steps e (suc n) a b p = bind-some (normal_steps e n a) (normal_step e) p λ d q r. rw (domain_steps e n a b q, r)

pub domain_reaches : (e : Env) (n m : ℕ) (t : Term) {a b c : Term} → normal_steps e n t ≡ some (pi a b) → normal_steps e m a ≡ some c → normal_steps e (n + m) t ≡ some (pi c b)
domain_reaches e n m t {a} {b} p q = normal_steps-then e n m t p ∙ domain_steps e m a b q

-- Normal-order steps are steps.
pub normal_steps_steps : (e : Env) (n : ℕ) (t : Term) {u : Term} → normal_steps e n t ≡ some u → Steps e t u
normal_steps_steps e zero t p = tr (Steps e t) (some_inj p) no_steps
normal_steps_steps e (suc n) t p =
    bind-some (normal_step e t) (normal_steps e n) (sym (normal_steps-suc e n t) ∙ p) λ u q r.
    a_step (normal_step_step e t q) (normal_steps_steps e n u r)

-- Behind a normal form there are no more steps, so a term has at most one normal form.
pub normal_form_last : (e : Env) (n m : ℕ) (t : Term) {a : Term} → normal_steps e n t ≡ some a → normal_step e a ≡ none → n < m → normal_steps e m t ≡ none
normal_form_last e n m t {a} p q l =
    ap (λ k. normal_steps e k t) (let z : m ≡ n + suc (m - suc n) = omega arith in z)
    ∙ (normal_steps-then e n (suc (m - suc n)) t p ∙ (normal_steps-suc e (m - suc n) a ∙ ap (λ o. bind o (normal_steps e (m - suc n))) q))

pub normal_form_once : (e : Env) (n m : ℕ) (t : Term) {a b : Term} → normal_steps e n t ≡ some a → normal_step e a ≡ none → normal_steps e m t ≡ some b → normal_step e b ≡ none → a ≡ b
normal_form_once e n m t p q r s =
    cases_bool (ltb n m) (λ l. none-some (sym (normal_form_last e n m t p q (ltb-true n m l)) ∙ r)) λ l.
    cases_bool (ltb m n) (λ k. none-some (sym (normal_form_last e m n t r s (ltb-true m n k)) ∙ p)) λ k.
    some_inj (sym p ∙ (ap (λ i. normal_steps e i t) (let z : n ≡ m = omega (arith, ltb-false n m l, ltb-false m n k) in z) ∙ r))

-- A property has one first reduct.
pub first_reduct_once : {e : Env} {p : Term → Bool} {t u v : Term} → FirstReduct e p t u → FirstReduct e p t v → u ≡ v
first_reduct_once {e} {p} {t} {u} {v} a b =
    cases_bool (ltb a.n b.n) (λ l. true-false (sym a.is ∙ b.before a.n u (ltb-true a.n b.n l) a.reaches)) λ l.
    cases_bool (ltb b.n a.n) (λ k. true-false (sym b.is ∙ a.before b.n v (ltb-true b.n a.n k) b.reaches)) λ k.
    some_inj (sym a.reaches ∙ (ap (λ i. normal_steps e i t) (let z : a.n ≡ b.n = omega (arith, ltb-false a.n b.n l, ltb-false b.n a.n k) in z) ∙ b.reaches))

first_reduct_of : {e : Env} {p : Term → Bool} {k l u v : Term} → k ≡ l → FirstReduct e p k u → FirstReduct e p l v → u ≡ v
first_reduct_of {e} {p} {u} q a b = first_reduct_once (tr (λ x. FirstReduct e p x u) q a) b

-- The steps to a first reduct.
pub first_reduct_steps : {e : Env} {p : Term → Bool} {t u : Term} → FirstReduct e p t u → Steps e t u
first_reduct_steps {e} {t} f = normal_steps_steps e f.n t f.reaches

-- A term has at most one inferred type.
pi_right_is : {a b c d : Term} → pi a b ≡ pi c d → b ≡ d
pi_right_is p = cc

sort_is : {i j : ℕ} → sort i ≡ sort j → i ≡ j
sort_is p = cc

pub infers_once : {e : Env} {g : List Term} {t a b : Term} → Infers e g t a → Infers e g t b → a ≡ b
infers_once (i_var {x} p) (i_var q) = ap (lift 0 (suc x)) (some_inj (sym p ∙ q))
infers_once (i_head p) (i_head q) = some_inj (sym p ∙ q)
infers_once i_sort i_sort = refl
infers_once (i_pi a s b r) (i_pi c s₁ d r₁) = ap sort (ap₂ max (sort_is (first_reduct_of (infers_once a c) s s₁)) (sort_is (first_reduct_of (infers_once b d) r r₁)))
infers_once (i_lam {a} t) (i_lam u) = ap (pi a) (infers_once t u)
infers_once (i_app {t} f p) (i_app h q) = ap (subst 0 t) (pi_right_is (first_reduct_of (infers_once f h) p q))
