-- Weak-head steps: the redex at the head of a spine, or in the last argument that a recursor or an elimination needs.
-- A weak-head step is the normal-order step, and a term that takes one is no variable, sort, function type or function.
use Rattle.std.proofs.Common.{◌+◌, ◌≡◌, refl, sym, ap, ◌∙◌, Bool, true, false, List, [], ◌∷◌, ℕ, suc, ◌<◌, arith, length, eqb, eqb-true, ne_eqb}
use mathlib.Core.Option.{some, none}
use Rattle.theory.proofs.Options.{none-some, some_inj, false-true, cases_option, cases_bool, bind-some, option-true}
use Rattle.theory.proofs.Iota.{spine_head, spine-args, last_append, beta-some, contract-some}
use Rattle.theory.specs.Terms.{Head, h_def, h_data, h_con, h_rec, h_eq, h_refl, h_along, Term, var, const, sort, pi, lam, app, option}
use Rattle.theory.specs.Environment.{Env, data_at}
use Rattle.theory.specs.Reduction.{bind, Spine, spine, con_of, is_refl, last_arg, iota_head, needs_last, beta, contract, delta, normal_step, rec_arity}
use Rattle.theory.specs.Typing.{is_pi, is_sort}

-- Does the head of a spine have to look at its last argument? Does f applied to a have to look at a?
abbrev pub needs_spine : Env → Spine → Bool
needs_spine e s = option s.head false (λ h. needs_last e h (length s.args))

abbrev pub needs_arg : Env → Term → Term → Bool
needs_arg e f a = needs_spine e (spine (app f a) [])

-- One weak-head step.
pub data Wh (e : Env) : Term → Term → Type 0 where
  wh_contracts : {f a t : Term} → contract e f a ≡ some t → Wh e (app f a) t
  wh_unfolds : {h : Head} {t : Term} → delta e h ≡ some t → Wh e (const h) t
  wh_fun : {f g a : Term} → Wh e f g → Wh e (app f a) (app g a)
  wh_arg : {f a b : Term} → needs_arg e f a ≡ true → Wh e a b → Wh e (app f a) (app f b)

-- Weak-head steps, any number.
pub data Whs (e : Env) : Term → Term → Type 0 where
  wh_done : {t : Term} → Whs e t t
  wh_then : {t u v : Term} → Wh e t u → Whs e u v → Whs e t v

-- A head that needs its last argument at n does so at no larger number.
needs_exactly : (e : Env) (h : Head) (n m : ℕ) → needs_last e h n ≡ true → n < m → needs_last e h m ≡ false
needs_exactly e (h_def i) n m p l = false-true p
needs_exactly e (h_data i) n m p l = false-true p
needs_exactly e (h_con i k) n m p l = false-true p
needs_exactly e (h_rec i j) n m p l =
    option-true (data_at e i) _ p λ k k_at q. rw k_at (ne_eqb m _ (λ r. let z : n ≡ length k.params + (2 + length k.cons) = eqb-true n _ q in omega arith))
needs_exactly e (h_eq i) n m p l = false-true p
needs_exactly e (h_refl i) n m p l = false-true p
needs_exactly e (h_along i j) n m p l = ne_eqb m 6 (λ r. let z : n ≡ 6 = eqb-true n 6 p in omega arith)

-- A head that does not need its last argument does not reduce.
quiet_head : (e : Env) (h : Head) (as₁ : List Term) → needs_last e h (length as₁) ≡ false → iota_head e h as₁ ≡ none
quiet_head e (h_def i) as₁ p = refl
quiet_head e (h_data i) as₁ p = refl
quiet_head e (h_con i k) as₁ p = refl
quiet_head e (h_rec i j) as₁ p = cases_option (data_at e i) (λ q. rw q) (λ k q. let z = rw q at p in rw (q, z))
quiet_head e (h_eq i) as₁ p = refl
quiet_head e (h_refl i) as₁ p = refl
quiet_head e (h_along i j) as₁ p = rw p

-- A head that reduces needs its last argument.
reducing_needs : (e : Env) (h : Head) (as₁ : List Term) {t : Term} → iota_head e h as₁ ≡ some t → needs_last e h (length as₁) ≡ true
reducing_needs e h as₁ p = cases_bool (needs_last e h (length as₁)) (λ q. q) (λ q. none-some (sym (quiet_head e h as₁ q) ∙ p))

-- Heads that need a last argument, and those that unfold, are no constructors and not reflexivity.
abbrev Active : Head → Type 0
Active h = (con_of h ≡ none) × (is_refl h ≡ false)

needing_head : (e : Env) (h : Head) (n : ℕ) → needs_last e h n ≡ true → Active h
needing_head e (h_def i) n p = (refl, refl)
needing_head e (h_data i) n p = (refl, refl)
needing_head e (h_con i k) n p = false-true p
needing_head e (h_rec i j) n p = (refl, refl)
needing_head e (h_eq i) n p = (refl, refl)
needing_head e (h_refl i) n p = false-true p
needing_head e (h_along i j) n p = (refl, refl)

unfolding_head : (e : Env) (h : Head) {t : Term} → delta e h ≡ some t → Active h
unfolding_head e (h_def i) p = (refl, refl)
unfolding_head e (h_data i) p = none-some p
unfolding_head e (h_con i k) p = none-some p
unfolding_head e (h_rec i j) p = none-some p
unfolding_head e (h_eq i) p = none-some p
unfolding_head e (h_refl i) p = none-some p
unfolding_head e (h_along i j) p = none-some p

unfolding_needs : (e : Env) (h : Head) (n : ℕ) {t : Term} → delta e h ≡ some t → needs_last e h n ≡ false
unfolding_needs e (h_def i) n p = refl
unfolding_needs e (h_data i) n p = refl
unfolding_needs e (h_con i k) n p = refl
unfolding_needs e (h_rec i j) n p = none-some p
unfolding_needs e (h_eq i) n p = refl
unfolding_needs e (h_refl i) n p = refl
unfolding_needs e (h_along i j) n p = none-some p

-- A spine under more arguments has the same head and more arguments.
same_head : (t : Term) (as₁ bs : List Term) → (spine t as₁).head ≡ (spine t bs).head
same_head t as₁ bs = spine_head t as₁ ∙ sym (spine_head t bs)

more_args : (t : Term) (as₁ bs : List Term) → length as₁ < length bs → length (spine t as₁).args < length (spine t bs).args
more_args (var x) as₁ bs l = l
more_args (const h) as₁ bs l = l
more_args (sort i) as₁ bs l = l
more_args (pi a b) as₁ bs l = l
more_args (lam a b) as₁ bs l = l
more_args (app f a) as₁ bs l = more_args f (a ∷ as₁) (a ∷ bs) (omega arith)

-- A spine that needs its last argument needs no later one; one that needs none does not reduce.
needs_no_more : (e : Env) (f : Term) (as₁ bs : List Term) → needs_spine e (spine f as₁) ≡ true → length as₁ < length bs → needs_spine e (spine f bs) ≡ false
needs_no_more e f as₁ bs p l =
    option-true (spine f as₁).head _ p λ h is q. rw (same_head f bs as₁ ∙ is) (needs_exactly e h _ _ q (more_args f as₁ bs l))

quiet_spine : (e : Env) (s : Spine) → needs_spine e s ≡ false → bind s.head (λ h. iota_head e h s.args) ≡ none
quiet_spine e s p = cases_option s.head (λ q. rw q) (λ h q. let z = rw q at p in rw q (quiet_head e h s.args z))

pub reducing_spine : (e : Env) (s : Spine) {t : Term} → bind s.head (λ h. iota_head e h s.args) ≡ some t → needs_spine e s ≡ true
reducing_spine e s p = bind-some s.head _ p λ h is q. rw is (reducing_needs e h s.args q)

-- A spine with a head is no function.
beta-none : (f a : Term) {h : Head} → (spine (app f a) []).head ≡ some h → beta f a ≡ none
beta-none f a p = cases_option (beta f a) (λ q. q) (λ t q. beta-some f a q λ b c is _. none-some (ap (λ z. (spine z (a ∷ [])).head) (sym is) ∙ p))

-- Under more arguments, the head of a term that takes a weak-head step needs none of them.
wh_needs_no_more : {e : Env} {f g : Term} → Wh e f g → (a : Term) (as₁ : List Term) → needs_spine e (spine f (a ∷ as₁)) ≡ false
wh_needs_no_more {e} (wh_contracts {f} {a = b} p) a as₁ =
    contract-some e f b p
    (λ c d is _. ap (λ z. needs_spine e (spine z (b ∷ a ∷ as₁))) is)
    (λ q. needs_no_more e f (b ∷ []) (b ∷ a ∷ as₁) (reducing_spine e (spine f (b ∷ [])) q) (omega arith))
wh_needs_no_more {e} (wh_unfolds {h} p) a as₁ = unfolding_needs e h _ p
wh_needs_no_more {e} (wh_fun {a = b} w) a as₁ = wh_needs_no_more w b (a ∷ as₁)
wh_needs_no_more {e} (wh_arg {f} {a = b} n w) a as₁ = needs_no_more e f (b ∷ []) (b ∷ a ∷ as₁) n (omega arith)

-- The head of a term that takes a weak-head step is active.
wh_active : {e : Env} {t u : Term} → Wh e t u → (as₁ : List Term) {h : Head} → (spine t as₁).head ≡ some h → Active h
wh_active {e} (wh_contracts {f} {a} p) as₁ {h} is =
    contract-some e f a p
    (λ c d lam_is _. none-some (ap (λ z. (spine z (a ∷ as₁)).head) (sym lam_is) ∙ is))
    (λ q. let n = rw (same_head f (a ∷ []) (a ∷ as₁), is) at (reducing_spine e (spine f (a ∷ [])) q) in needing_head e h _ n)
wh_active {e} (wh_unfolds {h = k} p) as₁ {h} is = let q = rw (some_inj is) at p in unfolding_head e h q
wh_active {e} (wh_fun {a} w) as₁ {h} is = wh_active w (a ∷ as₁) is
wh_active {e} (wh_arg {f} {a} n w) as₁ {h} is = let m = rw (same_head f (a ∷ []) (a ∷ as₁), is) at n in needing_head e h _ m

-- The last argument of an application's spine.
pub spine_last : (f a : Term) → last_arg (spine (app f a) []).args ≡ some a
spine_last f a = ap last_arg (spine-args f (a ∷ [])) ∙ last_append (spine f []).args a

-- A head whose last argument has an active head, or none, does not reduce.
active_last : (e : Env) (h : Head) (as₁ : List Term) (t : Term) → last_arg as₁ ≡ some t → ((k : Head) → (spine t []).head ≡ some k → Active k) → iota_head e h as₁ ≡ none
active_last e (h_def i) as₁ t l act = refl
active_last e (h_data i) as₁ t l act = refl
active_last e (h_con i k) as₁ t l act = refl
active_last e (h_rec i j) as₁ t l act =
    cases_option (data_at e i) (λ q. rw q) λ k q.
    cases_bool (eqb (length as₁) (rec_arity k)) (λ r.
    cases_option (spine t []).head (λ s. rw (q, r, l, s)) (λ h s. rw (q, r, l, s, (act h s).0)))
    (λ r. rw (q, r))
active_last e (h_eq i) as₁ t l act = refl
active_last e (h_refl i) as₁ t l act = refl
active_last e (h_along i j) as₁ t l act =
    cases_bool (eqb (length as₁) 6)
    (λ r. cases_option (spine t []).head (λ s. rw (r, l, s)) (λ h s. rw (r, l, s, (act h s).1)))
    (λ r. rw r)

-- What takes a weak-head step is no function.
wh_no_beta : {e : Env} {f g : Term} → Wh e f g → (a : Term) → beta f a ≡ none
wh_no_beta (wh_contracts p) a = refl
wh_no_beta (wh_unfolds p) a = refl
wh_no_beta (wh_fun w) a = refl
wh_no_beta (wh_arg n w) a = refl

-- A term that takes a weak-head step is the function of no redex, and the needed argument of none.
wh_fun_quiet : {e : Env} {f g : Term} → Wh e f g → (a : Term) → contract e f a ≡ none
wh_fun_quiet {e} {f} w a = rw (quiet_spine e (spine f (a ∷ [])) (wh_needs_no_more w a []), wh_no_beta w a)

wh_arg_quiet : {e : Env} (f : Term) {a b : Term} → needs_arg e f a ≡ true → Wh e a b → contract e f a ≡ none
wh_arg_quiet {e} f {a} n w =
    option-true (spine f (a ∷ [])).head _ n λ h is _.
    rw (is, beta-none f a is) (active_last e h (spine f (a ∷ [])).args a (spine_last f a) (λ k q. wh_active w [] q))

-- A weak-head step is the normal-order step.
pub wh_normal_step : {e : Env} {t u : Term} → Wh e t u → normal_step e t ≡ some u
wh_normal_step (wh_contracts p) = rw p
wh_normal_step (wh_unfolds p) = p
wh_normal_step {e} (wh_fun {f} {a} w) = rw (wh_fun_quiet w a, wh_needs_no_more w a [], wh_normal_step w)
wh_normal_step {e} (wh_arg {f} {a} n w) = rw (wh_arg_quiet f n w, n, wh_normal_step w)

-- A term that takes a weak-head step is no function type and no sort.
pub wh_no_pi : {e : Env} {t u : Term} → Wh e t u → is_pi t ≡ false
wh_no_pi (wh_contracts p) = refl
wh_no_pi (wh_unfolds p) = refl
wh_no_pi (wh_fun w) = refl
wh_no_pi (wh_arg n w) = refl

pub wh_no_sort : {e : Env} {t u : Term} → Wh e t u → is_sort t ≡ false
wh_no_sort (wh_contracts p) = refl
wh_no_sort (wh_unfolds p) = refl
wh_no_sort (wh_fun w) = refl
wh_no_sort (wh_arg n w) = refl

-- Whether an argument is needed turns on the function alone.
pub same_needs : (e : Env) (f : Term) (as₁ bs : List Term) → length as₁ ≡ length bs → needs_spine e (spine f as₁) ≡ needs_spine e (spine f bs)
same_needs e (var x) as₁ bs p = refl
same_needs e (const h) as₁ bs p = ap (needs_last e h) p
same_needs e (sort i) as₁ bs p = refl
same_needs e (pi a b) as₁ bs p = refl
same_needs e (lam a b) as₁ bs p = refl
same_needs e (app f a) as₁ bs p = same_needs e f (a ∷ as₁) (a ∷ bs) (ap suc p)

-- Weak-head steps one after the other, in the function of an application, in an argument that it needs.
pub whs_append : {e : Env} {t u v : Term} → Whs e t u → Whs e u v → Whs e t v
whs_append wh_done ws = ws
whs_append (wh_then w ws) vs = wh_then w (whs_append ws vs)

pub whs_fun : {e : Env} {f g : Term} → Whs e f g → (a : Term) → Whs e (app f a) (app g a)
whs_fun wh_done a = wh_done
whs_fun (wh_then w ws) a = wh_then (wh_fun w) (whs_fun ws a)

pub whs_arg : {e : Env} {a b : Term} → Whs e a b → (f : Term) → needs_arg e f a ≡ true → Whs e (app f a) (app f b)
whs_arg wh_done f n = wh_done
whs_arg (wh_then w ws) f n = wh_then (wh_arg n w) (whs_arg ws f (same_needs _ f _ _ refl ∙ n))
