-- Standardization: a term that reduces to u comes to the shape of u by weak-head steps, and its parts to the parts of u.
-- So a term convertible to a function type or to a sort comes to a first one by normal-order steps.
use Rattle.std.proofs.Common.{◌≡◌, refl, sym, ap, ◌∙◌, subst as tr, Bool, true, false, cond, List, [], ◌∷◌, ℕ, suc, ◌+◌, ◌-◌, arith, length, eqb, ltb}
use mathlib.Core.Option.{some}
use Rattle.theory.specs.Terms.{Head, h_rec, h_along, h_con, h_refl, Term, var, const, sort, pi, lam, app, lift, subst, apps}
use Rattle.theory.specs.Environment.{Env}
use Rattle.theory.specs.Reduction.{spine, app_each, contract, Step, contracts, unfolds, in_fun, in_arg, in_pi, under_pi, in_lam, under_lam, Steps, no_steps, a_step, case_place, case_args}
use Rattle.theory.specs.Typing.{WfEnv}
use Rattle.theory.proofs.Options.{none-some, some_inj, false-true}
use Rattle.theory.proofs.Indices.{lift-subst, subst-subst}
use Rattle.theory.proofs.Closed.{delta_closed, scoped_lift, scoped_subst}
use Rattle.theory.proofs.Iota.{iota, iota_contract, contract-some, RecView, AlongView, IotaView, by_rec, by_along, iota_view, iota_by_rec, iota_by_along}
use Rattle.theory.proofs.IotaStable.{Pairwise, pw_end, pw_more, pw_length, pw_append, pw_get, pw_take, pw_drop, iota_lift, iota_subst}
use Rattle.theory.proofs.WeakHead.{needs_spine, Wh, wh_contracts, wh_unfolds, wh_fun, wh_arg, Whs, wh_done, wh_then, whs_append, whs_fun, whs_arg, spine_last, same_needs, reducing_spine}

-- Redexes under lift and subst.
contract-lift : (e : Env) (f a : Term) (c d : ℕ) {t : Term} → contract e f a ≡ some t → contract e (lift c d f) (lift c d a) ≡ some (lift c d t)
contract-lift e f a c d {t} p = contract-some e f a p
    (λ b s is t_is. rw (is, t_is, lift-subst s 0 c d c (suc c) a (omega arith) refl))
    (λ q. iota_contract e (lift c d f) (lift c d a) (lift c d t) (iota_lift c d e f a t q))

contract-subst : (e : Env) (f a : Term) (k : ℕ) (u : Term) {t : Term} → contract e f a ≡ some t → contract e (subst k u f) (subst k u a) ≡ some (subst k u t)
contract-subst e f a k u {t} p = contract-some e f a p
    (λ b s is t_is. rw (is, t_is, subst-subst s 0 k k (suc k) a u (omega arith) refl))
    (λ q. iota_contract e (subst k u f) (subst k u a) (subst k u t) (iota_subst k u e f a t q))

module _ (φ : Term → Term) (on_head : (h : Head) → φ (const h) ≡ const h) (on_app : (f a : Term) → φ (app f a) ≡ app (φ f) (φ a)) where
  needs_map : (e : Env) (f : Term) (as₁ bs : List Term) → length as₁ ≡ length bs → needs_spine e (spine f as₁) ≡ true → needs_spine e (spine (φ f) bs) ≡ true
  needs_map e (var x) as₁ bs l p = false-true p
  needs_map e (const h) as₁ bs l p = rw (on_head h, ← l) p
  needs_map e (sort i) as₁ bs l p = false-true p
  needs_map e (pi a b) as₁ bs l p = false-true p
  needs_map e (lam a b) as₁ bs l p = false-true p
  needs_map e (app f a) as₁ bs l p = rw (on_app f a) (needs_map e f (a ∷ as₁) (φ a ∷ bs) (ap suc l) p)

-- Weak-head steps under lift and subst.
module _ {e : Env} (wf : WfEnv e) where
  wh_lift : (c d : ℕ) {t u : Term} → Wh e t u → Wh e (lift c d t) (lift c d u)
  wh_lift c d (wh_contracts {f} {a} p) = wh_contracts (contract-lift e f a c d p)
  wh_lift c d (wh_unfolds {h} {t} p) = tr (Wh e (const h)) (sym (scoped_lift t 0 c d (delta_closed e wf h p) (omega arith))) (wh_unfolds p)
  wh_lift c d (wh_fun w) = wh_fun (wh_lift c d w)
  wh_lift c d (wh_arg {f} {a} n w) = wh_arg (needs_map (lift c d) (λ h. refl) (λ f a. refl) e f (a ∷ []) (lift c d a ∷ []) refl n) (wh_lift c d w)

  whs_lift : (c d : ℕ) {t u : Term} → Whs e t u → Whs e (lift c d t) (lift c d u)
  whs_lift c d wh_done = wh_done
  whs_lift c d (wh_then w ws) = wh_then (wh_lift c d w) (whs_lift c d ws)

  wh_subst : (k : ℕ) (v : Term) {t u : Term} → Wh e t u → Wh e (subst k v t) (subst k v u)
  wh_subst k v (wh_contracts {f} {a} p) = wh_contracts (contract-subst e f a k v p)
  wh_subst k v (wh_unfolds {h} {t} p) = tr (Wh e (const h)) (sym (scoped_subst t 0 k v (delta_closed e wf h p) (omega arith))) (wh_unfolds p)
  wh_subst k v (wh_fun w) = wh_fun (wh_subst k v w)
  wh_subst k v (wh_arg {f} {a} n w) = wh_arg (needs_map (subst k v) (λ h. refl) (λ f a. refl) e f (a ∷ []) (subst k v a ∷ []) refl n) (wh_subst k v w)

  whs_subst : (k : ℕ) (v : Term) {t u : Term} → Whs e t u → Whs e (subst k v t) (subst k v u)
  whs_subst k v wh_done = wh_done
  whs_subst k v (wh_then w ws) = wh_then (wh_subst k v w) (whs_subst k v ws)

-- St e t u: weak-head steps take t to the shape of u, and St holds between the parts.
pub data St (e : Env) : Term → Term → Type 0 where
  st_var : {t : Term} {x : ℕ} → Whs e t (var x) → St e t (var x)
  st_const : {t : Term} {h : Head} → Whs e t (const h) → St e t (const h)
  st_sort : {t : Term} {i : ℕ} → Whs e t (sort i) → St e t (sort i)
  st_pi : {t a b c d : Term} → Whs e t (pi a b) → St e a c → St e b d → St e t (pi c d)
  st_lam : {t a b c d : Term} → Whs e t (lam a b) → St e a c → St e b d → St e t (lam c d)
  st_app : {t f a g b : Term} → Whs e t (app f a) → St e f g → St e a b → St e t (app g b)

st_refl : {e : Env} (t : Term) → St e t t
st_refl (var x) = st_var wh_done
st_refl (const h) = st_const wh_done
st_refl (sort i) = st_sort wh_done
st_refl (pi a b) = st_pi wh_done (st_refl a) (st_refl b)
st_refl (lam a b) = st_lam wh_done (st_refl a) (st_refl b)
st_refl (app f a) = st_app wh_done (st_refl f) (st_refl a)

st_after : {e : Env} {t u v : Term} → Whs e t u → St e u v → St e t v
st_after ws (st_var vs) = st_var (whs_append ws vs)
st_after ws (st_const vs) = st_const (whs_append ws vs)
st_after ws (st_sort vs) = st_sort (whs_append ws vs)
st_after ws (st_pi vs a b) = st_pi (whs_append ws vs) a b
st_after ws (st_lam vs a b) = st_lam (whs_append ws vs) a b
st_after ws (st_app vs f a) = st_app (whs_append ws vs) f a

-- St under lift and subst.
module _ {e : Env} (wf : WfEnv e) where
  st_lift : (c d : ℕ) {t u : Term} → St e t u → St e (lift c d t) (lift c d u)
  st_lift c d (st_var ws) = st_after (whs_lift wf c d ws) (st_refl _)
  st_lift c d (st_const ws) = st_const (whs_lift wf c d ws)
  st_lift c d (st_sort ws) = st_sort (whs_lift wf c d ws)
  st_lift c d (st_pi ws a b) = st_pi (whs_lift wf c d ws) (st_lift c d a) (st_lift (suc c) d b)
  st_lift c d (st_lam ws a b) = st_lam (whs_lift wf c d ws) (st_lift c d a) (st_lift (suc c) d b)
  st_lift c d (st_app ws f a) = st_app (whs_lift wf c d ws) (st_lift c d f) (st_lift c d a)

  st_subst : {v w : Term} → St e v w → (k : ℕ) {t u : Term} → St e t u → St e (subst k v t) (subst k w u)
  st_subst {v} {w} s k (st_var {x} ws) = st_after (whs_subst wf k v ws) (at_var (ltb x k) (eqb x k))
    where
      at_var : (b c : Bool) → St e (cond b (var x) (cond c (lift 0 k v) (var (x - 1)))) (cond b (var x) (cond c (lift 0 k w) (var (x - 1))))
      at_var true c = st_refl _
      at_var false true = st_lift 0 k s
      at_var false false = st_refl _
  st_subst {v} s k (st_const ws) = st_const (whs_subst wf k v ws)
  st_subst {v} s k (st_sort ws) = st_sort (whs_subst wf k v ws)
  st_subst {v} s k (st_pi ws a b) = st_pi (whs_subst wf k v ws) (st_subst s k a) (st_subst s (suc k) b)
  st_subst {v} s k (st_lam ws a b) = st_lam (whs_subst wf k v ws) (st_subst s k a) (st_subst s (suc k) b)
  st_subst {v} s k (st_app ws f a) = st_app (whs_subst wf k v ws) (st_subst s k f) (st_subst s k a)

-- A term that comes to a spine comes by weak-head steps to a spine with that head, St between the arguments.
-- (The redex is on the right of St; From relates it to what comes to it.)
abbrev From : Env → Term → Term → Type 0
From e u t = St e t u

record SpineFrom (e : Env) (t u : Term) (as₁ bs : List Term) (h : Head) : Type 0 where
  shape : Term
  steps : Whs e t shape
  inner : St e shape u
  head : (spine shape bs).head ≡ some h
  args : Pairwise (From e) (spine u as₁).args (spine shape bs).args

spine_from : {e : Env} {t u : Term} → St e t u → {as₁ bs : List Term} → Pairwise (From e) as₁ bs → {h : Head} → (spine u as₁).head ≡ some h → SpineFrom e t u as₁ bs h
spine_from (st_var ws) p q = none-some q
spine_from (st_const {h} ws) p q = record { shape = const h; steps = ws; inner = st_const wh_done; head = q; args = p }
spine_from (st_sort ws) p q = none-some q
spine_from (st_pi ws a b) p q = none-some q
spine_from (st_lam ws a b) p q = none-some q
spine_from (st_app {a} ws f s) p q =
    let r = spine_from f (pw_more s p) q in
    record { shape = app r.shape a; steps = whs_append ws (whs_fun r.steps a); inner = st_app wh_done r.inner s; head = r.head; args = r.args }

from_apps : {e : Env} {as₁ bs : List Term} → Pairwise (From e) as₁ bs → {f g : Term} → From e f g → From e (apps f as₁) (apps g bs)
from_apps pw_end r = r
from_apps (pw_more s p) r = from_apps p (st_app wh_done r s)

from_app_each : {e : Env} {as₁ bs : List Term} → Pairwise (From e) as₁ bs → {f g : Term} → From e f g → Pairwise (From e) (app_each f as₁) (app_each g bs)
from_app_each pw_end r = pw_end
from_app_each (pw_more s p) r = pw_more (st_app wh_done r s) (from_app_each p r)

-- Where the arguments are related, and the last ones are spines with one head and related arguments, the reducts are related.
rec_from : {e : Env} (i j : ℕ) {as₁ : List Term} {t : Term} (v : RecView e i j as₁ t) (g b : Term)
    → (spine (app g b) []).head ≡ some (h_rec i j) → Pairwise (From e) as₁ (spine (app g b) []).args
    → (spine b []).head ≡ some (h_con i v.n) → Pairwise (From e) (spine v.s []).args (spine b []).args
    → (u : Term) × (iota e g b ≡ some u) × From e t u
rec_from {e} i j {as₁} {t} v g b h p head sp =
    let (m, case, rm) = pw_get p (case_place v.k v.n) v.case in
    let rec_part = from_apps (pw_take p (length v.k.params + (1 + length v.k.cons))) (st_refl (const (h_rec i j))) in
    let fields = pw_drop sp (length v.k.params) in
    let found = from_app_each (pw_drop sp (length v.k.params + length v.c.fields)) rec_part in
    let args : Pairwise (From e) (case_args i j v.k v.c as₁ (spine v.s []).args) (case_args i j v.k v.c (spine (app g b) []).args (spine b []).args) = search (pw_append, fields, found) in
    let u = apps m (case_args i j v.k v.c (spine (app g b) []).args (spine b []).args) in (
      u,
      iota_by_rec e g b u i j h (record { k = v.k; at = v.at; len = sym (pw_length p) ∙ v.len; s = b; last = spine_last g b; n = v.n; head = head; c = v.c; con = v.con; full = sym (pw_length sp) ∙ v.full; m = m; case = case; is = refl }),
      tr (λ z. From e z u) (sym v.is) (from_apps args rm),
    )

along_from : {e : Env} (i j : ℕ) {as₁ : List Term} {t : Term} (v : AlongView as₁ t) (g b : Term)
    → (spine (app g b) []).head ≡ some (h_along i j) → Pairwise (From e) as₁ (spine (app g b) []).args
    → (spine b []).head ≡ some (h_refl v.i) → Pairwise (From e) (spine v.s []).args (spine b []).args
    → (u : Term) × (iota e g b ≡ some u) × From e t u
along_from {e} i j v g b h p head sp =
    let (u, is, ru) = pw_get p 3 v.is in
    (u, iota_by_along e g b u i j h (record { len = sym (pw_length p) ∙ v.len; s = b; last = spine_last g b; i = v.i; head = head; full = sym (pw_length sp) ∙ v.full; is = is }), ru)

-- What comes to a redex comes to a redex by weak-head steps, and so to a term that comes to the reduct.
whs_iota : {e : Env} {f g a b u : Term} → Whs e f g → Whs e a b → iota e g b ≡ some u → Whs e (app f a) u
whs_iota {e} {g} {a} {b} {u} fs vs p =
    whs_append (whs_fun fs a)
    (whs_append (whs_arg vs g (same_needs e g (a ∷ []) (b ∷ []) refl ∙ reducing_spine e (spine (app g b) []) p))
    (wh_then (wh_contracts (iota_contract e g b u p)) wh_done))

redex_from : {e : Env} {f g a b t : Term} {h k : Head} (x : SpineFrom e a b [] [] k) (y : SpineFrom e f g (b ∷ []) (x.shape ∷ []) h)
    → (u : Term) × (iota e y.shape x.shape ≡ some u) × From e t u → St e (app f a) t
redex_from x y r = st_after (whs_iota y.steps x.steps r.1) r.2

last_from : {e : Env} {a b s : Term} {h : Head} → b ≡ s → (x : SpineFrom e a b [] [] h) → Pairwise (From e) (spine s []).args (spine x.shape []).args
last_from {e} p x = tr (λ z. Pairwise (From e) (spine z []).args (spine x.shape []).args) p x.args

iota_from : {e : Env} {f g a b t : Term} → St e f g → St e a b → IotaView e g b t → St e (app f a) t
iota_from {g} {b} sf sa (by_rec i j h v) =
    let is : b ≡ v.s = some_inj (sym (spine_last g b) ∙ v.last) in
    let x = spine_from sa pw_end (ap (λ z. (spine z []).head) is ∙ v.head) in
    let y = spine_from sf (pw_more x.inner pw_end) h in
    redex_from x y (rec_from i j v y.shape x.shape y.head y.args x.head (last_from is x))
iota_from {g} {b} sf sa (by_along i j h v) =
    let is : b ≡ v.s = some_inj (sym (spine_last g b) ∙ v.last) in
    let x = spine_from sa pw_end (ap (λ z. (spine z []).head) is ∙ v.head) in
    let y = spine_from sf (pw_more x.inner pw_end) h in
    redex_from x y (along_from i j v y.shape x.shape y.head y.args x.head (last_from is x))

-- St is closed under steps on its right.
module _ {e : Env} (wf : WfEnv e) where
  beta_from : {f a b c s : Term} → St e f (lam c s) → St e a b → St e (app f a) (subst 0 b s)
  beta_from {a} (st_lam ws _ st) sa = st_after (whs_append (whs_fun ws a) (wh_then (wh_contracts refl) wh_done)) (st_subst wf sa 0 st)

  st_step : {u v : Term} → Step e u v → {t : Term} → St e t u → St e t v
  st_step (contracts {f} {a} {t} p) (st_app ws sf sa) = st_after ws (contract-some e f a p
      (λ c s is t_is. tr (St e _) (sym t_is) (beta_from (tr (St e _) is sf) sa))
      (λ q. iota_from sf sa (iota_view e f a t q)))
  st_step (unfolds p) (st_const ws) = st_after (whs_append ws (wh_then (wh_unfolds p) wh_done)) (st_refl _)
  st_step (in_fun s) (st_app ws f a) = st_app ws (st_step s f) a
  st_step (in_arg s) (st_app ws f a) = st_app ws f (st_step s a)
  st_step (in_pi s) (st_pi ws a b) = st_pi ws (st_step s a) b
  st_step (under_pi s) (st_pi ws a b) = st_pi ws a (st_step s b)
  st_step (in_lam s) (st_lam ws a b) = st_lam ws (st_step s a) b
  st_step (under_lam s) (st_lam ws a b) = st_lam ws a (st_step s b)

  st_then : {t u v : Term} → St e t u → Steps e u v → St e t v
  st_then s no_steps = s
  st_then s (a_step r rs) = st_then (st_step r s) rs

  pub standardization : {t u : Term} → Steps e t u → St e t u
  standardization rs = st_then (st_refl _) rs
