-- Terms whose free variables are below a bound; lift, subst and subst_all leave them as they are.
-- In a well-formed environment the bodies of definitions and the types of all heads are closed.
use Rattle.std.proofs.Common.{◌≡◌, refl, sym, ap, ap₂, ◌∙◌, subst as tr, List, [], ◌∷◌, ◌++◌, reverse, ℕ, zero, suc, ◌+◌, ◌-◌, ◌≤◌, ◌<◌, length, ltb, arith, ltb-true, ltb-false}
use mathlib.Core.List.{reverse_aux}
use mathlib.Core.Option.{some, none}
use lib.ListN.{get_elem?, length-reverse_aux}
use Rattle.theory.specs.Terms.{Head, h_def, h_data, h_con, h_rec, h_eq, h_refl, h_along, Term, var, const, sort, pi, lam, app, option, lift, subst, subst_all, apps, pis}
use Rattle.theory.specs.Environment.{Constructor, DataType, Entry, defined, assumed, inductive, Env, vars, self_type, rec_fields, hypotheses, case_recs, case_type, rec_cases, rec_type, data_type, con_type, entry_type, entry_body, entry_data, data_at, head_type_lem, up, ups}
use Rattle.theory.specs.Reduction.{delta}
use Rattle.theory.specs.Typing.{HasType, t_var, t_head, t_sort, t_pi, t_lam, t_app, t_conv, Telescope, tel_end, tel_more, Bounded, bnd_end, bnd_more, extend, AllBounded, WfEntry, WfEnv, env_end, env_more}
use Rattle.theory.proofs.Options.{none-some, some_inj, cases_bool, bind-some, option-some}
use Rattle.theory.proofs.Indices.{lift_below}
use Rattle.theory.proofs.SubstAll.{length-vars, length-ups}

-- the free variables are below n
abbrev pub Scoped : ℕ → Term → Type 0
Scoped n (var x) = x < n
Scoped n (const h) = Unit {0}
Scoped n (sort i) = Unit {0}
Scoped n (pi a b) = Scoped n a × Scoped (suc n) b
Scoped n (lam a b) = Scoped n a × Scoped (suc n) b
Scoped n (app f a) = Scoped n f × Scoped n a

abbrev pub Each : ℕ → List Term → Type 0
Each n [] = Unit {0}
Each n (t ∷ ts) = Scoped n t × Each n ts

-- a telescope, each type in the scope of n variables and those before it
abbrev pub ScopedTel : ℕ → List Term → Type 0
ScopedTel n [] = Unit {0}
ScopedTel n (a ∷ as₁) = Scoped n a × ScopedTel (suc n) as₁

abbrev pub ScopedCons : ℕ → List Constructor → Type 0
ScopedCons n [] = Unit {0}
ScopedCons n (c ∷ cs) = ScopedTel n c.fields × ScopedCons n cs

abbrev pub ClosedEntry : Entry → Type 0
ClosedEntry (defined t a) = Scoped 0 t × Scoped 0 a
ClosedEntry (assumed a) = Scoped 0 a
ClosedEntry (inductive k) = ScopedTel 0 k.params × ScopedCons (length k.params) k.cons

-- such a term does not change
pub scoped_lift : (t : Term) (n c d : ℕ) → Scoped n t → n ≤ c → lift c d t ≡ t
scoped_lift (var x) n c d s p = lift_below d (omega arith)
scoped_lift (const h) n c d s p = refl
scoped_lift (sort i) n c d s p = refl
scoped_lift (pi a b) n c d s p = ap₂ pi (scoped_lift a n c d s.0 p) (scoped_lift b (suc n) (suc c) d s.1 (omega arith))
scoped_lift (lam a b) n c d s p = ap₂ lam (scoped_lift a n c d s.0 p) (scoped_lift b (suc n) (suc c) d s.1 (omega arith))
scoped_lift (app f a) n c d s p = ap₂ app (scoped_lift f n c d s.0 p) (scoped_lift a n c d s.1 p)

pub scoped_subst : (t : Term) (n k : ℕ) (u : Term) → Scoped n t → n ≤ k → subst k u t ≡ t
scoped_subst (var x) n k u s p = grind arith
scoped_subst (const h) n k u s p = refl
scoped_subst (sort i) n k u s p = refl
scoped_subst (pi a b) n k u s p = ap₂ pi (scoped_subst a n k u s.0 p) (scoped_subst b (suc n) (suc k) u s.1 (omega arith))
scoped_subst (lam a b) n k u s p = ap₂ lam (scoped_subst a n k u s.0 p) (scoped_subst b (suc n) (suc k) u s.1 (omega arith))
scoped_subst (app f a) n k u s p = ap₂ app (scoped_subst f n k u s.0 p) (scoped_subst a n k u s.1 p)

pub scoped_subst_all : (t : Term) (n d : ℕ) (us : List Term) → Scoped n t → n ≤ d → subst_all us d t ≡ t
scoped_subst_all (var x) n d us s p = grind arith
scoped_subst_all (const h) n d us s p = refl
scoped_subst_all (sort i) n d us s p = refl
scoped_subst_all (pi a b) n d us s p = ap₂ pi (scoped_subst_all a n d us s.0 p) (scoped_subst_all b (suc n) (suc d) us s.1 (omega arith))
scoped_subst_all (lam a b) n d us s p = ap₂ lam (scoped_subst_all a n d us s.0 p) (scoped_subst_all b (suc n) (suc d) us s.1 (omega arith))
scoped_subst_all (app f a) n d us s p = ap₂ app (scoped_subst_all f n d us s.0 p) (scoped_subst_all a n d us s.1 p)

-- scopes grow
pub scoped_more : (t : Term) (n m : ℕ) → Scoped n t → n ≤ m → Scoped m t
scoped_more (var x) n m s p = omega arith
scoped_more (const h) n m s p = tt
scoped_more (sort i) n m s p = tt
scoped_more (pi a b) n m s p = (scoped_more a n m s.0 p, scoped_more b (suc n) (suc m) s.1 (omega arith))
scoped_more (lam a b) n m s p = (scoped_more a n m s.0 p, scoped_more b (suc n) (suc m) s.1 (omega arith))
scoped_more (app f a) n m s p = (scoped_more f n m s.0 p, scoped_more a n m s.1 p)

pub lift_scoped : (t : Term) (n c d m : ℕ) → Scoped n t → m ≡ n + d → Scoped m (lift c d t)
lift_scoped (var x) n c d m s p = cases_bool (ltb x c) (λ q. rw q (omega arith)) (λ q. rw q (omega arith))
lift_scoped (const h) n c d m s p = tt
lift_scoped (sort i) n c d m s p = tt
lift_scoped (pi a b) n c d m s p = (lift_scoped a n c d m s.0 p, lift_scoped b (suc n) (suc c) d (suc m) s.1 (omega arith))
lift_scoped (lam a b) n c d m s p = (lift_scoped a n c d m s.0 p, lift_scoped b (suc n) (suc c) d (suc m) s.1 (omega arith))
lift_scoped (app f a) n c d m s p = (lift_scoped f n c d m s.0 p, lift_scoped a n c d m s.1 p)

-- what get_elem? finds
pub get_below : {A : Type 0} (xs : List A) (i : ℕ) {x : A} → get_elem? xs i ≡ some x → i < length xs
get_below [] i p = none-some p
get_below (x ∷ xs) zero p = omega arith
get_below (x ∷ xs) (suc i) p = let z : i < length xs = get_below xs i p in omega arith

pub get_there : {A D : Type 0} (xs : List A) (i : ℕ) → i < length xs → ((x : A) → get_elem? xs i ≡ some x → D) → D
get_there [] i p k = absurd (omega arith)
get_there (x ∷ xs) zero p k = k x refl
get_there (x ∷ xs) (suc i) p k = get_there xs i (omega arith) k

get_each : (n : ℕ) (ts : List Term) (i : ℕ) {t : Term} → Each n ts → get_elem? ts i ≡ some t → Scoped n t
get_each n [] i s p = none-some p
get_each n (t ∷ ts) zero s p = tr (Scoped n) (some_inj p) s.0
get_each n (t ∷ ts) (suc i) s p = get_each n ts i s.1 p

-- simultaneous substitution of scoped terms
pub subst_all_scoped : (t : Term) (us : List Term) (n d m l : ℕ) → Scoped m t → Each n us → m ≡ length us + d → l ≡ n + d → Scoped l (subst_all us d t)
subst_all_scoped (var x) us n d m l s r p q =
    cases_bool (ltb x d) (λ b. rw b (let z : x < d = ltb-true x d b in omega arith))
    (λ b. rw b (let z : d ≤ x = ltb-false x d b in get_there us (x - d) (omega arith) λ t f. rw f (lift_scoped t n 0 d l (get_each n us (x - d) r f) q)))
subst_all_scoped (const h) us n d m l s r p q = tt
subst_all_scoped (sort i) us n d m l s r p q = tt
subst_all_scoped (pi a b) us n d m l s r p q = (subst_all_scoped a us n d m l s.0 r p q, subst_all_scoped b us n (suc d) (suc m) (suc l) s.1 r (omega arith) (omega arith))
subst_all_scoped (lam a b) us n d m l s r p q = (subst_all_scoped a us n d m l s.0 r p q, subst_all_scoped b us n (suc d) (suc m) (suc l) s.1 r (omega arith) (omega arith))
subst_all_scoped (app f a) us n d m l s r p q = (subst_all_scoped f us n d m l s.0 r p q, subst_all_scoped a us n d m l s.1 r p q)

-- typed terms are scoped by their context
pub typed_scoped : {e : Env} {g : List Term} {t a : Term} → HasType e g t a → Scoped (length g) t
typed_scoped (t_var {g} {x} p) = get_below g x p
typed_scoped (t_head p) = tt
typed_scoped t_sort = tt
typed_scoped (t_pi p q) = (typed_scoped p, typed_scoped q)
typed_scoped (t_lam p q r) = (typed_scoped p, typed_scoped r)
typed_scoped (t_app p q) = (typed_scoped p, typed_scoped q)
typed_scoped (t_conv p s q) = typed_scoped p

pub telescope_scoped : {e : Env} {g as₁ : List Term} → Telescope e g as₁ → ScopedTel (length g) as₁
telescope_scoped tel_end = tt
telescope_scoped (tel_more p q) = (typed_scoped p, telescope_scoped q)

pub bounded_scoped : {e : Env} {n : ℕ} {g as₁ : List Term} → Bounded e n g as₁ → ScopedTel (length g) as₁
bounded_scoped bnd_end = tt
bounded_scoped (bnd_more p l q) = (typed_scoped p, bounded_scoped q)

pub length-extend : (g as₁ : List Term) → length (extend g as₁) ≡ length as₁ + length g
length-extend g [] = omega arith
length-extend g (a ∷ as₁) = length-extend (a ∷ g) as₁ ∙ omega arith

all_bounded_scoped : (e : Env) (n : ℕ) (g : List Term) (cs : List Constructor) → AllBounded e n g cs → ScopedCons (length g) cs
all_bounded_scoped e n g [] p = tt
all_bounded_scoped e n g (c ∷ cs) p = (bounded_scoped p.0, all_bounded_scoped e n g cs p.1)

-- an entry of a longer environment is one of the shorter or the last
pub get_snoc : {A D : Type 0} (xs : List A) (y : A) (i : ℕ) {x : A} → get_elem? (xs ++ (y ∷ [])) i ≡ some x → (get_elem? xs i ≡ some x → D) → (i ≡ length xs → y ≡ x → D) → D
get_snoc [] y zero p j k = k refl (some_inj p)
get_snoc [] y (suc i) p j k = none-some p
get_snoc (x ∷ xs) y zero p j k = j p
get_snoc (x ∷ xs) y (suc i) p j k = get_snoc xs y i p j (λ q r. k (ap suc q) r)

entry_closed : (e : Env) (d : Entry) → WfEntry e d → ClosedEntry d
entry_closed e (defined t a) w = (typed_scoped w.2, typed_scoped w.1)
entry_closed e (assumed a) w = typed_scoped w.1
entry_closed e (inductive k) w =
    (telescope_scoped w.0, tr (λ n. ScopedCons n k.cons) (length-extend [] k.params ∙ omega arith) (all_bounded_scoped e k.level (extend [] k.params) k.cons w.1))

pub wf_closed : {e : Env} → WfEnv e → (i : ℕ) {d : Entry} → get_elem? e i ≡ some d → ClosedEntry d
wf_closed env_end i p = none-some p
wf_closed (env_more {e} c w r) i p = get_snoc e c i p (λ q. wf_closed w i q) (λ q s. tr ClosedEntry s (entry_closed e c r))

-- bodies of definitions are closed
body_closed : (d : Entry) {t : Term} → ClosedEntry d → entry_body d ≡ some t → Scoped 0 t
body_closed (defined t a) s p = grind arith
body_closed (assumed a) s p = grind arith
body_closed (inductive k) s p = grind arith

pub delta_closed : (e : Env) → WfEnv e → (h : Head) {t : Term} → delta e h ≡ some t → Scoped 0 t
delta_closed e w (h_def i) p = bind-some (get_elem? e i) entry_body p λ d q r. body_closed d (wf_closed w i q) r
delta_closed e w (h_data i) p = none-some p
delta_closed e w (h_con i k) p = none-some p
delta_closed e w (h_rec i j) p = none-some p
delta_closed e w (h_eq i) p = none-some p
delta_closed e w (h_refl i) p = none-some p
delta_closed e w (h_along i j) p = none-some p

-- lists of scoped terms
pub vars_scoped : (n d m : ℕ) → n + d ≤ m → Each m (vars n d)
vars_scoped zero d m p = tt
vars_scoped (suc n) d m p = (omega arith, vars_scoped n d m (omega arith))

pub apps_scoped : (n : ℕ) (f : Term) (as₁ : List Term) → Scoped n f → Each n as₁ → Scoped n (apps f as₁)
apps_scoped n f [] s r = s
apps_scoped n f (a ∷ as₁) s r = apps_scoped n (app f a) as₁ (s, r.0) r.1

pub pis_scoped : (as₁ : List Term) (b : Term) (n m : ℕ) → ScopedTel n as₁ → m ≡ length as₁ + n → Scoped m b → Scoped n (pis as₁ b)
pis_scoped [] b n m s p r = tr (λ z. Scoped z b) (let z : m ≡ n = omega arith in z) r
pis_scoped (a ∷ as₁) b n m s p r = (s.0, pis_scoped as₁ b (suc n) m s.1 (omega arith) r)

pub ups_scoped : (n : ℕ) (ts : List Term) → Each n ts → Each (suc n) (ups ts)
ups_scoped n [] s = tt
ups_scoped n (t ∷ ts) s = (lift_scoped t n 0 1 (suc n) s.0 (omega arith), ups_scoped n ts s.1)

pub append_scoped : (n : ℕ) (ts us : List Term) → Each n ts → Each n us → Each n (ts ++ us)
append_scoped n [] us s r = r
append_scoped n (t ∷ ts) us s r = (s.0, append_scoped n ts us s.1 r)

pub reverse_scoped : (n : ℕ) (ts us : List Term) → Each n ts → Each n us → Each n (reverse_aux ts us)
reverse_scoped n [] us s r = r
reverse_scoped n (t ∷ ts) us s r = reverse_scoped n ts (t ∷ us) s.1 (s.0, r)

next_scoped : (n : ℕ) (q : List Term) → Each n q → Each (suc n) (ups q ++ (var 0 ∷ []))
next_scoped n q s = append_scoped (suc n) (ups q) (var 0 ∷ []) (ups_scoped n q s) (omega arith, tt)

-- the parts of the types of constructors and recursors
rec_fields_scoped : (i : ℕ) (k : DataType) (n d m : ℕ) → m ≡ length k.params + d → Scoped m (rec_fields i k n d)
rec_fields_scoped i k zero d m p = apps_scoped m (const (h_data i)) (vars (length k.params) d) tt (vars_scoped (length k.params) d m (omega arith))
rec_fields_scoped i k (suc n) d m p =
    (apps_scoped m (const (h_data i)) (vars (length k.params) d) tt (vars_scoped (length k.params) d m (omega arith)), rec_fields_scoped i k n (suc d) (suc m) (omega arith))

hypotheses_scoped : (c : Term) (rs : List Term) (d : ℕ) (t : Term) (n m : ℕ) → Scoped n c → Each n rs → Scoped n t → m ≡ n + d → Scoped m (hypotheses c rs d t)
hypotheses_scoped c [] d t n m s r q p = lift_scoped t n 0 d m q p
hypotheses_scoped c (a ∷ rs) d t n m s r q p = (lift_scoped (app c a) n 0 d m (s, r.0) p, hypotheses_scoped c rs (suc d) t n (suc m) s r.1 q (omega arith))

case_recs_scoped : (i k : ℕ) (ps : List Term) (c : Term) (q rs : List Term) (n m : ℕ) → Each m ps → Scoped m c → Each m q → Each m rs → Scoped m (case_recs i k ps c q rs n)
case_recs_scoped i k ps c q rs zero m s r x y =
    hypotheses_scoped c rs 0 (app c (apps (const (h_con i k)) (ps ++ q))) m m r y (r, apps_scoped m (const (h_con i k)) (ps ++ q) tt (append_scoped m ps q s x)) (omega arith)
case_recs_scoped i k ps c q rs (suc n) m s r x y = (
  apps_scoped m (const (h_data i)) ps tt s,
  case_recs_scoped i k (ups ps) (up c) (ups q ++ (var 0 ∷ [])) (ups rs ++ (var 0 ∷ [])) n (suc m) (ups_scoped m ps s) (lift_scoped c m 0 1 (suc m) r (omega arith)) (next_scoped m q x) (next_scoped m rs y),
)

case_type_scoped : (i k : ℕ) (ps : List Term) (c : Term) (us q as₁ : List Term) (n m : ℕ) → Each m ps → Scoped m c → Each m us → Each m q → ScopedTel (length us) as₁
    → Scoped m (case_type i k ps c us q as₁ n)
case_type_scoped i k ps c us q [] n m s r x y z = case_recs_scoped i k ps c q [] n m s r y tt
case_type_scoped i k ps c us q (a ∷ as₁) n m s r x y z = (
  subst_all_scoped a us m 0 (length us) m z.0 x (omega arith) (omega arith),
  case_type_scoped i k (ups ps) (up c) (var 0 ∷ ups us) (ups q ++ (var 0 ∷ [])) as₁ n (suc m) (ups_scoped m ps s) (lift_scoped c m 0 1 (suc m) r (omega arith))
      (omega arith, ups_scoped m us x) (next_scoped m q y) (tr (λ l. ScopedTel (suc l) as₁) (sym (length-ups us)) z.1),
)

rec_cases_scoped : (i n m k : ℕ) (cs : List Constructor) (l : ℕ) → ScopedCons n cs → l ≡ n + (m + 1) → Scoped l (rec_cases i n m k cs)
rec_cases_scoped i n m k [] l s p =
    (apps_scoped l (const (h_data i)) (vars n (m + 1)) tt (vars_scoped n (m + 1) l (omega arith)), (omega arith, omega arith))
rec_cases_scoped i n m k (c ∷ cs) l s p =
    let v : Each l (vars n (m + 1)) = vars_scoped n (m + 1) l (omega arith) in (
      case_type_scoped i k (vars n (m + 1)) (var m) (reverse (vars n (m + 1))) [] c.fields c.recs l v (omega arith) (reverse_scoped l (vars n (m + 1)) [] v tt) tt
          (tr (λ z. ScopedTel z c.fields) (let z : n ≡ length (reverse (vars n (m + 1))) = omega (arith, length-reverse_aux (vars n (m + 1)) [], length-vars n (m + 1)) in z) s.0),
      rec_cases_scoped i n (m + 1) (k + 1) cs (suc l) s.1 (omega arith),
    )

-- the types of heads are closed
entry_type_closed : (d : Entry) {a : Term} → ClosedEntry d → entry_type d ≡ some a → Scoped 0 a
entry_type_closed (defined t a) s p = tr (Scoped 0) (some_inj p) s.1
entry_type_closed (assumed a) s p = tr (Scoped 0) (some_inj p) s
entry_type_closed (inductive k) s p = none-some p

entry_data_closed : (d : Entry) {k : DataType} → ClosedEntry d → entry_data d ≡ some k → ClosedEntry (inductive k)
entry_data_closed (defined t a) s p = none-some p
entry_data_closed (assumed a) s p = none-some p
entry_data_closed (inductive k) s p = tr (λ z. ClosedEntry (inductive z)) (some_inj p) s

pub data_closed : (e : Env) → WfEnv e → (i : ℕ) {k : DataType} → data_at e i ≡ some k → ClosedEntry (inductive k)
data_closed e w i p = option-some (get_elem? e i) entry_data p λ d q r. entry_data_closed d (wf_closed w i q) r

pub get_cons_scoped : (n : ℕ) (cs : List Constructor) (i : ℕ) {c : Constructor} → ScopedCons n cs → get_elem? cs i ≡ some c → ScopedTel n c.fields
get_cons_scoped n [] i s p = none-some p
get_cons_scoped n (c ∷ cs) zero s p = tr (λ z. ScopedTel n z.fields) (some_inj p) s.0
get_cons_scoped n (c ∷ cs) (suc i) s p = get_cons_scoped n cs i s.1 p

con_type_closed : (i : ℕ) (k : DataType) (c : Constructor) → ScopedTel 0 k.params → ScopedTel (length k.params) c.fields → Scoped 0 (con_type i k c)
con_type_closed i k c s r =
    pis_scoped k.params (pis c.fields (rec_fields i k c.recs (length c.fields))) 0 (length k.params) s (omega arith)
    (pis_scoped c.fields (rec_fields i k c.recs (length c.fields)) (length k.params) (length c.fields + length k.params) r refl
    (rec_fields_scoped i k c.recs (length c.fields) (length c.fields + length k.params) (omega arith)))

rec_type_closed : (i j : ℕ) (k : DataType) → ClosedEntry (inductive k) → Scoped 0 (rec_type i j k)
rec_type_closed i j k s =
    pis_scoped k.params (pi (pi (self_type i k 0) (sort j)) (rec_cases i (length k.params) 0 0 k.cons)) 0 (length k.params) s.0 (omega arith) (
      (apps_scoped (length k.params) (const (h_data i)) (vars (length k.params) 0) tt (vars_scoped (length k.params) 0 (length k.params) (omega arith)), tt),
      rec_cases_scoped i (length k.params) 0 0 k.cons (suc (length k.params)) s.1 (omega arith),
    )

pub head_type_closed : (e : Env) → WfEnv e → (h : Head) {a : Term} → head_type_lem e h ≡ some a → Scoped 0 a
head_type_closed e w (h_def i) p = option-some (get_elem? e i) entry_type p λ d q r. entry_type_closed d (wf_closed w i q) r
head_type_closed e w (h_data i) p =
    option-some (data_at e i) (λ k. some (data_type k)) p λ k q r.
    tr (Scoped 0) (some_inj r) (pis_scoped k.params (sort k.level) 0 (length k.params) (data_closed e w i q).0 (omega arith) tt)
head_type_closed e w (h_con i n) p =
    option-some (data_at e i) (λ k. option (get_elem? k.cons n) none (λ c. some (con_type i k c))) p λ k q r.
    option-some (get_elem? k.cons n) (λ c. some (con_type i k c)) r λ c x y.
    tr (Scoped 0) (some_inj y) (con_type_closed i k c (data_closed e w i q).0 (get_cons_scoped (length k.params) k.cons n (data_closed e w i q).1 x))
head_type_closed e w (h_rec i j) p =
    option-some (data_at e i) (λ k. some (rec_type i j k)) p λ k q r. tr (Scoped 0) (some_inj r) (rec_type_closed i j k (data_closed e w i q))
head_type_closed e w (h_eq i) p = tr (Scoped 0) (some_inj p) (tt, (omega arith, (omega arith, tt)))
head_type_closed e w (h_refl i) p = tr (Scoped 0) (some_inj p) (tt, (omega arith, (((tt, omega arith), omega arith), omega arith)))
head_type_closed e w (h_along i j) p = tr (Scoped 0) (some_inj p) (omega arith)
