-- In a well-formed environment the type of every head is of a sort.
-- The long part is the recursor: its cases are typed for any parameters and motive, in any context.
use Rattle.std.proofs.Common.{◌≡◌, refl, sym, ap, ap₂, ◌∙◌, subst as tr, subst₂ as tr₂, List, [], ◌∷◌, ◌++◌, append_assoc, append-nil, map, reverse, ℕ, zero, suc, ◌+◌, max, length, arith}
use mathlib.Core.Option.{some, none}
use lib.ListN.{get_elem?}
use Rattle.theory.specs.Terms.{Head, h_def, h_data, h_con, h_rec, h_eq, h_refl, h_along, Term, var, const, sort, pi, app, option, lift, subst_all, apps, pis}
use Rattle.theory.specs.Environment.{Constructor, DataType, Entry, defined, assumed, inductive, Env, vars, self_type, rec_fields, con_type, up, ups, hypotheses, case_recs, case_type, rec_type, data_type, eq_type, eq_of, refl_type, refl_of, along_type, entry_type, entry_data, data_at, head_type_lem}
use Rattle.theory.specs.Typing.{HasType, t_var, t_head, t_sort, t_pi, t_app, Telescope, tel_end, tel_more, extend, AllBounded, WfEntry, WfEnv, ctx_end}
use Rattle.theory.proofs.Options.{none-some, some_inj, option-some}
use Rattle.theory.proofs.Indices.{lift-zero, lift_merge}
use Rattle.theory.proofs.Closed.{length-extend, head_type_closed, scoped_subst_all}
use Rattle.theory.proofs.SubstAll.{subst_all_family, family_apps, lift-apps, lifts-map, up-apps, apps_append, ups_append, length-vars, lift-vars, subst_all-vars, subst_all-lift, subst_all-under, Substitution, sub_end}
use Rattle.theory.proofs.Naturality.{arrows, cases_at, family_arrows, self_type-up, rec_fields_arrows, rec_cases_at}
use Rattle.theory.proofs.Stability.{weaken, subst_var_lift, typed_subst_all, substitution_under, up-subst_all}
use Rattle.theory.proofs.EnvWeakening.{wf_entry}
use Rattle.theory.proofs.Telescopes.{Args, args_end, args_more, args-length, args_weaken, substitution_args, args_of, apply_args, pis_typed, extend_context, bounded_telescope, weaken_extend, substitution_self}

-- the data type at a place is well-formed
pub wf_data : {e : Env} → WfEnv e → (i : ℕ) {k : DataType} → data_at e i ≡ some k → WfEntry e (inductive k)
wf_data {e} w i {k} p = option-some (get_elem? e i) entry_data p λ d q r. at_data d r (wf_entry w i q)
  where
    at_data : (d : Entry) → entry_data d ≡ some k → WfEntry e d → WfEntry e (inductive k)
    at_data (defined t a) r s = none-some r
    at_data (assumed a) r s = none-some r
    at_data (inductive l) r s = tr (λ z. WfEntry e (inductive z)) (some_inj r) s

-- terms that are all of one type
pub data AllOf (e : Env) (g : List Term) (a : Term) : List Term → Type 0 where
  all_end : AllOf e g a []
  all_more : {t : Term} {ts : List Term} → HasType e g t a → AllOf e g a ts → AllOf e g a (t ∷ ts)

all_weaken : {e : Env} → WfEnv e → {g : List Term} {a : Term} {ts : List Term} (b : Term) → AllOf e g a ts → AllOf e (b ∷ g) (up a) (ups ts)
all_weaken w b all_end = all_end
all_weaken w b (all_more p q) = all_more (weaken w b p) (all_weaken w b q)

all_snoc : {e : Env} {g : List Term} {a : Term} {ts : List Term} {t : Term} → AllOf e g a ts → HasType e g t a → AllOf e g a (ts ++ (t ∷ []))
all_snoc all_end q = all_more q all_end
all_snoc (all_more p r) q = all_more p (all_snoc r q)

-- n arguments of one type
pub arrows_typed : {e : Env} → WfEnv e → (n : ℕ) {g : List Term} {a : Term} {i : ℕ} → HasType e g a (sort i) → (j : ℕ) × HasType e g (arrows a n) (sort j)
arrows_typed w zero {i} p = (i, p)
arrows_typed w (suc n) {a} {i} p = let r = arrows_typed w n (weaken w a p) in (max i r.0, t_pi p r.1)

-- a function of such arguments, applied to a new variable
arrows_next : {e : Env} → WfEnv e → {g : List Term} {f a : Term} (n : ℕ) → HasType e g f (arrows a (suc n)) → HasType e (a ∷ g) (app (up f) (var 0)) (arrows (up a) n)
arrows_next {e} w {g} {f} {a} n p = tr (HasType e (a ∷ g) (app (up f) (var 0))) (subst_var_lift (arrows (up a) n)) (t_app (weaken w a p) (t_var refl))

-- induction hypotheses
hypotheses_typed : {e : Env} → WfEnv e → {g : List Term} {c a t : Term} {j l : ℕ} → HasType e g c (pi a (sort j)) → HasType e g t (sort l) → {rs : List Term} → AllOf e g a rs
    → (d : ℕ) {k : List Term} → ((u b : Term) → HasType e g u b → HasType e k (lift 0 d u) (lift 0 d b)) → (s : ℕ) × HasType e k (hypotheses c rs d t) (sort s)
hypotheses_typed w {t} {l} p q all_end d v = (l, v t (sort l) q)
hypotheses_typed {e} w {c} {j} p q (all_more {t = r} s rest) d {k} v =
    let h = hypotheses_typed w p q rest (suc d) {k = lift 0 d (app c r) ∷ k}
    (λ u b x. tr₂ (HasType e (lift 0 d (app c r) ∷ k)) (lift_merge u 0 d 0 1 (suc d) (omega arith) (omega arith) (omega arith)) (lift_merge b 0 d 0 1 (suc d) (omega arith) (omega arith) (omega arith)) (weaken w (lift 0 d (app c r)) (v u b x))) in
    (max j h.0, t_pi (v (app c r) (sort j) (t_app p s)) h.1)

-- the arguments so far and one more variable
con_next : (h : Head) (ps q : List Term) → app (up (apps (const h) (ps ++ q))) (var 0) ≡ apps (const h) (ups ps ++ (ups q ++ (var 0 ∷ [])))
con_next h ps q =
    ap (λ f. app f (var 0)) (up-apps (const h) (ps ++ q) ∙ ap (apps (const h)) (ups_append ps q))
    ∙ sym (apps_append (const h) (ups ps ++ ups q) (var 0 ∷ [])) ∙ ap (apps (const h)) (append_assoc (ups ps) (ups q) (var 0 ∷ []))

-- recursive fields, induction hypotheses and the motive at the constructor
case_recs_typed : {e : Env} → WfEnv e → (i x j l n : ℕ) {g : List Term} (ps : List Term) (c : Term) (q : List Term) {rs : List Term}
    → HasType e g (apps (const (h_data i)) ps) (sort l) → HasType e g c (pi (apps (const (h_data i)) ps) (sort j))
    → HasType e g (apps (const (h_con i x)) (ps ++ q)) (arrows (apps (const (h_data i)) ps) n) → AllOf e g (apps (const (h_data i)) ps) rs
    → (s : ℕ) × HasType e g (case_recs i x ps c q rs n) (sort s)
case_recs_typed {e} w i x j l zero {g} ps c q d m f rs =
    hypotheses_typed w m (t_app m f) rs 0 (λ u b p. tr₂ (HasType e g) (sym (lift-zero u 0)) (sym (lift-zero b 0)) p)
case_recs_typed {e} w i x j l (suc n) {g} ps c q {rs} d m f r =
    let h = case_recs_typed w i x j l n {g = apps (const (h_data i)) ps ∷ g} (ups ps) (up c) (ups q ++ (var 0 ∷ [])) {rs = ups rs ++ (var 0 ∷ [])}
    (tr (λ z. HasType e (apps (const (h_data i)) ps ∷ g) z (sort l)) (up-apps (const (h_data i)) ps) (weaken w (apps (const (h_data i)) ps) d))
    (tr (λ z. HasType e (apps (const (h_data i)) ps ∷ g) (up c) (pi z (sort j))) (up-apps (const (h_data i)) ps) (weaken w (apps (const (h_data i)) ps) m))
    (tr₂ (HasType e (apps (const (h_data i)) ps ∷ g)) (con_next (h_con i x) ps q) (ap (λ z. arrows z n) (up-apps (const (h_data i)) ps)) (arrows_next w n f))
    (tr (λ z. AllOf e (apps (const (h_data i)) ps ∷ g) z (ups rs ++ (var 0 ∷ []))) (up-apps (const (h_data i)) ps) (all_snoc (all_weaken w (apps (const (h_data i)) ps) r) (t_var refl))) in
    (max l h.0, t_pi d h.1)

-- parameters and fields under one more binder
subst_all_next : (us ts : List Term) → map (subst_all (var 0 ∷ ups us) 0) (ups ts) ≡ ups (map (subst_all us 0) ts)
subst_all_next us [] = refl
subst_all_next us (t ∷ ts) = ap₂ ◌∷◌ (subst_all-lift t (var 0 ∷ []) (ups us) 0 1 refl ∙ sym (up-subst_all t us)) (subst_all_next us ts)

-- the type of the recursive fields with parameters put in
pub rec_fields_at : (i : ℕ) (k : DataType) (n : ℕ) (us ps : List Term) (m : ℕ) → map (subst_all us 0) (vars (length k.params) m) ≡ ps → subst_all us 0 (rec_fields i k n m) ≡ arrows (apps (const (h_data i)) ps) n
rec_fields_at i k n us ps m p =
    ap (subst_all us 0) (rec_fields_arrows i k n m) ∙ family_arrows (subst_all_family us) 0 (self_type i k m) n
    ∙ ap (λ a. arrows a n) (family_apps (subst_all_family us) 0 (const (h_data i)) (vars (length k.params) m) ∙ ap (apps (const (h_data i))) p)

-- the type of a case
case_type_typed : {e : Env} → WfEnv e → (i x j l : ℕ) (k : DataType) (n : ℕ) {d as₁ : List Term} → Telescope e d as₁ → {g : List Term} (ps : List Term) (c : Term) (us q : List Term) (m b : ℕ)
    → m ≡ length as₁ + b → Substitution e g us d → map (subst_all us 0) (vars (length k.params) b) ≡ ps
    → HasType e g (apps (const (h_data i)) ps) (sort l) → HasType e g c (pi (apps (const (h_data i)) ps) (sort j))
    → HasType e g (apps (const (h_con i x)) (ps ++ q)) (subst_all us 0 (pis as₁ (rec_fields i k n m)))
    → (s : ℕ) × HasType e g (case_type i x ps c us q as₁ n) (sort s)
case_type_typed {e} w i x j l k n tel_end {g} ps c us q m b p s v d o f =
    case_recs_typed w i x j l n ps c q d o (tr (HasType e g (apps (const (h_con i x)) (ps ++ q))) (rec_fields_at i k n us ps m (ap (λ z. map (subst_all us 0) (vars (length k.params) z)) (let z : m ≡ b = omega arith in z) ∙ v)) f) all_end
case_type_typed {e} w i x j l k n (tel_more {as₁} {a} {i = r} t rest) {g} ps c us q m b p s v d o f =
    let h = case_type_typed w i x j l k n rest {g = subst_all us 0 a ∷ g} (ups ps) (up c) (var 0 ∷ ups us) (ups q ++ (var 0 ∷ [])) m (suc b) (omega arith) (substitution_under w a s)
    (ap (map (subst_all (var 0 ∷ ups us) 0)) (sym (lift-vars (length k.params) b 1 (suc b) (omega arith))) ∙ subst_all_next us (vars (length k.params) b) ∙ ap ups v)
    (tr (λ z. HasType e (subst_all us 0 a ∷ g) z (sort l)) (up-apps (const (h_data i)) ps) (weaken w (subst_all us 0 a) d))
    (tr (λ z. HasType e (subst_all us 0 a ∷ g) (up c) (pi z (sort j))) (up-apps (const (h_data i)) ps) (weaken w (subst_all us 0 a) o))
    (tr₂ (HasType e (subst_all us 0 a ∷ g)) (con_next (h_con i x) ps q) (subst_var_lift (subst_all us 1 (pis as₁ (rec_fields i k n m))) ∙ sym (subst_all-under (pis as₁ (rec_fields i k n m)) us 0))
    (t_app (weaken w (subst_all us 0 a) f) (t_var refl))) in
    (max r h.0, t_pi (typed_subst_all w t s) h.1)

-- a head applied to arguments that fit its telescope
pub head_applied : {e : Env} → WfEnv e → (h : Head) {g as₁ ts : List Term} (c : Term) → head_type_lem e h ≡ some (pis as₁ c) → Args e g [] as₁ ts → HasType e g (apps (const h) ts) (subst_all (reverse ts) 0 c)
head_applied {e} w h {g} {as₁} c p a = apply_args a c (tr (HasType e g (const h)) (sym (scoped_subst_all (pis as₁ c) 0 0 [] (head_type_closed e w h p) (omega arith))) (t_head p))

module _ {e : Env} (w : WfEnv e) (i : ℕ) (k : DataType) (at : data_at e i ≡ some k) where
  pub data_applied : {g ps : List Term} → Args e g [] k.params ps → HasType e g (apps (const (h_data i)) ps) (sort k.level)
  data_applied a = head_applied w (h_data i) (sort k.level) (rw at refl) a

  pub con_head : (y : ℕ) {c : Constructor} → get_elem? k.cons y ≡ some c → head_type_lem e (h_con i y) ≡ some (con_type i k c)
  con_head y p = rw (at, p) refl

  pub params_at : {g ps : List Term} → Args e g [] k.params ps → map (subst_all (reverse ps) 0) (vars (length k.params) 0) ≡ ps
  params_at {ps} a = subst_all-vars ps [] (length k.params) (sym (args-length a))

  fields_telescope : (l : ℕ) (d : List Term) (ds : List Constructor) (y : ℕ) {c : Constructor} → AllBounded e l d ds → get_elem? ds y ≡ some c → Telescope e d c.fields
  fields_telescope l d [] y b p = none-some p
  fields_telescope l d (c ∷ ds) zero b p = tr (λ z. Telescope e d z.fields) (some_inj p) (bounded_telescope b.0)
  fields_telescope l d (c ∷ ds) (suc y) b p = fields_telescope l d ds y b.1 p

  pub con_fields : (y : ℕ) {c : Constructor} → get_elem? k.cons y ≡ some c → Telescope e (extend [] k.params) c.fields
  con_fields y p = fields_telescope k.level (extend [] k.params) k.cons y (wf_data w i at).1 p

  -- the case of a constructor, for any parameters and motive
  pub case_typed : (y j : ℕ) {c : Constructor} → get_elem? k.cons y ≡ some c → {g ps : List Term} {m : Term} → Args e g [] k.params ps → HasType e g m (pi (apps (const (h_data i)) ps) (sort j))
      → (s : ℕ) × HasType e g (case_type i y ps m (reverse ps) [] c.fields c.recs) (sort s)
  case_typed y j {c} p {g} {ps} {m} a o =
      case_type_typed w i y j k.level k c.recs (con_fields y p) ps m (reverse ps) [] (length c.fields) 0 (omega arith) (substitution_args sub_end a) (params_at a) (data_applied a) o
      (tr (λ z. HasType e g (apps (const (h_con i y)) z) (subst_all (reverse ps) 0 (pis c.fields (rec_fields i k c.recs (length c.fields))))) (sym (append-nil ps))
      (head_applied w (h_con i y) (pis c.fields (rec_fields i k c.recs (length c.fields))) (con_head y p) a))

  -- the cases from constructor y on
  cases_at_typed : (j : ℕ) (ds : List Constructor) (y : ℕ) → ((z x : ℕ) → x ≡ y + z → get_elem? ds z ≡ get_elem? k.cons x) → {g ps : List Term} {m : Term} → Args e g [] k.params ps
      → HasType e g m (pi (apps (const (h_data i)) ps) (sort j)) → (s : ℕ) × HasType e g (cases_at i ps m y ds) (sort s)
  cases_at_typed j [] y f {g} {ps} {m} a o =
      (max k.level j, t_pi (data_applied a) (t_app (weaken w (apps (const (h_data i)) ps) o) (t_var refl)))
  cases_at_typed j (c ∷ ds) y f {g} {ps} {m} a o =
      let h = case_typed y j (sym (f 0 y (omega arith))) a o in
      let t : Term = case_type i y ps m (reverse ps) [] c.fields c.recs in
      let r = cases_at_typed j ds (y + 1) (λ z x p. f (suc z) x (omega arith)) {g = t ∷ g} {ps = ups ps} {m = up m} (args_weaken w t a)
      (tr (λ z. HasType e (t ∷ g) (up m) (pi z (sort j))) (up-apps (const (h_data i)) ps) (weaken w t o)) in
      (max h.0 r.0, t_pi h.1 r.1)

  -- the parameters, in their own context
  self_args : Args e (extend [] k.params) [] k.params (vars (length k.params) 0)
  self_args =
      (args_of [] [] k.params (vars (length k.params) 0) (length-vars (length k.params) 0)
      (tr (λ n. Substitution e (extend [] k.params) (reverse (vars n 0)) (extend [] k.params)) (let z : length (extend [] k.params) ≡ length k.params = length-extend [] k.params ∙ omega arith in z) (substitution_self w (extend_context ctx_end (wf_data w i at).0)))).1

  data_type_typed : (s : ℕ) × HasType e [] (data_type k) (sort s)
  data_type_typed = pis_typed (wf_data w i at).0 t_sort

  con_type_typed : (y : ℕ) {c : Constructor} → get_elem? k.cons y ≡ some c → (s : ℕ) × HasType e [] (con_type i k c) (sort s)
  con_type_typed y {c} p =
      let n : ℕ = length c.fields in
      let self = tr (λ z. HasType e (extend (extend [] k.params) c.fields) z (sort k.level))
      (lift-apps 0 n (const (h_data i)) (vars (length k.params) 0) ∙ ap (apps (const (h_data i))) (sym (lifts-map n (vars (length k.params) 0)) ∙ lift-vars (length k.params) 0 n n (omega arith)))
      (weaken_extend w c.fields (data_applied self_args)) in
      let r = arrows_typed w c.recs self in
      let t = tr (λ z. HasType e (extend (extend [] k.params) c.fields) z (sort r.0)) (sym (rec_fields_arrows i k c.recs n)) r.1 in
      pis_typed (wf_data w i at).0 (pis_typed (con_fields y p) t).1

  rec_type_typed : (j : ℕ) → (s : ℕ) × HasType e [] (rec_type i j k) (sort s)
  rec_type_typed j =
      let n : ℕ = length k.params in
      let d : List Term = extend [] k.params in
      let m : Term = pi (self_type i k 0) (sort j) in
      let r = cases_at_typed j k.cons 0 (λ z x p. ap (get_elem? k.cons) (let q : z ≡ x = omega arith in q)) {g = m ∷ d} {ps = vars n 1} {m = var 0}
      (tr (Args e (m ∷ d) [] k.params) (lift-vars n 0 1 1 (omega arith)) (args_weaken w m self_args))
      (tr (λ z. HasType e (m ∷ d) (var 0) (pi z (sort j))) (self_type-up i k 0) (t_var refl)) in
      pis_typed (wf_data w i at).0 (t_pi (t_pi (data_applied self_args) t_sort) (tr (λ z. HasType e (m ∷ d) z (sort r.0)) (sym (rec_cases_at i n 0 0 k.cons)) r.1))

-- equality
pub eq_typed : {e : Env} → WfEnv e → {g : List Term} {a x y : Term} {i : ℕ} → HasType e g a (sort i) → HasType e g x a → HasType e g y a → HasType e g (eq_of i a x y) (sort i)
eq_typed {e} w {g} {a} {x} {y} {i} p q r =
    let z : a ≡ lift 0 0 a = sym (lift-zero a 0) in
    head_applied w (h_eq i) {as₁ = sort i ∷ var 0 ∷ var 1 ∷ []} (sort i) refl (args_more p (args_more (tr (HasType e g x) z q) (args_more (tr (HasType e g y) z r) args_end)))

pub refl_typed : {e : Env} → WfEnv e → {g : List Term} {a x : Term} {i : ℕ} → HasType e g a (sort i) → HasType e g x a → HasType e g (refl_of i a x) (eq_of i a x x)
refl_typed {e} w {g} {a} {x} {i} p q =
    tr₂ (λ y z. HasType e g (refl_of i a x) (eq_of i y z z)) (lift-zero a 0) (lift-zero x 0)
    (head_applied w (h_refl i) {as₁ = sort i ∷ var 0 ∷ []} (eq_of i (var 1) (var 0) (var 0)) refl (args_more p (args_more (tr (HasType e g x) (sym (lift-zero a 0)) q) args_end)))

eq_type_typed : {e : Env} (i : ℕ) → (s : ℕ) × HasType e [] (eq_type i) (sort s)
eq_type_typed i = (_, t_pi t_sort (t_pi (t_var refl) (t_pi (t_var refl) t_sort)))

refl_type_typed : {e : Env} → WfEnv e → (i : ℕ) → (s : ℕ) × HasType e [] (refl_type i) (sort s)
refl_type_typed w i = (_, t_pi t_sort (t_pi (t_var refl) (eq_typed w (t_var refl) (t_var refl) (t_var refl))))

along_type_typed : {e : Env} → WfEnv e → (i j : ℕ) → (s : ℕ) × HasType e [] (along_type i j) (sort s)
along_type_typed w i j = (
  _,
  t_pi t_sort (t_pi (t_var refl) (t_pi (t_pi (t_var refl) (t_pi (eq_typed w (t_var refl) (t_var refl) (t_var refl)) t_sort))
      (t_pi (t_app (t_app (t_var refl) (t_var refl)) (refl_typed w (t_var refl) (t_var refl)))
      (t_pi (t_var refl) (t_pi (eq_typed w (t_var refl) (t_var refl) (t_var refl)) (t_app (t_app (t_var refl) (t_var refl)) (t_var refl))))))),
)

-- the types of heads
pub head_type_typed : {e : Env} → WfEnv e → (h : Head) {a : Term} → head_type_lem e h ≡ some a → (i : ℕ) × HasType e [] a (sort i)
head_type_typed {e} w (h_def i) {a} p = option-some (get_elem? e i) entry_type p λ d q r. at_entry d r (wf_entry w i q)
  where
    at_entry : (d : Entry) → entry_type d ≡ some a → WfEntry e d → (i : ℕ) × HasType e [] a (sort i)
    at_entry (defined t b) r s = (s.0, tr (λ z. HasType e [] z (sort s.0)) (some_inj r) s.1)
    at_entry (assumed b) r s = (s.0, tr (λ z. HasType e [] z (sort s.0)) (some_inj r) s.1)
    at_entry (inductive k) r s = none-some r
head_type_typed {e} w (h_data i) {a} p = option-some (data_at e i) (λ k. some (data_type k)) p λ k q r. tr (λ z. (s : ℕ) × HasType e [] z (sort s)) (some_inj r) (data_type_typed w i k q)
head_type_typed {e} w (h_con i n) {a} p =
    option-some (data_at e i) (λ k. option (get_elem? k.cons n) none (λ c. some (con_type i k c))) p λ k q r.
    option-some (get_elem? k.cons n) (λ c. some (con_type i k c)) r λ c x y. tr (λ z. (s : ℕ) × HasType e [] z (sort s)) (some_inj y) (con_type_typed w i k q n x)
head_type_typed {e} w (h_rec i j) {a} p = option-some (data_at e i) (λ k. some (rec_type i j k)) p λ k q r. tr (λ z. (s : ℕ) × HasType e [] z (sort s)) (some_inj r) (rec_type_typed w i k q j)
head_type_typed {e} w (h_eq i) p = tr (λ z. (s : ℕ) × HasType e [] z (sort s)) (some_inj p) (eq_type_typed i)
head_type_typed {e} w (h_refl i) p = tr (λ z. (s : ℕ) × HasType e [] z (sort s)) (some_inj p) (refl_type_typed w i)
head_type_typed {e} w (h_along i j) p = tr (λ z. (s : ℕ) × HasType e [] z (sort s)) (some_inj p) (along_type_typed w i j)
