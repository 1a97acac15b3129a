-- Arguments that fit a telescope, and what the typing of a spine says of its arguments.
-- The substitution grows with the arguments, so that the telescope is never rewritten.
use Rattle.std.proofs.Common.{◌≡◌, refl, sym, ap, ap₂, ◌∙◌, subst as tr, subst₂ as tr₂, List, [], ◌∷◌, reverse, ℕ, zero, suc, ◌+◌, ◌-◌, ◌≤◌, ◌<◌, max, length, ltb, arith, ltb-true, ltb-false}
use mathlib.Core.List.{reverse_aux}
use mathlib.Core.Option.{some}
use lib.ListN.{get_elem?}
use Rattle.theory.specs.Terms.{Term, var, const, sort, pi, lam, app, option, lift, subst_all, apps, pis}
use Rattle.theory.specs.Environment.{Env, vars, up, ups}
use Rattle.theory.specs.Reduction.{Conv, conv_refl}
use Rattle.theory.specs.Typing.{HasType, t_var, t_pi, t_app, t_conv, Telescope, tel_end, tel_more, Bounded, bnd_end, bnd_more, extend, WfEnv, WfContext, ctx_end, ctx_more}
use Rattle.theory.proofs.Options.{none-some, some_inj, cases_bool}
use Rattle.theory.proofs.Indices.{lift_above, lift-zero, lift_merge}
use Rattle.theory.proofs.IotaStable.{Pairwise, pw_more}
use Rattle.theory.proofs.Closed.{Scoped, typed_scoped}
use Rattle.theory.proofs.SubstAll.{subst_all_below, subst_all_above, up_var, subst-subst_all, reverse-vars, Substitution, sub_end, sub_more}
use Rattle.theory.proofs.Stability.{weaken, typed_subst_all, substitution_weaken, up-subst_all}
use Rattle.theory.proofs.Conversion.{conv_subst_all_arg}

-- arguments ts for the telescope as₁, whose context us is put for
pub data Args (e : Env) (g : List Term) : List Term → List Term → List Term → Type 0 where
  args_end : {us : List Term} → Args e g us [] []
  args_more : {us as₁ ts : List Term} {a t : Term} → HasType e g t (subst_all us 0 a) → Args e g (t ∷ us) as₁ ts → Args e g us (a ∷ as₁) (t ∷ ts)

pub args-length : {e : Env} {g us as₁ ts : List Term} → Args e g us as₁ ts → length ts ≡ length as₁
args-length args_end = refl
args-length (args_more p q) = ap suc (args-length q)

pub args_weaken : {e : Env} → WfEnv e → {g us as₁ ts : List Term} (b : Term) → Args e g us as₁ ts → Args e (b ∷ g) (ups us) as₁ (ups ts)
args_weaken w b args_end = args_end
args_weaken {e} w {g} b (args_more {us} {a} {t} p q) = args_more (tr (HasType e (b ∷ g) (up t)) (up-subst_all a us) (weaken w b p)) (args_weaken w b q)

-- they make the substitution for the longer context, and each such substitution is made of them
pub substitution_args : {e : Env} {g d us as₁ ts : List Term} → Substitution e g us d → Args e g us as₁ ts → Substitution e g (reverse_aux ts us) (extend d as₁)
substitution_args s args_end = s
substitution_args s (args_more p q) = substitution_args (sub_more s p) q

sub_tail : {e : Env} {g us d : List Term} {u a : Term} → Substitution e g (u ∷ us) (a ∷ d) → Substitution e g us d × HasType e g u (subst_all us 0 a)
sub_tail (sub_more s p) = (s, p)

pub args_of : {e : Env} {g : List Term} (d us as₁ ts : List Term) → length ts ≡ length as₁ → Substitution e g (reverse_aux ts us) (extend d as₁) → Substitution e g us d × Args e g us as₁ ts
args_of d us [] [] l s = (s, args_end)
args_of d us [] (t ∷ ts) l s = absurd (omega arith)
args_of d us (a ∷ as₁) [] l s = absurd (omega arith)
args_of d us (a ∷ as₁) (t ∷ ts) l s =
    let r = args_of (a ∷ d) (t ∷ us) as₁ ts (omega arith) s in
    let h = sub_tail r.0 in
    (h.0, args_more h.1 r.1)

-- a function of a telescope applied to them
pub apply_args : {e : Env} {g us as₁ ts : List Term} → Args e g us as₁ ts → {f : Term} (c : Term) → HasType e g f (subst_all us 0 (pis as₁ c)) → HasType e g (apps f ts) (subst_all (reverse_aux ts us) 0 c)
apply_args args_end c p = p
apply_args {e} {g} (args_more {us} {as₁} {t} q r) {f} c p = apply_args r c (tr (HasType e g (app f t)) (subst-subst_all (pis as₁ c) t us 0) (t_app p q))

-- they fit with convertible terms put for the context
pub args_conv : {e : Env} → WfEnv e → {g us vs d as₁ ts : List Term} → Args e g us as₁ ts → Telescope e d as₁ → Substitution e g vs d → Pairwise (Conv e) us vs → Args e g vs as₁ ts
args_conv w args_end tel_end s c = args_end
args_conv w (args_more {a} p q) (tel_more r t) s c =
    let h = t_conv p (conv_subst_all_arg w c 0 a) (typed_subst_all w r s) in args_more h (args_conv w q t (sub_more s h) (pw_more conv_refl c))

-- the function type over a telescope is of a sort
pub pis_typed : {e : Env} {g as₁ : List Term} → Telescope e g as₁ → {b : Term} {j : ℕ} → HasType e (extend g as₁) b (sort j) → (i : ℕ) × HasType e g (pis as₁ b) (sort i)
pis_typed tel_end {j} p = (j, p)
pis_typed (tel_more {i} q r) p = let h = pis_typed r p in (max i h.0, t_pi q h.1)

pub extend_context : {e : Env} {g as₁ : List Term} → WfContext e g → Telescope e g as₁ → WfContext e (extend g as₁)
extend_context w tel_end = w
extend_context w (tel_more p q) = extend_context (ctx_more w p) q

pub bounded_telescope : {e : Env} {n : ℕ} {g as₁ : List Term} → Bounded e n g as₁ → Telescope e g as₁
bounded_telescope bnd_end = tel_end
bounded_telescope (bnd_more p l q) = tel_more p (bounded_telescope q)

pub weaken_extend : {e : Env} → WfEnv e → (as₁ : List Term) {g : List Term} {t a : Term} → HasType e g t a → HasType e (extend g as₁) (lift 0 (length as₁) t) (lift 0 (length as₁) a)
weaken_extend {e} w [] {g} {t} {a} p = tr₂ (HasType e g) (sym (lift-zero t 0)) (sym (lift-zero a 0)) p
weaken_extend {e} w (b ∷ as₁) {g} {t} {a} p =
    tr₂ (HasType e (extend (b ∷ g) as₁)) (lift_merge t 0 1 0 (length as₁) (suc (length as₁)) (omega arith) (omega arith) (omega arith)) (lift_merge a 0 1 0 (length as₁) (suc (length as₁)) (omega arith) (omega arith) (omega arith)) (weaken_extend w as₁ (weaken w b p))

-- the variables of a context, put for themselves
get_vars : (n x : ℕ) → x < n → get_elem? (reverse (vars n 0)) x ≡ some (var x)
get_vars zero x p = absurd (omega arith)
get_vars (suc n) zero p = ap (λ ts. get_elem? ts 0) (reverse-vars n)
get_vars (suc n) (suc x) p = ap (λ ts. get_elem? ts (suc x)) (reverse-vars n) ∙ get_ups (reverse (vars n 0)) x (get_vars n x (omega arith))
  where
    get_ups : (ts : List Term) (y : ℕ) → get_elem? ts y ≡ some (var x) → get_elem? (ups ts) y ≡ some (var (suc x))
    get_ups [] y q = none-some q
    get_ups (t ∷ ts) zero q = ap some (ap up (some_inj q) ∙ up_var x (suc x) refl)
    get_ups (t ∷ ts) (suc y) q = get_ups ts y q

subst_all_self : (t : Term) (n k m : ℕ) → Scoped m t → m ≡ n + k → subst_all (reverse (vars n 0)) k t ≡ t
subst_all_self (var x) n k m s p =
    cases_bool (ltb x k) (λ q. subst_all_below (reverse (vars n 0)) (ltb-true x k q))
    (λ q. let z : k ≤ x = ltb-false x k q in
    subst_all_above (reverse (vars n 0)) k x (x - k) (omega arith) ∙ ap (λ o. option o (sort 0) (lift 0 k)) (get_vars n (x - k) (omega arith)) ∙ lift_above {c = 0} {x = x - k} k x (omega arith) (omega arith))
subst_all_self (const h) n k m s p = refl
subst_all_self (sort i) n k m s p = refl
subst_all_self (pi a b) n k m s p = ap₂ pi (subst_all_self a n k m s.0 p) (subst_all_self b n (suc k) (suc m) s.1 (omega arith))
subst_all_self (lam a b) n k m s p = ap₂ lam (subst_all_self a n k m s.0 p) (subst_all_self b n (suc k) (suc m) s.1 (omega arith))
subst_all_self (app f a) n k m s p = ap₂ app (subst_all_self f n k m s.0 p) (subst_all_self a n k m s.1 p)

pub substitution_self : {e : Env} → WfEnv e → {g : List Term} → WfContext e g → Substitution e g (reverse (vars (length g) 0)) g
substitution_self w ctx_end = sub_end
substitution_self {e} w (ctx_more {g} {a} c p) =
    tr (λ us. Substitution e (a ∷ g) us (a ∷ g)) (sym (reverse-vars (length g)))
    (sub_more (substitution_weaken w a (substitution_self w c))
    (tr (HasType e (a ∷ g) (var 0)) (ap up (sym (subst_all_self a (length g) 0 (length g) (typed_scoped p) (omega arith))) ∙ up-subst_all a (reverse (vars (length g) 0))) (t_var refl)))
