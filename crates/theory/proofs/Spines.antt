-- What the typing of a head applied to arguments says of the arguments.
-- Arguments for a telescope are split off; their types are those of the telescope with the arguments before them put in.
use Rattle.std.proofs.Common.{◌≡◌, sym, ◌∙◌, List, [], ◌∷◌, ◌++◌, ℕ, length, arith}
use mathlib.Core.List.{reverse_aux}
use mathlib.Core.Option.{some}
use Rattle.theory.specs.Terms.{Head, Term, const, sort, pi, app, subst, subst_all, apps, pis}
use Rattle.theory.specs.Environment.{Env, head_type_lem}
use Rattle.theory.specs.Reduction.{Conv, conv_refl}
use Rattle.theory.specs.Typing.{HasType, t_conv, Telescope, tel_end, tel_more, WfEnv}
use Rattle.theory.proofs.Options.{some_inj}
use Rattle.theory.proofs.SubstAll.{subst-subst_all, Substitution, sub_more}
use Rattle.theory.proofs.Conversion.{conv_trans, conv_sym, conv_eq, conv_subst}
use Rattle.theory.proofs.Injectivity.{pi_inj}
use Rattle.theory.proofs.Generation.{head_typed, app_typed}
use Rattle.theory.proofs.Stability.{typed_subst_all}
use Rattle.theory.proofs.Telescopes.{Args, args_end, args_more}

-- what is of type c, applied to the arguments, is of type d
pub data Spined (e : Env) (g : List Term) : Term → List Term → Term → Type 0 where
  sp_end : {c d : Term} → Conv e c d → Spined e g c [] d
  sp_more : {a b c d t : Term} {ts : List Term} → Conv e c (pi a b) → HasType e g t a → Spined e g (subst 0 t b) ts d → Spined e g c (t ∷ ts) d

pub spined_conv : {e : Env} {g : List Term} {b c d : Term} {ts : List Term} → Conv e b c → Spined e g c ts d → Spined e g b ts d
spined_conv s (sp_end p) = sp_end (conv_trans s p)
spined_conv s (sp_more p q r) = sp_more (conv_trans s p) q r

-- the typing of an application to arguments
apps_spined : {e : Env} {g : List Term} (f : Term) (ts : List Term) {d : Term} → HasType e g (apps f ts) d → (c : Term) × HasType e g f c × Spined e g c ts d
apps_spined f [] {d} p = (d, p, sp_end conv_refl)
apps_spined f (t ∷ ts) p =
    let (c, q, s) = apps_spined (app f t) ts p in
    let r = app_typed q in
    (pi r.a r.b, r.fun, sp_more conv_refl r.arg (spined_conv r.conv s))

pub head_spined : {e : Env} {g : List Term} (h : Head) (ts : List Term) {a d : Term} → HasType e g (apps (const h) ts) d → head_type_lem e h ≡ some a → Spined e g a ts d
head_spined h ts p q =
    let (c, r, s) = apps_spined (const h) ts p in
    let x = head_typed r in
    spined_conv (conv_trans (conv_eq (some_inj (sym q ∙ x.at))) x.conv) s

-- one argument for a function type whose domain is of a sort
pub spined_next : {e : Env} → WfEnv e → {g : List Term} {c d a b t : Term} {ts : List Term} {i : ℕ} → Spined e g c (t ∷ ts) d → Conv e c (pi a b) → HasType e g a (sort i) → HasType e g t a × Spined e g (subst 0 t b) ts d
spined_next w {t} (sp_more p q r) s k =
    let (x, y) = pi_inj w (conv_trans (conv_sym p) s) in
    (t_conv q x k, spined_conv (conv_sym (conv_subst w y 0 t)) r)

-- arguments for a telescope
pub spined_args : {e : Env} → WfEnv e → {d as₁ : List Term} → Telescope e d as₁ → {g us : List Term} → Substitution e g us d → (ts rest : List Term) (b : Term) {c x : Term} → length ts ≡ length as₁
    → Spined e g c (ts ++ rest) x → Conv e c (subst_all us 0 (pis as₁ b)) → Args e g us as₁ ts × Spined e g (subst_all (reverse_aux ts us) 0 b) rest x
spined_args w tel_end s [] rest b l p k = (args_end, spined_conv (conv_sym k) p)
spined_args w tel_end s (t ∷ ts) rest b l p k = absurd (omega arith)
spined_args w (tel_more q r) s [] rest b l p k = absurd (omega arith)
spined_args w (tel_more {as₁} {a} q r) {us} s (t ∷ ts) rest b l p k =
    let (h, n) = spined_next w p k (typed_subst_all w q s) in
    let (x, y) = spined_args w r (sub_more s h) ts rest b (omega arith) n (conv_eq (subst-subst_all (pis as₁ b) t us 0)) in
    (args_more h x, y)
