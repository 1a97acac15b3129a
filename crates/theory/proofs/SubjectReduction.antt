-- A step keeps the type.
-- By recursion on the typing, so that conversion is nothing to do.
use Rattle.std.proofs.Common.{◌≡◌, sym, subst as tr, subst₂ as tr₂, List, [], ℕ}
use mathlib.Core.Option.{some}
use lib.ListN.{get_elem?}
use Rattle.theory.specs.Terms.{Head, h_def, h_data, h_con, h_rec, h_eq, h_refl, h_along, Term, sort, pi, lam, app, subst}
use Rattle.theory.specs.Environment.{Entry, defined, assumed, inductive, Env, entry_type, entry_body, head_type_lem}
use Rattle.theory.specs.Reduction.{delta, Step, contracts, unfolds, in_fun, in_arg, in_pi, under_pi, in_lam, under_lam, conv_refl, conv_back}
use Rattle.theory.specs.Typing.{HasType, t_var, t_head, t_sort, t_pi, t_lam, t_app, t_conv, WfEntry, WfEnv, WfContext, ctx_more}
use Rattle.theory.specs.Theorems.{SubjectReduction}
use Rattle.theory.proofs.Options.{none-some, some_inj, bind-some}
use Rattle.theory.proofs.Iota.{contract-some, IotaView, by_rec, by_along, iota_view}
use Rattle.theory.proofs.Conversion.{conv_sym, conv_pi, conv_subst, conv_subst_arg}
use Rattle.theory.proofs.Injectivity.{pi_inj}
use Rattle.theory.proofs.Generation.{lam_typed}
use Rattle.theory.proofs.Stability.{put_typed, typed_conv, typed_closed}
use Rattle.theory.proofs.EnvWeakening.{wf_entry}
use Rattle.theory.proofs.Validity.{valid}
use Rattle.theory.proofs.AlongTyped.{along_typed}
use Rattle.theory.proofs.RecTyped.{rec_typed}

-- the body of a definition is of its type
body_typed : (e : Env) (d : Entry) {t a : Term} → WfEntry e d → entry_body d ≡ some t → entry_type d ≡ some a → HasType e [] t a
body_typed e (defined t a) v p q = tr₂ (HasType e []) (some_inj p) (some_inj q) v.2
body_typed e (assumed a) v p q = none-some p
body_typed e (inductive k) v p q = none-some p

module _ {e : Env} (w : WfEnv e) where
  delta_typed : (h : Head) {t a : Term} → delta e h ≡ some t → head_type_lem e h ≡ some a → HasType e [] t a
  delta_typed (h_def i) p q = bind-some (get_elem? e i) entry_body p λ d r s. body_typed e d (wf_entry w i r) s (rw r at q)
  delta_typed (h_data i) p q = none-some p
  delta_typed (h_con i k) p q = none-some p
  delta_typed (h_rec i j) p q = none-some p
  delta_typed (h_eq i) p q = none-some p
  delta_typed (h_refl i) p q = none-some p
  delta_typed (h_along i j) p q = none-some p

  -- a function applied to its argument
  beta_typed : {g : List Term} {c m t a b : Term} {i : ℕ} → HasType e g (lam c m) (pi a b) → HasType e g t a → HasType e g (subst 0 t b) (sort i) → HasType e g (subst 0 t m) (subst 0 t b)
  beta_typed {t} p q v =
      let r = lam_typed p in
      let (x, y) = pi_inj w r.conv in
      t_conv (put_typed w r.body (t_conv q (conv_sym x) r.left)) (conv_subst w y 0 t) v

  -- a recursor or an elimination
  iota_typed : (g : List Term) (f a t b : Term) → WfContext e g → HasType e g (app f a) b → IotaView e f a t → HasType e g t b
  iota_typed g f a t b c p (by_rec i j h v) = rec_typed w g f a t b i j c p h v
  iota_typed g f a t b c p (by_along i j h v) = along_typed w (λ g t a c p. valid w p c) g f a t b i j c p h v

  pub preserved : {g : List Term} {t a : Term} → HasType e g t a → {u : Term} → Step e t u → WfContext e g → HasType e g u a
  preserved (t_var p) s c = elim s [ ]
  preserved (t_head {g} {h} p) (unfolds q) c = typed_closed (delta_typed h q p) g
  preserved t_sort s c = elim s [ ]
  preserved (t_pi p q) (in_pi s) c = t_pi (preserved p s c) (typed_conv w q p (conv_back s conv_refl))
  preserved (t_pi p q) (under_pi s) c = t_pi p (preserved q s (ctx_more c p))
  preserved (t_lam p q r) (in_lam s) c =
      t_conv (t_lam (preserved p s c) (typed_conv w q p (conv_back s conv_refl)) (typed_conv w r p (conv_back s conv_refl))) (conv_pi (conv_back s conv_refl) conv_refl) (t_pi p q)
  preserved (t_lam p q r) (under_lam s) c = t_lam p q (preserved r s (ctx_more c p))
  preserved (t_app p q) (in_fun s) c = t_app (preserved p s c) q
  preserved (t_app {b} p q) (in_arg s) c = t_conv (t_app p (preserved q s c)) (conv_subst_arg w b 0 (conv_back s conv_refl)) (valid w (t_app p q) c).1
  preserved (t_app {g} {f} {a} {b} {t} p q) (contracts {t = u} r) c =
      contract-some e f t r
      (λ d m x y. tr (λ z. HasType e g z (subst 0 t b)) (sym y) (beta_typed (tr (λ z. HasType e g z (pi a b)) x p) q (valid w (t_app p q) c).1))
      (λ i. iota_typed g f t u (subst 0 t b) c (t_app p q) (iota_view e f t u i))
  preserved (t_conv p x q) s c = t_conv (preserved p s c) x q

pub subject_reduction : SubjectReduction
subject_reduction e g t u a w c p s = preserved w p s c
