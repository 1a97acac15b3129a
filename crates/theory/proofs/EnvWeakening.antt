-- One more entry of the environment changes no step, no conversion and no typing.
-- Hence every entry of a well-formed environment is well-formed in the whole of it.
use Rattle.std.proofs.Common.{◌≡◌, sym, ap, subst as tr, List, [], ◌∷◌, ◌++◌, ℕ}
use mathlib.Core.Option.{some, none}
use lib.ListN.{get_elem?}
use Rattle.theory.specs.Terms.{Head, h_def, h_data, h_con, h_rec, h_eq, h_refl, h_along, Term, option}
use Rattle.theory.specs.Environment.{Constructor, DataType, Entry, defined, assumed, inductive, Env, entry_type, entry_body, entry_data, data_at, data_type, con_type, rec_type, head_type_lem}
use Rattle.theory.specs.Reduction.{contract, delta, Step, contracts, unfolds, in_fun, in_arg, in_pi, under_pi, in_lam, under_lam, Conv, conv_refl, conv_step, conv_back}
use Rattle.theory.specs.Typing.{HasType, t_var, t_head, t_sort, t_pi, t_lam, t_app, t_conv, Telescope, tel_end, tel_more, Bounded, bnd_end, bnd_more, extend, AllBounded, WfEntry, WfEnv, env_end, env_more}
use Rattle.theory.specs.Theorems.{EnvWeakening}
use Rattle.theory.proofs.Options.{none-some, bind-some, option-some}
use Rattle.theory.proofs.Closed.{get_snoc}
use Rattle.theory.proofs.Iota.{IotaView, by_rec, by_along, iota_view, iota_view_out, iota_contract, contract-some}
use Rattle.theory.proofs.Stability.{get_more}

module _ (e : Env) (d : Entry) where
  abbrev more : Env
  more = e ++ (d ∷ [])

  data_more : (i : ℕ) {k : DataType} → data_at e i ≡ some k → data_at more i ≡ some k
  data_more i p = option-some (get_elem? e i) entry_data p λ x q r. rw (get_more e (d ∷ []) i q) r

  head_type_more : (h : Head) {a : Term} → head_type_lem e h ≡ some a → head_type_lem more h ≡ some a
  head_type_more (h_def i) p = option-some (get_elem? e i) entry_type p λ x q r. rw (get_more e (d ∷ []) i q) r
  head_type_more (h_data i) p = option-some (data_at e i) (λ k. some (data_type k)) p λ k q r. rw (data_more i q) r
  head_type_more (h_con i n) p = option-some (data_at e i) (λ k. option (get_elem? k.cons n) none (λ c. some (con_type i k c))) p λ k q r. rw (data_more i q) r
  head_type_more (h_rec i j) p = option-some (data_at e i) (λ k. some (rec_type i j k)) p λ k q r. rw (data_more i q) r
  head_type_more (h_eq i) p = p
  head_type_more (h_refl i) p = p
  head_type_more (h_along i j) p = p

  delta_more : (h : Head) {a : Term} → delta e h ≡ some a → delta more h ≡ some a
  delta_more (h_def i) p = bind-some (get_elem? e i) entry_body p λ x q r. rw (get_more e (d ∷ []) i q) r
  delta_more (h_data i) p = p
  delta_more (h_con i n) p = p
  delta_more (h_rec i j) p = p
  delta_more (h_eq i) p = p
  delta_more (h_refl i) p = p
  delta_more (h_along i j) p = p

  view_more : {f a t : Term} → IotaView e f a t → IotaView more f a t
  view_more (by_rec i j q v) =
      by_rec i j q (record { k = v.k; at = data_more i v.at; len = v.len; s = v.s; last = v.last; n = v.n; head = v.head; c = v.c; con = v.con; full = v.full; m = v.m; case = v.case; is = v.is })
  view_more (by_along i j q v) = by_along i j q v

  contract_more : (f a : Term) {t : Term} → contract e f a ≡ some t → contract more f a ≡ some t
  contract_more f a {t} p =
      contract-some e f a p
      (λ b c q r. tr (λ z. contract more z a ≡ some t) (sym q) (ap some (sym r)))
      (λ q. iota_contract more f a t (iota_view_out more f a t (view_more (iota_view e f a t q))))

  step_more : {t u : Term} → Step e t u → Step more t u
  step_more (contracts {f} {a} p) = contracts (contract_more f a p)
  step_more (unfolds {h} p) = unfolds (delta_more h p)
  step_more (in_fun s) = in_fun (step_more s)
  step_more (in_arg s) = in_arg (step_more s)
  step_more (in_pi s) = in_pi (step_more s)
  step_more (under_pi s) = under_pi (step_more s)
  step_more (in_lam s) = in_lam (step_more s)
  step_more (under_lam s) = under_lam (step_more s)

  conv_more : {t u : Term} → Conv e t u → Conv more t u
  conv_more conv_refl = conv_refl
  conv_more (conv_step s p) = conv_step (step_more s) (conv_more p)
  conv_more (conv_back s p) = conv_back (step_more s) (conv_more p)

  pub typed_more : {g : List Term} {t a : Term} → HasType e g t a → HasType more g t a
  typed_more (t_var p) = t_var p
  typed_more (t_head {h} p) = t_head (head_type_more h p)
  typed_more t_sort = t_sort
  typed_more (t_pi p q) = t_pi (typed_more p) (typed_more q)
  typed_more (t_lam p q r) = t_lam (typed_more p) (typed_more q) (typed_more r)
  typed_more (t_app p q) = t_app (typed_more p) (typed_more q)
  typed_more (t_conv p s q) = t_conv (typed_more p) (conv_more s) (typed_more q)

  telescope_more : {g as₁ : List Term} → Telescope e g as₁ → Telescope more g as₁
  telescope_more tel_end = tel_end
  telescope_more (tel_more p q) = tel_more (typed_more p) (telescope_more q)

  bounded_more : {n : ℕ} {g as₁ : List Term} → Bounded e n g as₁ → Bounded more n g as₁
  bounded_more bnd_end = bnd_end
  bounded_more (bnd_more p l q) = bnd_more (typed_more p) l (bounded_more q)

  all_bounded_more : (n : ℕ) (g : List Term) (cs : List Constructor) → AllBounded e n g cs → AllBounded more n g cs
  all_bounded_more n g [] p = tt
  all_bounded_more n g (c ∷ cs) p = (bounded_more p.0, all_bounded_more n g cs p.1)

  entry_more : (c : Entry) → WfEntry e c → WfEntry more c
  entry_more (defined t a) p = (p.0, typed_more p.1, typed_more p.2)
  entry_more (assumed a) p = (p.0, typed_more p.1)
  entry_more (inductive k) p = (telescope_more p.0, all_bounded_more k.level (extend [] k.params) k.cons p.1)

pub env_weakening : EnvWeakening
env_weakening e d g t a w r p = typed_more e d p

-- entries are well-formed in the whole environment
pub wf_entry : {e : Env} → WfEnv e → (i : ℕ) {d : Entry} → get_elem? e i ≡ some d → WfEntry e d
wf_entry env_end i p = none-some p
wf_entry (env_more {e} c w r) i {d} p = get_snoc e c i p (λ q. entry_more e c d (wf_entry w i q)) (λ q s. entry_more e c d (tr (WfEntry e) s r))
