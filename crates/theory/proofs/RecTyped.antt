-- A step of a recursor keeps the type.
-- The arguments of the recursor and of the constructor are split as their types say, and the case is applied to the parts.
use Rattle.std.proofs.Common.{◌≡◌, sym, ap, ap₂, ◌∙◌, subst as tr, List, [], ◌++◌, reverse, ℕ, arith}
use mathlib.Core.Option.{some}
use lib.ListN.{get_elem?}
use Rattle.theory.specs.Terms.{h_data, h_con, h_rec, Term, const, app, apps}
use Rattle.theory.specs.Environment.{Env}
use Rattle.theory.specs.Reduction.{spine, last_arg, conv_refl, case_place, case_args}
use Rattle.theory.specs.Typing.{HasType, t_conv, WfEnv, WfContext}
use Rattle.theory.proofs.Options.{some_inj}
use Rattle.theory.proofs.Closed.{get_below}
use Rattle.theory.proofs.Iota.{RecView, spine_is}
use Rattle.theory.proofs.IotaStable.{pw_append}
use Rattle.theory.proofs.Conversion.{conv_trans, conv_eq, conv_app, conv_apps}
use Rattle.theory.proofs.Injectivity.{pw_conv_refl, pw_conv_sym}
use Rattle.theory.proofs.Validity.{valid}
use Rattle.theory.proofs.RecReduct.{get_case, last_is, reduct_is}
use Rattle.theory.proofs.RecSpine.{RecArgs, ConArgs, rec_args, con_args}
use Rattle.theory.proofs.CaseApplied.{apply_case}

module _ {e : Env} (w : WfEnv e) {g : List Term} (c : WfContext e g) (i j : ℕ) {as₁ : List Term} {t b : Term} (v : RecView e i j as₁ t) (p : HasType e g (apps (const (h_rec i j)) as₁) b) where
  arguments : RecArgs e g i j v.k as₁ b
  arguments = rec_args w i j v.k v.at as₁ v.len p

  step_typed : (r : RecArgs e g i j v.k as₁ b) → ConArgs e g i v.k v.c (spine v.s []).args r.ps → r.s ≡ v.s → HasType e g t b
  step_typed r q s_is =
      let m_at : get_elem? r.cs v.n ≡ some v.m =
      sym (ap (λ (z : List Term). get_elem? z (case_place v.k v.n)) r.is
      ∙ get_case r.ps r.m r.cs r.s v.n (case_place v.k v.n) (omega (arith, r.ps_length)) (omega (arith, r.cs_length, get_below v.k.cons v.n v.con))) ∙ v.case in
      let t_is : t ≡ _ =
      v.is ∙ ap₂ (λ x y. apps v.m (case_args i j v.k v.c x y)) r.is q.is
      ∙ reduct_is r.ps r.m r.cs r.s i j v.k v.c v.m q.qs q.fs q.rs r.ps_length r.cs_length q.qs_length q.fs_length in
      let con_is : v.s ≡ apps (const (h_con i v.n)) (q.qs ++ (q.fs ++ q.rs)) = spine_is v.s [] v.head ∙ ap (apps (const (h_con i v.n))) q.is in
      let typed = apply_case i v.n r.ps r.m v.c.recs (reverse r.ps) v.c.fields _ v.m q.fs q.rs
      (r.case v.n v.c v.m v.con m_at) q.fields q.recs q.rs_length r.self in
      t_conv (tr (λ z. HasType e g z (app r.m (apps (const (h_con i v.n)) (r.ps ++ (q.fs ++ q.rs))))) (sym t_is) typed)
      (conv_trans (conv_app conv_refl (conv_trans (conv_apps (pw_append (pw_conv_sym q.params) (pw_conv_refl (q.fs ++ q.rs))) conv_refl) (conv_eq (sym con_is ∙ sym s_is)))) r.conv)
      (valid w p c).1

  pub rec_step_typed : HasType e g t b
  rec_step_typed =
      let s_is : arguments.s ≡ v.s = some_inj (sym (last_is arguments.ps arguments.m arguments.cs arguments.s) ∙ ap last_arg (sym arguments.is) ∙ v.last) in
      step_typed arguments
      (con_args w i v.n v.k v.at v.con arguments.args (spine v.s []).args v.full
      (tr (λ z. HasType e g z (apps (const (h_data i)) arguments.ps)) (s_is ∙ spine_is v.s [] v.head) arguments.target))
      s_is

pub rec_typed : {e : Env} → WfEnv e → (g : List Term) (f a t b : Term) (i j : ℕ) → WfContext e g → HasType e g (app f a) b → (spine (app f a) []).head ≡ some (h_rec i j) → RecView e i j (spine (app f a) []).args t → HasType e g t b
rec_typed {e} w g f a t b i j c p h v = rec_step_typed w c i j v (tr (λ z. HasType e g z b) (spine_is (app f a) [] h) p)
