-- The elimination step keeps the type: on reflexivity the two ends of the equality are convertible, and so are the type of the
-- case and the type of the elimination.
use Rattle.std.proofs.Common.{◌≡◌, refl, sym, ap, ◌∙◌, subst as tr, List, [], ◌∷◌, ℕ, length, arith}
use mathlib.Core.List.{reverse_aux}
use mathlib.Core.Option.{some}
use lib.ListN.{get_elem?}
use Rattle.theory.specs.Terms.{Head, h_refl, h_along, Term, var, const, sort, pi, app, lift, subst_all, apps, pis}
use Rattle.theory.specs.Environment.{Env, eq_of, refl_of, head_type_lem}
use Rattle.theory.specs.Reduction.{spine, last_arg, Conv, conv_refl}
use Rattle.theory.specs.Typing.{HasType, t_conv, WfEnv, WfContext}
use Rattle.theory.proofs.Options.{some_inj}
use Rattle.theory.proofs.Iota.{spine_is, AlongView}
use Rattle.theory.proofs.SubstAll.{subst-subst_all}
use Rattle.theory.proofs.Conversion.{conv_trans, conv_sym, conv_eq, conv_app, conv_subst}
use Rattle.theory.proofs.Injectivity.{pi_inj, eq_inj}
use Rattle.theory.proofs.Spines.{Spined, sp_end, sp_more, head_spined}

-- What an elimination takes: a type, an end of the equality, the motive, the case, the other end, the equality.
abbrev along_takes : ℕ → ℕ → List Term
along_takes i j =
    sort i ∷ var 0 ∷ pi (var 1) (pi (eq_of i (var 2) (var 1) (var 0)) (sort j)) ∷ app (app (var 0) (var 1)) (refl_of i (var 2) (var 1))
    ∷ var 3 ∷ eq_of i (var 4) (var 3) (var 0) ∷ []

-- The arguments ts have types convertible to those of the telescope as₁, whose context us is put for.
data Takes (e : Env) (g : List Term) : List Term → List Term → List Term → Type 0 where
  takes_end : {us : List Term} → Takes e g us [] []
  takes_more : {us as₁ ts : List Term} {a t c : Term} → HasType e g t c → Conv e c (subst_all us 0 a) → Takes e g (t ∷ us) as₁ ts → Takes e g us (a ∷ as₁) (t ∷ ts)

-- On reflexivity the type of the case, f x (refl x), and that of the elimination, f y p, are convertible.
types_meet : {e : Env} → WfEnv e → {i k : ℕ} {a x f y p c z s b : Term} → Conv e s (app (app f x) (refl_of i a x)) → Conv e (eq_of i a x y) (eq_of k c z z) → p ≡ refl_of k c z → Conv e b (app (app f y) p) → Conv e s b
types_meet wf case_is eqs p_is whole_is =
    let (same, on_type, left, right) = eq_inj wf eqs in
    conv_trans case_is (conv_trans
    (conv_app (conv_app conv_refl (conv_trans left (conv_sym right))) (conv_trans (conv_app (conv_app (conv_eq (ap (λ n. const (h_refl n)) same)) on_type) left) (conv_eq (sym p_is))))
    (conv_sym whole_is))

module _ {e : Env} (wf : WfEnv e) {g : List Term} where
  -- What a head takes whose type is a function type over a telescope, and the type of the whole.
  takes : (us as₁ ts : List Term) (b : Term) {c d : Term} → length ts ≡ length as₁ → Spined e g c ts d → Conv e c (subst_all us 0 (pis as₁ b))
      → Takes e g us as₁ ts × Conv e d (subst_all (reverse_aux ts us) 0 b)
  takes us [] [] b l (sp_end p) q = (takes_end, conv_trans (conv_sym p) q)
  takes us [] (t ∷ ts) b l s q = absurd (omega arith)
  takes us (a ∷ as₁) [] b l s q = absurd (omega arith)
  takes us (a ∷ as₁) (t ∷ ts) b l (sp_more p h s) q =
      let (left, right) = pi_inj wf (conv_trans (conv_sym p) q) in
      let (rest, whole) = takes (t ∷ us) as₁ ts b (omega arith) s (conv_trans (conv_subst wf right 0 t) (conv_eq (subst-subst_all (pis as₁ b) t us 0))) in
      (takes_more h left rest, whole)

  head_takes : (h : Head) (as₁ ts : List Term) (b : Term) {d : Term} → head_type_lem e h ≡ some (pis as₁ b) → pis as₁ b ≡ subst_all [] 0 (pis as₁ b) → length ts ≡ length as₁
      → HasType e g (apps (const h) ts) d → Takes e g [] as₁ ts × Conv e d (subst_all (reverse_aux ts []) 0 b)
  head_takes h as₁ ts b p closed l r = takes [] as₁ ts b l (head_spined h ts r p) (conv_eq closed)

  -- The type of reflexivity.
  refl_typed : {i : ℕ} {ts : List Term} {c : Term} → Takes e g [] (sort i ∷ var 0 ∷ []) ts → Conv e c (subst_all (reverse_aux ts []) 0 (eq_of i (var 1) (var 0) (var 0)))
      → (a x : Term) × (ts ≡ a ∷ x ∷ []) × Conv e c (eq_of i (lift 0 0 a) (lift 0 0 x) (lift 0 0 x))
  refl_typed (takes_more {t = a} _ _ (takes_more {t = x} _ _ takes_end)) q = (a, x, refl, q)

  reflexivity : (i : ℕ) (t : Term) {c : Term} → (spine t []).head ≡ some (h_refl i) → length (spine t []).args ≡ 2 → HasType e g t c
      → (a x : Term) × (t ≡ refl_of i a x) × Conv e c (eq_of i (lift 0 0 a) (lift 0 0 x) (lift 0 0 x))
  reflexivity i t {c} head l h =
      let is = spine_is t [] head in
      let (ts, q) = head_takes (h_refl i) (sort i ∷ var 0 ∷ []) (spine t []).args (eq_of i (var 1) (var 0) (var 0)) refl refl l (tr (λ z. HasType e g z c) is h) in
      let (a, x, args_are, r) = refl_typed ts q in
      (a, x, is ∙ ap (apps (const (h_refl i))) args_are, r)

  -- The case of an elimination on reflexivity has the type of the elimination.
  along_case : {i j : ℕ} {ts : List Term} {b : Term} → Takes e g [] (along_takes i j) ts → Conv e b (subst_all (reverse_aux ts []) 0 (app (app (var 3) (var 1)) (var 0)))
      → (k : ℕ) (s t : Term) → last_arg ts ≡ some s → (spine s []).head ≡ some (h_refl k) → length (spine s []).args ≡ 2 → get_elem? ts 3 ≡ some t
      → (c : Term) × HasType e g t c × Conv e c b
  along_case (takes_more _ _ (takes_more _ _ (takes_more _ _ (takes_more {t = d} {c} case_typed case_is (takes_more _ _ (takes_more {t = p} {c = q} p_typed p_is takes_end)))))) whole_is k s t last head full is =
      let (a, x, s_is, eq) = reflexivity k s head full (tr (λ z. HasType e g z q) (some_inj last) p_typed) in
      (c, tr (λ z. HasType e g z c) (some_inj is) case_typed, types_meet wf case_is (conv_trans (conv_sym p_is) eq) (ap (lift 0 0) (some_inj last ∙ s_is)) whole_is)

pub along_typed : {e : Env} → WfEnv e → ((g : List Term) (t a : Term) → WfContext e g → HasType e g t a → (i : ℕ) × HasType e g a (sort i))
    → (g : List Term) (f a t b : Term) (i j : ℕ) → WfContext e g → HasType e g (app f a) b
    → (spine (app f a) []).head ≡ some (h_along i j) → AlongView (spine (app f a) []).args t → HasType e g t b
along_typed {e} wf valid g f a t b i j ctx h head v =
    let (ts, q) = head_takes wf (h_along i j)
    (along_takes i j) (spine (app f a) []).args (app (app (var 3) (var 1)) (var 0)) refl refl v.len (tr (λ z. HasType e g z b) (spine_is (app f a) [] head) h) in
    let (c, r, conv) = along_case wf ts q v.i v.s t v.last v.head v.full v.is in
    t_conv r conv (valid g (app f a) b ctx h).1
