-- The case of a constructor applied to the fields, to the recursive fields and to the results for these.
-- Its type is then the motive at the constructor.
use Rattle.std.proofs.Common.{◌≡◌, refl, sym, ap₂, ◌∙◌, subst as tr, subst₂ as tr₂, List, [], ◌∷◌, ◌++◌, append_assoc, append-nil, ℕ, zero, suc, length, arith}
use Rattle.theory.specs.Terms.{h_data, h_con, Term, var, const, pi, app, apps}
use Rattle.theory.specs.Environment.{Env, up, hypotheses, case_recs, case_type}
use Rattle.theory.specs.Reduction.{app_each}
use Rattle.theory.specs.Typing.{HasType, t_app}
use Rattle.theory.proofs.Indices.{lift-zero}
use Rattle.theory.proofs.SubstAll.{subst-up, apps_append}
use Rattle.theory.proofs.Naturality.{subst-hypotheses, subst-case_recs, subst-case_type}
use Rattle.theory.proofs.Telescopes.{Args, args_end, args_more}
use Rattle.theory.proofs.HeadTypes.{AllOf, all_end, all_more}

module _ {e : Env} {g : List Term} where
  -- fields
  apply_fields : (i k : ℕ) (ps : List Term) (c : Term) (n : ℕ) {us as₁ ts : List Term} → Args e g us as₁ ts → (q : List Term) (f : Term)
      → HasType e g f (case_type i k ps c us q as₁ n) → HasType e g (apps f ts) (case_recs i k ps c (q ++ ts) [] n)
  apply_fields i k ps c n args_end q f p = tr (λ z. HasType e g f (case_recs i k ps c z [] n)) (sym (append-nil q)) p
  apply_fields i k ps c n (args_more {us} {as₁} {ts} {t} x y) q f p =
      tr (λ z. HasType e g (apps (app f t) ts) (case_recs i k ps c z [] n)) (append_assoc q (t ∷ []) ts)
      (apply_fields i k ps c n y (q ++ (t ∷ [])) (app f t) (tr (HasType e g (app f t)) (subst-case_type i k ps c us q as₁ n t) (t_app p x)))

  -- recursive fields
  apply_recs : (i k : ℕ) (ps : List Term) (c : Term) (n : ℕ) {rs : List Term} → AllOf e g (apps (const (h_data i)) ps) rs → length rs ≡ n → (q ss : List Term) (f : Term)
      → HasType e g f (case_recs i k ps c q ss n) → HasType e g (apps f rs) (hypotheses c (ss ++ rs) 0 (app c (apps (const (h_con i k)) (ps ++ (q ++ rs)))))
  apply_recs i k ps c zero all_end l q ss f p =
      tr₂ (λ x y. HasType e g f (hypotheses c x 0 (app c (apps (const (h_con i k)) (ps ++ y))))) (sym (append-nil ss)) (sym (append-nil q)) p
  apply_recs i k ps c (suc n) all_end l q ss f p = absurd (omega arith)
  apply_recs i k ps c zero (all_more x y) l q ss f p = absurd (omega arith)
  apply_recs i k ps c (suc n) (all_more {t} {ts} x y) l q ss f p =
      tr₂ (λ a b. HasType e g (apps (app f t) ts) (hypotheses c a 0 (app c (apps (const (h_con i k)) (ps ++ b))))) (append_assoc ss (t ∷ []) ts) (append_assoc q (t ∷ []) ts)
      (apply_recs i k ps c n y (omega arith) (q ++ (t ∷ [])) (ss ++ (t ∷ [])) (app f t) (tr (HasType e g (app f t)) (subst-case_recs i k ps c q ss n t) (t_app p x)))

  -- the results for the recursive fields
  apply_results : (a c r : Term) → HasType e g r (pi a (app (up c) (var 0))) → {rs : List Term} → AllOf e g a rs → (f t : Term)
      → HasType e g f (hypotheses c rs 0 t) → HasType e g (apps f (app_each r rs)) t
  apply_results a c r v all_end f t p = tr (HasType e g f) (lift-zero t 0) p
  apply_results a c r v (all_more {t = s} {ts} x y) f t p =
      apply_results a c r v y (app f (app r s)) t
      (tr (HasType e g (app f (app r s))) (subst-hypotheses c ts t (app r s) 0 1 0 (omega arith) refl)
      (t_app p (tr (HasType e g (app r s)) (ap₂ app (subst-up s c) (lift-zero s 0) ∙ sym (lift-zero (app c s) 0)) (t_app v x))))

  -- all of them
  pub apply_case : (i k : ℕ) (ps : List Term) (c : Term) (n : ℕ) (us as₁ : List Term) (r f : Term) (fs rs : List Term)
      → HasType e g f (case_type i k ps c us [] as₁ n) → Args e g us as₁ fs → AllOf e g (apps (const (h_data i)) ps) rs → length rs ≡ n
      → HasType e g r (pi (apps (const (h_data i)) ps) (app (up c) (var 0)))
      → HasType e g (apps f ((fs ++ rs) ++ app_each r rs)) (app c (apps (const (h_con i k)) (ps ++ (fs ++ rs))))
  apply_case i k ps c n us as₁ r f fs rs p a b l v =
      tr (λ z. HasType e g z (app c (apps (const (h_con i k)) (ps ++ (fs ++ rs))))) (sym (apps_append f (fs ++ rs) (app_each r rs)))
      (apply_results (apps (const (h_data i)) ps) c r v b (apps f (fs ++ rs)) (app c (apps (const (h_con i k)) (ps ++ (fs ++ rs))))
      (tr (λ z. HasType e g z (hypotheses c rs 0 (app c (apps (const (h_con i k)) (ps ++ (fs ++ rs)))))) (sym (apps_append f fs rs))
      (apply_recs i k ps c n b l fs [] (apps f fs) (apply_fields i k ps c n a [] f p))))
