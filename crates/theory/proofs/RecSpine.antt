-- What the typing of a recursor's spine and of a constructor's spine say of their arguments.
-- The constructor's fields are given with the recursor's parameters put in.
use Rattle.std.proofs.Common.{◌≡◌, refl, sym, ap, ap₂, ◌∙◌, subst as tr, subst₂ as tr₂, List, [], ◌∷◌, ◌++◌, map, reverse, ℕ, zero, suc, ◌+◌, length, arith}
use mathlib.Core.List.{reverse_aux, reverse_aux-eq}
use mathlib.Core.Option.{some}
use lib.ListN.{get_elem?, length-reverse}
use Rattle.theory.specs.Terms.{h_data, h_con, h_rec, Term, var, const, sort, pi, app, subst, subst_all, apps, lifts, pis}
use Rattle.theory.specs.Environment.{Constructor, DataType, Env, vars, self_type, rec_fields, con_type, up, case_type, rec_cases, rec_type, data_at}
use Rattle.theory.specs.Reduction.{Conv, conv_refl}
use Rattle.theory.specs.Typing.{HasType, t_sort, t_pi, t_app, t_conv, WfEnv}
use Rattle.theory.proofs.Options.{none-some, some_inj}
use Rattle.theory.proofs.Indices.{lift-zero}
use Rattle.theory.proofs.Closed.{head_type_closed, scoped_subst_all}
use Rattle.theory.proofs.IotaStable.{Pairwise, pw_end, pw_more}
use Rattle.theory.proofs.SubstAll.{subst_family, subst_all_family, family_apps, subst-up, apps_append, lift-vars, subst_all-lift, subst-subst_all, sub_end}
use Rattle.theory.proofs.Naturality.{arrows, cases_at, family_arrows, family_cases_at, subst_cases_at, rec_cases_at}
use Rattle.theory.proofs.Conversion.{conv_trans, conv_eq}
use Rattle.theory.proofs.Injectivity.{data_inj}
use Rattle.theory.proofs.Telescopes.{Args, substitution_args, args_conv}
use Rattle.theory.proofs.HeadTypes.{wf_data, AllOf, all_end, all_more, rec_fields_at, head_applied, data_applied, con_head, params_at, con_fields, case_typed}
use Rattle.theory.proofs.Spines.{Spined, sp_end, spined_conv, head_spined, spined_next, spined_args}

-- the recursive fields of a constructor
arrows_spined : {e : Env} → WfEnv e → {g : List Term} {a d : Term} {l : ℕ} → HasType e g a (sort l) → (n : ℕ) (rs : List Term) → n ≡ length rs → Spined e g (arrows a n) rs d → AllOf e g a rs × Conv e a d
arrows_spined w p zero [] l (sp_end s) = (all_end, s)
arrows_spined w p zero (r ∷ rs) l s = absurd (omega arith)
arrows_spined w p (suc n) [] l s = absurd (omega arith)
arrows_spined w {a} p (suc n) (r ∷ rs) l s =
    let (x, y) = spined_next w s conv_refl p in
    let (u, v) = arrows_spined w p n rs (omega arith) (spined_conv (conv_eq (sym (family_arrows (subst_family r) 0 (up a) n ∙ ap (λ z. arrows z n) (subst-up r a)))) y) in
    (all_more x u, v)

all_conv : {e : Env} {g : List Term} {a b : Term} {l : ℕ} {rs : List Term} → Conv e a b → HasType e g b (sort l) → AllOf e g a rs → AllOf e g b rs
all_conv s p all_end = all_end
all_conv s p (all_more q r) = all_more (t_conv q s p) (all_conv s p r)

pw_reverse : {R : Term → Term → Type 0} {xs ys us vs : List Term} → Pairwise R xs ys → Pairwise R us vs → Pairwise R (reverse_aux xs us) (reverse_aux ys vs)
pw_reverse pw_end q = q
pw_reverse (pw_more r p) q = pw_reverse p (pw_more r q)

-- the parameters, seen from behind the fields
params_behind : (n : ℕ) (fs us : List Term) → map (subst_all (reverse_aux fs us) 0) (vars n (length fs)) ≡ map (subst_all us 0) (vars n 0)
params_behind n fs us =
    ap₂ (λ (vs ts : List Term). map (subst_all vs 0) ts) (reverse_aux-eq fs us) (sym (lift-vars n 0 (length fs) (length fs) (omega arith))) ∙ go (vars n 0)
  where
    go : (ts : List Term) → map (subst_all (reverse fs ++ us) 0) (lifts (length fs) ts) ≡ map (subst_all us 0) ts
    go [] = refl
    go (t ∷ ts) = ap₂ ◌∷◌ (subst_all-lift t (reverse fs) us 0 (length fs) (sym (length-reverse fs))) (go ts)

-- what the spine of a recursor says behind its parameters ps and motive o
record CasesApplied (e : Env) (g : List Term) (i : ℕ) (ps : List Term) (o : Term) (y : ℕ) (ds : List Constructor) (ms : List Term) (s f b : Term) : Type 0 where
  scrutinee : HasType e g s (apps (const (h_data i)) ps)
  result : Conv e (app o s) b
  whole : HasType e g (apps f ms) (pi (apps (const (h_data i)) ps) (app (up o) (var 0)))
  case : (z x : ℕ) (c : Constructor) (m : Term) → x ≡ y + z → get_elem? ds z ≡ some c → get_elem? ms z ≡ some m → HasType e g m (case_type i x ps o (reverse ps) [] c.fields c.recs)

module _ {e : Env} (w : WfEnv e) (i j : ℕ) (k : DataType) (at : data_at e i ≡ some k) {g ps : List Term} {o : Term} (a : Args e g [] k.params ps) (h : HasType e g o (pi (apps (const (h_data i)) ps) (sort j))) where
  cases_applied : (ds : List Constructor) (y : ℕ) → ((z x : ℕ) → x ≡ y + z → get_elem? ds z ≡ get_elem? k.cons x) → (ms : List Term) → length ms ≡ length ds → {s b : Term}
      → Spined e g (cases_at i ps o y ds) (ms ++ (s ∷ [])) b → (f : Term) → HasType e g f (cases_at i ps o y ds) → CasesApplied e g i ps o y ds ms s f b
  cases_applied [] y t [] l {s} {b} p f q =
      let (u, v) = spined_next w p conv_refl (data_applied w i k at a) in
      record { scrutinee = u; result = conv_trans (conv_eq (sym (ap₂ app (subst-up s o) (lift-zero s 0)))) (end v); whole = q; case = λ z x c m r n _. none-some n }
    where
      end : {c d : Term} → Spined e g c [] d → Conv e c d
      end (sp_end r) = r
  cases_applied [] y t (m ∷ ms) l p f q = absurd (omega arith)
  cases_applied (c ∷ ds) y t [] l p f q = absurd (omega arith)
  cases_applied (c ∷ ds) y t (m ∷ ms) l {s} {b} p f q =
      let (u, v) = spined_next w p conv_refl (case_typed w i k at y j (sym (t 0 y (omega arith))) a h).1 in
      let r = cases_applied ds (y + 1) (λ z x n. t (suc z) x (omega arith)) ms (omega arith) (spined_conv (conv_eq (sym (subst_cases_at i ps o (y + 1) ds m))) v) (app f m)
      (tr (HasType e g (app f m)) (subst_cases_at i ps o (y + 1) ds m) (t_app q u)) in
      record { scrutinee = r.scrutinee; result = r.result; whole = r.whole; case = at_case u r.case }
    where
      at_case : HasType e g m (case_type i y ps o (reverse ps) [] c.fields c.recs)
          → ((z x : ℕ) (c : Constructor) (m : Term) → x ≡ (y + 1) + z → get_elem? ds z ≡ some c → get_elem? ms z ≡ some m → HasType e g m (case_type i x ps o (reverse ps) [] c.fields c.recs))
          → (z x : ℕ) (c₁ : Constructor) (m₁ : Term) → x ≡ y + z → get_elem? (c ∷ ds) z ≡ some c₁ → get_elem? (m ∷ ms) z ≡ some m₁ → HasType e g m₁ (case_type i x ps o (reverse ps) [] c₁.fields c₁.recs)
      at_case u r zero x c₁ m₁ p q n =
          tr₂ (λ v z. HasType e g v (case_type i x ps o (reverse ps) [] z.fields z.recs)) (some_inj n) (some_inj q)
          (tr (λ z. HasType e g m (case_type i z ps o (reverse ps) [] c.fields c.recs)) (let v : y ≡ x = omega arith in v) u)
      at_case u r (suc z) x c₁ m₁ p q n = r z x c₁ m₁ (omega arith) q n

-- a list of known length in two
pub split_list : {A D : Type 0} (n m : ℕ) (xs : List A) → length xs ≡ n + m → ((ys zs : List A) → xs ≡ ys ++ zs → length ys ≡ n → length zs ≡ m → D) → D
split_list zero m xs l k = k [] xs refl refl (omega arith)
split_list (suc n) m [] l k = absurd (omega arith)
split_list (suc n) m (x ∷ xs) l k = split_list n m xs (omega arith) λ ys zs p q r. k (x ∷ ys) zs (ap₂ ◌∷◌ refl p) (omega arith) r

one_of : {A D : Type 0} (xs : List A) → length xs ≡ 1 → ((x : A) → xs ≡ x ∷ [] → D) → D
one_of [] l k = absurd (omega arith)
one_of (x ∷ []) l k = k x refl
one_of (x ∷ y ∷ xs) l k = absurd (omega arith)

-- parameters, motive, cases and scrutinee of a recursor
pub record RecArgs (e : Env) (g : List Term) (i j : ℕ) (k : DataType) (as₁ : List Term) (b : Term) : Type 0 where
  pub ps : List Term
  pub m : Term
  pub cs : List Term
  pub s : Term
  pub is : as₁ ≡ ps ++ (m ∷ (cs ++ (s ∷ [])))
  pub ps_length : length ps ≡ length k.params
  pub cs_length : length cs ≡ length k.cons
  pub args : Args e g [] k.params ps
  pub motive : HasType e g m (pi (apps (const (h_data i)) ps) (sort j))
  pub case : (n : ℕ) (c : Constructor) (t : Term) → get_elem? k.cons n ≡ some c → get_elem? cs n ≡ some t → HasType e g t (case_type i n ps m (reverse ps) [] c.fields c.recs)
  pub self : HasType e g (apps (const (h_rec i j)) (ps ++ (m ∷ cs))) (pi (apps (const (h_data i)) ps) (app (up m) (var 0)))
  pub target : HasType e g s (apps (const (h_data i)) ps)
  pub conv : Conv e (app m s) b

-- parameters, fields and recursive fields of a constructor
pub record ConArgs (e : Env) (g : List Term) (i : ℕ) (k : DataType) (c : Constructor) (bs ps : List Term) : Type 0 where
  pub qs : List Term
  pub fs : List Term
  pub rs : List Term
  pub is : bs ≡ qs ++ (fs ++ rs)
  pub qs_length : length qs ≡ length k.params
  pub fs_length : length fs ≡ length c.fields
  pub rs_length : length rs ≡ c.recs
  pub params : Pairwise (Conv e) qs ps
  pub fields : Args e g (reverse ps) c.fields fs
  pub recs : AllOf e g (apps (const (h_data i)) ps) rs

module _ {e : Env} (w : WfEnv e) (i j : ℕ) (k : DataType) (at : data_at e i ≡ some k) where
  -- the recursor's type with parameters and motive put in
  abbrev rec_rest : Term
  rec_rest = pi (pi (self_type i k 0) (sort j)) (rec_cases i (length k.params) 0 0 k.cons)

  rec_closed : subst_all [] 0 (rec_type i j k) ≡ rec_type i j k
  rec_closed = scoped_subst_all (rec_type i j k) 0 0 [] (head_type_closed e w (h_rec i j) (rw at refl)) (omega arith)

  rec_motive : {g ps : List Term} → Args e g [] k.params ps
      → subst_all (reverse ps) 0 rec_rest ≡ pi (pi (apps (const (h_data i)) ps) (sort j)) (subst_all (reverse ps) 1 (rec_cases i (length k.params) 0 0 k.cons))
  rec_motive {ps} a = ap (λ z. pi (pi z (sort j)) (subst_all (reverse ps) 1 (rec_cases i (length k.params) 0 0 k.cons)))
      (family_apps (subst_all_family (reverse ps)) 0 (const (h_data i)) (vars (length k.params) 0) ∙ ap (apps (const (h_data i))) (params_at w i k at a))

  rec_put : {g ps : List Term} → Args e g [] k.params ps → (m : Term) → subst 0 m (subst_all (reverse ps) 1 (rec_cases i (length k.params) 0 0 k.cons)) ≡ cases_at i ps m 0 k.cons
  rec_put {ps} a m =
      subst-subst_all (rec_cases i (length k.params) 0 0 k.cons) m (reverse ps) 0 ∙ ap (subst_all (m ∷ reverse ps) 0) (rec_cases_at i (length k.params) 0 0 k.cons)
      ∙ family_cases_at (subst_all_family (m ∷ reverse ps)) i (vars (length k.params) 1) (var 0) 0 k.cons 0
      ∙ ap₂ (λ qs z. cases_at i qs z 0 k.cons) (params_behind (length k.params) (m ∷ []) (reverse ps) ∙ params_at w i k at a) (lift-zero m 0)

  rec_args_at : {g : List Term} (ps : List Term) (m : Term) (cs : List Term) (s : Term) {as₁ : List Term} {b : Term} → as₁ ≡ ps ++ (m ∷ (cs ++ (s ∷ []))) → length ps ≡ length k.params → length cs ≡ length k.cons
      → HasType e g (apps (const (h_rec i j)) as₁) b → RecArgs e g i j k as₁ b
  rec_args_at {g} ps m cs s {b} is x y p =
      let q = head_spined (h_rec i j) (ps ++ (m ∷ (cs ++ (s ∷ [])))) {a = rec_type i j k} (tr (λ z. HasType e g (apps (const (h_rec i j)) z) b) is p) (rw at refl) in
      let (a, r) = spined_args w (wf_data w i at).0 sub_end ps (m ∷ (cs ++ (s ∷ []))) rec_rest x q (conv_eq (sym rec_closed)) in
      let (h, t) = spined_next w r (conv_eq (rec_motive a)) (t_pi (data_applied w i k at a) t_sort) in
      let f : HasType e g (app (apps (const (h_rec i j)) ps) m) (cases_at i ps m 0 k.cons) =
      tr (HasType e g (app (apps (const (h_rec i j)) ps) m)) (rec_put a m) (t_app (tr (HasType e g (apps (const (h_rec i j)) ps)) (rec_motive a) (head_applied w (h_rec i j) rec_rest (rw at refl) a)) h) in
      let v = cases_applied w i j k at a h k.cons 0 (λ z x l. ap (get_elem? k.cons) (let n : z ≡ x = omega arith in n)) cs y (spined_conv (conv_eq (sym (rec_put a m))) t) (app (apps (const (h_rec i j)) ps) m) f in
      record {
        ps = ps;
        m = m;
        cs = cs;
        s = s;
        is = is;
        ps_length = x;
        cs_length = y;
        args = a;
        motive = h;
        case = λ n c t l. v.case n n c t (omega arith) l;
        self = tr (λ z. HasType e g z (pi (apps (const (h_data i)) ps) (app (up m) (var 0)))) (sym (apps_append (const (h_rec i j)) ps (m ∷ cs))) v.whole;
        target = v.scrutinee;
        conv = v.result;
      }

  pub rec_args : {g : List Term} (as₁ : List Term) {b : Term} → length as₁ ≡ length k.params + (2 + length k.cons) → HasType e g (apps (const (h_rec i j)) as₁) b → RecArgs e g i j k as₁ b
  rec_args {g} as₁ {b} l p =
      split_list (length k.params) (2 + length k.cons) as₁ l λ ps xs x_is ps_length xs_length.
      split_list 1 (1 + length k.cons) xs (omega arith) λ ms ys y_is ms_length ys_length.
      split_list (length k.cons) 1 ys (omega arith) λ cs ss z_is cs_length ss_length.
      one_of ms ms_length λ m m_is. one_of ss ss_length λ s s_is.
      rec_args_at ps m cs s (x_is ∙ ap (◌++◌ ps) (y_is ∙ ap₂ ◌++◌ m_is (z_is ∙ ap (◌++◌ cs) s_is))) ps_length cs_length p

pub con_args : {e : Env} → WfEnv e → (i n : ℕ) (k : DataType) → data_at e i ≡ some k → {c : Constructor} → get_elem? k.cons n ≡ some c → {g ps : List Term} → Args e g [] k.params ps → (bs : List Term)
    → length bs ≡ length k.params + (length c.fields + c.recs) → HasType e g (apps (const (h_con i n)) bs) (apps (const (h_data i)) ps) → ConArgs e g i k c bs ps
con_args {e} w i n k at {c} con {g} {ps} a bs l p =
    split_list (length k.params) (length c.fields + c.recs) bs l λ qs xs x_is qs_length xs_length.
    split_list (length c.fields) c.recs xs xs_length λ fs rs y_is fs_length rs_length.
    con_args_at qs fs rs (x_is ∙ ap (◌++◌ qs) y_is) qs_length fs_length rs_length
  where
    con_args_at : (qs fs rs : List Term) → bs ≡ qs ++ (fs ++ rs) → length qs ≡ length k.params → length fs ≡ length c.fields → length rs ≡ c.recs → ConArgs e g i k c bs ps
    con_args_at qs fs rs is x y z =
        let b : Term = pis c.fields (rec_fields i k c.recs (length c.fields)) in
        let q = head_spined (h_con i n) (qs ++ (fs ++ rs)) {a = con_type i k c} (tr (λ z. HasType e g (apps (const (h_con i n)) z) (apps (const (h_data i)) ps)) is p) (con_head w i k at n con) in
        let (d, r) = spined_args w (wf_data w i at).0 sub_end qs (fs ++ rs) b x q (conv_eq (sym (scoped_subst_all (con_type i k c) 0 0 [] (head_type_closed e w (h_con i n) (con_head w i k at n con)) (omega arith)))) in
        let (f, t) = spined_args w (con_fields w i k at n con) (substitution_args sub_end d) fs rs (rec_fields i k c.recs (length c.fields)) y r conv_refl in
        let u = rec_fields_at i k c.recs (reverse_aux fs (reverse qs)) qs (length c.fields)
        (ap (λ z. map (subst_all (reverse_aux fs (reverse qs)) 0) (vars (length k.params) z)) (sym y) ∙ params_behind (length k.params) fs (reverse qs) ∙ params_at w i k at d) in
        let (s, v) = arrows_spined w (data_applied w i k at d) c.recs rs (sym z) (spined_conv (conv_eq (sym u)) t) in
        let m = (data_inj w i i qs ps v).1 in
        record {
          qs = qs;
          fs = fs;
          rs = rs;
          is = is;
          qs_length = x;
          fs_length = y;
          rs_length = z;
          params = m;
          fields = args_conv w f (con_fields w i k at n con) (substitution_args sub_end a) (pw_reverse m pw_end);
          recs = all_conv v (data_applied w i k at a) s;
        }
