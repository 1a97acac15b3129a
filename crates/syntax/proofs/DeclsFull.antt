-- What the grammar says of some tokens, the reader finds, if what stands behind them cannot belong to them and the fuel is enough:
-- parameters, constructors, declarations.
use Rattle.std.proofs.Common.{◌≡◌, ℕ, zero, suc, ◌<◌, ◌≤◌, not, T, List, [], ◌∷◌, ◌++◌, length, sym, refl, ap, ◌∙◌, subst as tr, append_assoc, arith}
use mathlib.Core.Option.{some}
use Rattle.syntax.specs.Surface.{Name, Expr, Param, ConDecl, Decl, d_def}
use Rattle.syntax.specs.Grammar.{k_type, k_hide, k_again, t_lp, t_rp, t_lc, t_rc, t_semi, t_colon, t_is, is_name, IsExpr, IsParams, x_no_params, x_param, IsCons, x_no_cons, x_con, IsHide, x_no_hide, x_hide, IsDecl, x_def, x_theorem, x_axiom, x_data, IsDecls, x_no_decls, x_decl}
use Rattle.syntax.specs.Reader.{read_params, read_cons, read_hide, read_def, read_decl, read_decls}
use Rattle.syntax.proofs.Gives.{then_is, option_not, no_some}
use Rattle.syntax.proofs.FirstToken.{begins, eat-none, no_word, name_indexed}
use Rattle.syntax.proofs.ReaderShrinks.{decl_shrinks}
use Rattle.syntax.proofs.ReaderFull.{name_full, number_full, back, full}

-- Parameters, where no bracket opens behind them.
pub params_full : (n : ℕ) {s : List Name} {ps : List Param} → IsParams s ps → (ts r : List Name) → T (not (begins t_lp r))
    → ts ≡ s ++ r → length ts < n → read_params n ts ≡ some (ps, r)
params_full zero p ts r e q l = absurd (let f : ⊥ = omega arith in f)
params_full (suc n) x_no_params ts r e q l = tr (λ w. read_params (suc n) w ≡ some ([], r)) (sym q) (option_not _ _ _ (eat-none t_lp r e) refl)
params_full (suc n) (x_param {x} {s} {t} {a} {ps} i d p) ts r e q l = tr (λ w. read_params (suc n) w ≡ some (record { name = x; type = a } ∷ ps, r)) (sym q)
    (then_is _ _ (name_full x (t_colon ∷ ((s ++ (t_rp ∷ t)) ++ r)) i)
    (then_is _ _ ((full n).term _ s (t_rp ∷ (t ++ r)) a d tt split (omega (arith, ap length q)))
    (then_is _ _ (params_full n p (t ++ r) r e refl (omega (arith, ap length q, back s (t_rp ∷ (t ++ r)) split))) refl)))
  where
    split : (s ++ (t_rp ∷ t)) ++ r ≡ s ++ (t_rp ∷ (t ++ r))
    split = append_assoc s (t_rp ∷ t) r

-- Constructors and the closing brace.
pub cons_full : (n : ℕ) {s : List Name} {cs : List ConDecl} → IsCons s cs → (ts r : List Name) → ts ≡ s ++ (t_rc ∷ r) → length ts < n → read_cons n ts ≡ some (cs, r)
cons_full zero p ts r q l = absurd (let f : ⊥ = omega arith in f)
cons_full (suc n) x_no_cons ts r q l = tr (λ w. read_cons (suc n) w ≡ some ([], r)) (sym q) refl
cons_full (suc n) (x_con w {x} {n = k} {s} {t} {ps} {cs} i p j c) ts r q l = tr (λ v. read_cons (suc n) v ≡ some (record { name = x; fields = ps; recs = k } ∷ cs, r)) (sym q)
    (option_not _ _ _ (eat-none t_rc (x ∷ ((s ++ (k_again ∷ w ∷ t_semi ∷ t)) ++ (t_rc ∷ r))) (no_word x t_rc (name_indexed x i) tt))
    (then_is _ _ (name_full x ((s ++ (k_again ∷ w ∷ t_semi ∷ t)) ++ (t_rc ∷ r)) i)
    (then_is _ _ (params_full n p ((s ++ (k_again ∷ w ∷ t_semi ∷ t)) ++ (t_rc ∷ r)) (k_again ∷ w ∷ t_semi ∷ (t ++ (t_rc ∷ r))) tt split (omega (arith, ap length q)))
    (then_is _ _ (number_full w (t_semi ∷ (t ++ (t_rc ∷ r))) j)
    (then_is _ _ (cons_full n c (t ++ (t_rc ∷ r)) r refl (omega (arith, ap length q, back s (k_again ∷ w ∷ t_semi ∷ (t ++ (t_rc ∷ r))) split))) refl)))))
  where
    split : (s ++ (k_again ∷ w ∷ t_semi ∷ t)) ++ (t_rc ∷ r) ≡ s ++ (k_again ∷ w ∷ t_semi ∷ (t ++ (t_rc ∷ r)))
    split = append_assoc s (k_again ∷ w ∷ t_semi ∷ t) (t_rc ∷ r)

-- hide n, or nothing.
hide_full : {s : List Name} {h : ℕ} → IsHide s h → (ts r : List Name) → T (not (begins k_hide r)) → ts ≡ s ++ r → read_hide ts ≡ some (h, r)
hide_full x_no_hide ts r e q = tr (λ w. read_hide w ≡ some (0, r)) (sym q) (option_not _ _ _ (eat-none k_hide r e) refl)
hide_full (x_hide {w} {n} i) ts r e q = tr (λ v. read_hide v ≡ some (n, r)) (sym q) (number_full w r i)

params_no_hide : {s : List Name} {ps : List Param} → IsParams s ps → (r : List Name) → T (not (begins k_hide r)) → T (not (begins k_hide (s ++ r)))
params_no_hide x_no_params r e = e
params_no_hide (x_param i d p) r e = tt

-- What stands behind the keyword of a definition or a theorem, of an axiom, of a data type.
def_full : (n : ℕ) {x : Name} {h : ℕ} {r s t : List Name} {a b : Expr} → T (is_name x) → IsHide r h → IsExpr 0 s a → IsExpr 0 t b → (us : List Name)
    → length ((x ∷ (r ++ (t_colon ∷ (s ++ (t_is ∷ (t ++ (t_semi ∷ []))))))) ++ us) ≤ n
    → read_def n ((x ∷ (r ++ (t_colon ∷ (s ++ (t_is ∷ (t ++ (t_semi ∷ []))))))) ++ us) ≡ some (d_def x h a b, us)
def_full n {x} {h} {r} {s} {t} {a} {b} i k d c us l =
    then_is _ _ (name_full x ((r ++ (t_colon ∷ (s ++ (t_is ∷ (t ++ (t_semi ∷ [])))))) ++ us) i)
    (then_is _ _ (hide_full k _ (t_colon ∷ ((s ++ (t_is ∷ (t ++ (t_semi ∷ [])))) ++ us)) tt hides)
    (then_is _ _ ((full n).term _ s (t_is ∷ ((t ++ (t_semi ∷ [])) ++ us)) a d tt types (omega (arith, back r (t_colon ∷ ((s ++ (t_is ∷ (t ++ (t_semi ∷ [])))) ++ us)) hides)))
    (then_is _ _ ((full n).term _ t (t_semi ∷ us) b c tt (append_assoc t (t_semi ∷ []) us)
    (omega (arith, back r (t_colon ∷ ((s ++ (t_is ∷ (t ++ (t_semi ∷ [])))) ++ us)) hides, back s (t_is ∷ ((t ++ (t_semi ∷ [])) ++ us)) types))) refl)))
  where
    hides : (r ++ (t_colon ∷ (s ++ (t_is ∷ (t ++ (t_semi ∷ [])))))) ++ us ≡ r ++ (t_colon ∷ ((s ++ (t_is ∷ (t ++ (t_semi ∷ [])))) ++ us))
    hides = append_assoc r (t_colon ∷ (s ++ (t_is ∷ (t ++ (t_semi ∷ []))))) us

    types : (s ++ (t_is ∷ (t ++ (t_semi ∷ [])))) ++ us ≡ s ++ (t_is ∷ ((t ++ (t_semi ∷ [])) ++ us))
    types = append_assoc s (t_is ∷ (t ++ (t_semi ∷ []))) us

decl_next : (n : ℕ) {s : List Name} {d : Decl} → IsDecl s d → (us : List Name) → length (s ++ us) ≤ n → read_decl n (s ++ us) ≡ some (d, us)
decl_next n (x_def i k d c) us l = def_full n i k d c us (omega arith)
decl_next n (x_theorem i k d c) us l = def_full n i k d c us (omega arith)
decl_next n (x_axiom {x} {h} {r} {s} {a} i k d) us l =
    then_is _ _ (name_full x ((r ++ (t_colon ∷ (s ++ (t_semi ∷ [])))) ++ us) i)
    (then_is _ _ (hide_full k _ (t_colon ∷ ((s ++ (t_semi ∷ [])) ++ us)) tt hides)
    (then_is _ _ ((full n).term _ s (t_semi ∷ us) a d tt (append_assoc s (t_semi ∷ []) us) (omega (arith, back r (t_colon ∷ ((s ++ (t_semi ∷ [])) ++ us)) hides))) refl))
  where
    hides : (r ++ (t_colon ∷ (s ++ (t_semi ∷ [])))) ++ us ≡ r ++ (t_colon ∷ ((s ++ (t_semi ∷ [])) ++ us))
    hides = append_assoc r (t_colon ∷ (s ++ (t_semi ∷ []))) us
decl_next n (x_data w {x} {h} {n = k} {r} {s} {t} {ps} {cs} i j p m c) us l =
    then_is _ _ (name_full x ((r ++ (s ++ (t_colon ∷ k_type ∷ w ∷ t_lc ∷ (t ++ (t_rc ∷ []))))) ++ us) i)
    (then_is _ _ (hide_full j _ (s ++ (t_colon ∷ k_type ∷ w ∷ t_lc ∷ ((t ++ (t_rc ∷ [])) ++ us))) (params_no_hide p _ tt) hides)
    (then_is _ _ (params_full n p _ (t_colon ∷ k_type ∷ w ∷ t_lc ∷ ((t ++ (t_rc ∷ [])) ++ us)) tt refl
    (omega (arith, back r (s ++ (t_colon ∷ k_type ∷ w ∷ t_lc ∷ ((t ++ (t_rc ∷ [])) ++ us))) hides)))
    (then_is _ _ (number_full w (t_lc ∷ ((t ++ (t_rc ∷ [])) ++ us)) m)
    (then_is _ _ (cons_full n c _ us (append_assoc t (t_rc ∷ []) us)
    (omega (arith, back (r ++ s) (t_colon ∷ k_type ∷ w ∷ t_lc ∷ ((t ++ (t_rc ∷ [])) ++ us)) (hides ∙ sym (append_assoc r s _))))) refl))))
  where
    hides : (r ++ (s ++ (t_colon ∷ k_type ∷ w ∷ t_lc ∷ (t ++ (t_rc ∷ []))))) ++ us ≡ r ++ (s ++ (t_colon ∷ k_type ∷ w ∷ t_lc ∷ ((t ++ (t_rc ∷ [])) ++ us)))
    hides = append_assoc r (s ++ (t_colon ∷ k_type ∷ w ∷ t_lc ∷ (t ++ (t_rc ∷ [])))) us
        ∙ ap (λ z. r ++ z) (append_assoc s (t_colon ∷ k_type ∷ w ∷ t_lc ∷ (t ++ (t_rc ∷ []))) us)

pub decl_full : (n : ℕ) (s : List Name) (d : Decl) (r : List Name) → IsDecl s d → length (s ++ r) ≤ n → read_decl n (s ++ r) ≡ some (d, r)
decl_full n s d r i l = decl_next n i r l

-- Declarations, to the end of the tokens.
one_more : (n : ℕ) (ts us : List Name) (d : Decl) (ds : List Decl) → read_decl n ts ≡ some (d, us) → read_decls n us ≡ some ds → read_decls (suc n) ts ≡ some (d ∷ ds)
one_more n [] us d ds e f = no_some e
one_more n (w ∷ ts) us d ds e f = then_is _ _ e (rw f refl)

pub decls_full : (n : ℕ) (ts : List Name) (ds : List Decl) → IsDecls ts ds → length ts < n → read_decls n ts ≡ some ds
decls_full zero ts ds i l = absurd (let f : ⊥ = omega arith in f)
decls_full (suc n) [] [] x_no_decls l = refl
decls_full (suc n) ts ds (x_decl {s} {t} {d} {ds = es} i j) l = one_more n (s ++ t) t d es first (decls_full n t es j (omega (arith, decl_shrinks n (s ++ t) t d first)))
  where
    first : read_decl n (s ++ t) ≡ some (d, t)
    first = decl_next n i t (omega arith)
