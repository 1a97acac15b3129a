-- A plain term whose names are somewhere elaborates to one term, the resolved one.
use Rattle.std.proofs.Common.{◌≡◌, ℕ, true, List, [], sym, refl, ap, ◌∙◌, subst as tr, ap₂, arith}
use mathlib.Core.Option.{Option, some, none}
use Rattle.std.proofs.lemmas.List.{nil_from_length}
use Rattle.theory.specs.Terms.{Head, Term, var, const, sort, pi, lam, app, option, apps}
use Rattle.theory.proofs.Options.{false-true, cases_option, and_true}
use Rattle.syntax.specs.Surface.{Name, Expr, e_name, e_at, e_full, e_sort, e_pi, e_lam, e_app, e_hole, e_by, e_have}
use Rattle.elaboration.specs.Elaboration.{Global, lookup, index_of, indexed_head, Elab, el_local, el_global, el_full, el_at, el_sort, el_pi, el_lam, el_app, el_hole, el_by, el_have}
use Rattle.resolver.specs.Resolving.{basic, name_term, indexed_term, is_some, resolves, resolved}

-- No global hides arguments.
abbrev pub NoneHidden : List Global → Type 0
NoneHidden gs = (x : Name) (g : Global) → lookup gs x ≡ some g → g.hidden ≡ 0

-- A name that stands for something.
name_sound : {gs : List Global} {ys : List Name} (h : NoneHidden gs) (x : Name) → is_some (name_term gs ys x) ≡ true → Elab gs ys (e_name x) (option (name_term gs ys x) (sort 0) (λ t. t))
name_sound {gs} {ys} h x p = cases_option (index_of ys x)
    (λ n. cases_option (lookup gs x)
    (λ m. false-true (tr (λ (o : Option Term). is_some o ≡ true) (name_none n m) p))
    (λ g m. tr (Elab gs ys (e_name x)) (ap (λ (o : Option Term). option o (sort 0) (λ t. t)) (sym (name_global n g m))) (el_global {g = g} [] n m (sym (h x g m)))))
    (λ n q. tr (Elab gs ys (e_name x)) (ap (λ (o : Option Term). option o (sort 0) (λ t. t)) (sym (name_local n q))) (el_local q))
  where
    name_none : index_of ys x ≡ none → lookup gs x ≡ none → name_term gs ys x ≡ none
    name_none n m = rw (n, m) refl

    name_global : index_of ys x ≡ none → (g : Global) → lookup gs x ≡ some g → name_term gs ys x ≡ some (const g.head)
    name_global n g m = rw (n, m) refl

    name_local : (k : ℕ) → index_of ys x ≡ some k → name_term gs ys x ≡ some (var k)
    name_local k q = rw q refl

indexed_sound : {gs : List Global} {ys : List Name} (x : Name) (ns : List ℕ) → is_some (indexed_term gs ys x ns) ≡ true → Elab gs ys (e_at x ns) (option (indexed_term gs ys x ns) (sort 0) (λ t. t))
indexed_sound {gs} {ys} x ns p = cases_option (index_of ys x)
    (λ n. cases_option (indexed_head gs x ns)
    (λ m. false-true (tr (λ (o : Option Term). is_some o ≡ true) (at_none n m) p))
    (λ h m. tr (Elab gs ys (e_at x ns)) (ap (λ (o : Option Term). option o (sort 0) (λ t. t)) (sym (at_head n h m))) (el_at n m)))
    (λ n q. false-true (tr (λ (o : Option Term). is_some o ≡ true) (at_local n q) p))
  where
    at_none : index_of ys x ≡ none → indexed_head gs x ns ≡ none → indexed_term gs ys x ns ≡ none
    at_none n m = rw (n, m) refl

    at_head : index_of ys x ≡ none → (h : Head) → indexed_head gs x ns ≡ some h → indexed_term gs ys x ns ≡ some (const h)
    at_head n h m = rw (n, m) refl

    at_local : (k : ℕ) → index_of ys x ≡ some k → indexed_term gs ys x ns ≡ none
    at_local k q = rw q refl

-- Where every name stands for something the term elaborates to the resolved one.
pub sound : {gs : List Global} (h : NoneHidden gs) (e : Expr) {ys : List Name} → resolves gs ys e ≡ true → Elab gs ys e (resolved gs ys e)
sound h (e_name x) p = name_sound h x p
sound h (e_at x ns) p = indexed_sound x ns p
sound h (e_full x) p = false-true p
sound h (e_sort i) p = el_sort
sound h (e_pi x a b) p = and_true _ _ p λ q r. el_pi (sound h a q) (sound h b r)
sound h (e_lam x a b) p = and_true _ _ p λ q r. el_lam (sound h a q) (sound h b r)
sound h (e_app f a) p = and_true _ _ p λ q r. el_app (sound h f q) (sound h a r)
sound h e_hole p = false-true p
sound h (e_by a) p = false-true p
sound h (e_have x a b c) p = false-true p

-- What a plain term elaborates to is the resolved one, and its names all stand for something.
pub complete : {gs : List Global} (h : NoneHidden gs) {ys : List Name} {e : Expr} {t : Term} → Elab gs ys e t → basic e ≡ true → (resolves gs ys e ≡ true) × (resolved gs ys e ≡ t)
complete h (el_local q) p = (rw q refl, rw q refl)
complete {gs} h (el_global {ys = ys} {x = x} {g = g} ts n m l) p =
    (rw (n, m) refl, (let z : option (name_term gs ys x) (sort 0) (λ t. t) ≡ const g.head = rw (n, m) refl in z) ∙ ap (apps (const g.head)) (sym (nil_from_length ts (omega (arith, l, h x g m)))))
complete h (el_full n m) p = false-true p
complete h (el_at n m) p = (rw (n, m) refl, rw (n, m) refl)
complete h el_sort p = (refl, refl)
complete h (el_pi a b) p = and_true _ _ p λ q r. let u = complete h a q in let v = complete h b r in (rw (u.0, v.0) refl, ap₂ pi u.1 v.1)
complete h (el_lam a b) p = and_true _ _ p λ q r. let u = complete h a q in let v = complete h b r in (rw (u.0, v.0) refl, ap₂ lam u.1 v.1)
complete h (el_app a b) p = and_true _ _ p λ q r. let u = complete h a q in let v = complete h b r in (rw (u.0, v.0) refl, ap₂ app u.1 v.1)
complete h el_hole p = false-true p
complete h (el_by a) p = false-true p
complete h (el_have a b c) p = false-true p
