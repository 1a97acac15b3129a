-- Elaboration of terms: the terms that a surface term may stand for. Names are resolved; any term may stand for a hole, and any
-- terms for arguments that are left out.
use Rattle.std.specs.Prelude.{◌≡◌, Bool, true, false, ◌&&◌, cond, List, [], ◌∷◌, ℕ, suc, length, eqb}
use Rattle.std.proofs.Math.Option.{Option, some, none}
use Rattle.theory.specs.Terms.{Head, h_def, h_data, h_con, h_rec, h_eq, h_refl, h_along, Term, var, const, sort, pi, lam, app, option, apps}
use Rattle.theory.specs.Environment.{Constructor}
use Rattle.syntax.specs.Surface.{Name, same, Expr, e_name, e_at, e_full, e_sort, e_pi, e_lam, e_app, e_hole, e_by, e_have, Param, ConDecl, w_eq, w_same, w_along}

-- A global name: the head that it stands for, and the number of its first arguments that are left out where it is used.
pub record Global : Type 0 where
  pub name : Name
  pub head : Head
  pub hidden : ℕ

-- The first global of that name.
abbrev pub lookup : List Global → Name → Option Global
lookup [] x = none
lookup (g ∷ gs) x = cond (same g.name x) (some g) (lookup gs x)

-- The de Bruijn index of a name among the bound names, the innermost first.
abbrev pub index_of : List Name → Name → Option ℕ
index_of [] x = none
index_of (y ∷ ys) x = cond (same y x) (some 0) (option (index_of ys x) none (λ n. some (suc n)))

-- The number of the data type that a head is.
abbrev pub data_index : Head → Option ℕ
data_index (h_def i) = none
data_index (h_data i) = some i
data_index (h_con i k) = none
data_index (h_rec i j) = none
data_index (h_eq i) = none
data_index (h_refl i) = none
data_index (h_along i j) = none

-- A name with one number: eq.i, same.i, or the recursor of a data type into Type i.
abbrev pub one_index_head : List Global → Name → ℕ → Option Head
one_index_head gs x i =
    cond (same x w_eq) (some (h_eq i))
    (cond (same x w_same) (some (h_refl i))
    (option (lookup gs x) none (λ g. option (data_index g.head) none (λ k. some (h_rec k i)))))

-- A name with numbers: with one as above, with two along.i.j.
abbrev pub indexed_head : List Global → Name → List ℕ → Option Head
indexed_head gs x [] = none
indexed_head gs x (i ∷ []) = one_index_head gs x i
indexed_head gs x (i ∷ j ∷ []) = cond (same x w_along) (some (h_along i j)) none
indexed_head gs x (i ∷ j ∷ k ∷ ks) = none

-- Elab gs ys a t: among the globals gs and the bound names ys, the innermost first, the surface term a elaborates to t.
--   el_local: a name is the innermost bound variable of that name.
--   el_global: else the global of that name, applied to as many terms as are left out.
--   el_full: @x is the global with no argument left out, where no bound name hides it.
--   el_at: a name with numbers is its head, where no bound name hides it.
--   el_hole: a hole is any term.
--   el_have: have x : a { b } c is (fun (x : a) => c) b.
pub data Elab (gs : List Global) : List Name → Expr → Term → Type 0 where
  el_local : {ys : List Name} {x : Name} {n : ℕ} → index_of ys x ≡ some n → Elab gs ys (e_name x) (var n)
  el_global : {ys : List Name} {x : Name} {g : Global} (ts : List Term)
      → index_of ys x ≡ none → lookup gs x ≡ some g → length ts ≡ g.hidden → Elab gs ys (e_name x) (apps (const g.head) ts)
  el_full : {ys : List Name} {x : Name} {g : Global}
      → index_of ys x ≡ none → lookup gs x ≡ some g → Elab gs ys (e_full x) (const g.head)
  el_at : {ys : List Name} {x : Name} {ns : List ℕ} {h : Head}
      → index_of ys x ≡ none → indexed_head gs x ns ≡ some h → Elab gs ys (e_at x ns) (const h)
  el_sort : {ys : List Name} {i : ℕ} → Elab gs ys (e_sort i) (sort i)
  el_pi : {ys : List Name} {x : Name} {a b : Expr} {c d : Term}
      → Elab gs ys a c → Elab gs (x ∷ ys) b d → Elab gs ys (e_pi x a b) (pi c d)
  el_lam : {ys : List Name} {x : Name} {a b : Expr} {c d : Term}
      → Elab gs ys a c → Elab gs (x ∷ ys) b d → Elab gs ys (e_lam x a b) (lam c d)
  el_app : {ys : List Name} {f a : Expr} {g b : Term}
      → Elab gs ys f g → Elab gs ys a b → Elab gs ys (e_app f a) (app g b)
  el_hole : {ys : List Name} {t : Term} → Elab gs ys e_hole t
  el_by : {ys : List Name} {a : Expr} {t : Term} → Elab gs ys a t → Elab gs ys (e_by a) t
  el_have : {ys : List Name} {x : Name} {a b c : Expr} {t u v : Term}
      → Elab gs ys a t → Elab gs ys b u → Elab gs (x ∷ ys) c v → Elab gs ys (e_have x a b c) (app (lam t v) u)

-- ElabTelescope gs ys ps as zs: the parameters or fields ps elaborate to the telescope as, each behind the names before it; zs
-- are ys with their names.
pub data ElabTelescope (gs : List Global) : List Name → List Param → List Term → List Name → Type 0 where
  el_no_params : {ys : List Name} → ElabTelescope gs ys [] [] ys
  el_param : {ys zs : List Name} {p : Param} {ps : List Param} {a : Term} {as₁ : List Term}
      → Elab gs ys p.type a → ElabTelescope gs (p.name ∷ ys) ps as₁ zs → ElabTelescope gs ys (p ∷ ps) (a ∷ as₁) zs

-- The constructors elaborate, each by its fields, behind the names ys of the parameters.
pub data ElabConstructors (gs : List Global) (ys : List Name) : List ConDecl → List Constructor → Type 0 where
  el_no_cons : ElabConstructors gs ys [] []
  el_con : {zs : List Name} {s : ConDecl} {ss : List ConDecl} {as₁ : List Term} {cs : List Constructor}
      → ElabTelescope gs ys s.fields as₁ zs → ElabConstructors gs ys ss cs
      → ElabConstructors gs ys (s ∷ ss) (record { fields = as₁; recs = s.recs } ∷ cs)

-- Does the name hide no argument?
abbrev pub none_hidden : List Global → Name → Bool
none_hidden gs x = option (lookup gs x) true (λ g. eqb g.hidden 0)

-- Is nothing left out of the term: no hole, and no name whose arguments are left out?
abbrev pub plain : List Global → List Name → Expr → Bool
plain gs ys (e_name x) = option (index_of ys x) (none_hidden gs x) (λ n. true)
plain gs ys (e_at x ns) = true
plain gs ys (e_full x) = true
plain gs ys (e_sort i) = true
plain gs ys (e_pi x a b) = plain gs ys a && plain gs (x ∷ ys) b
plain gs ys (e_lam x a b) = plain gs ys a && plain gs (x ∷ ys) b
plain gs ys (e_app f a) = plain gs ys f && plain gs ys a
plain gs ys e_hole = false
plain gs ys (e_by a) = plain gs ys a
plain gs ys (e_have x a b c) = plain gs ys a && (plain gs ys b && plain gs (x ∷ ys) c)

-- Is nothing left out of the types of parameters or fields?
abbrev pub plain_params : List Global → List Name → List Param → Bool
plain_params gs ys [] = true
plain_params gs ys (p ∷ ps) = plain gs ys p.type && plain_params gs (p.name ∷ ys) ps

-- The bound names ys with those of parameters.
abbrev pub with_params : List Name → List Param → List Name
with_params ys [] = ys
with_params ys (p ∷ ps) = with_params (p.name ∷ ys) ps

-- Is nothing left out of the constructors?
abbrev pub plain_cons : List Global → List Name → List ConDecl → Bool
plain_cons gs ys [] = true
plain_cons gs ys (s ∷ ss) = plain_params gs ys s.fields && plain_cons gs ys ss
