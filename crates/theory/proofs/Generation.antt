-- What the typing of a term says of its parts: one record for each term former.
-- The type of the term is known up to conversion.
use Rattle.std.proofs.Common.{◌≡◌, List, ◌∷◌, ℕ, suc, max}
use mathlib.Core.Option.{some}
use lib.ListN.{get_elem?}
use Rattle.theory.specs.Terms.{Head, Term, var, const, sort, pi, lam, app, lift, subst}
use Rattle.theory.specs.Environment.{Env, head_type_lem}
use Rattle.theory.specs.Reduction.{Conv, conv_refl}
use Rattle.theory.specs.Typing.{HasType, t_var, t_head, t_sort, t_pi, t_lam, t_app, t_conv}
use Rattle.theory.proofs.Conversion.{conv_trans}

pub record VarTyped (e : Env) (g : List Term) (x : ℕ) (c : Term) : Type 0 where
  pub a : Term
  pub at : get_elem? g x ≡ some a
  pub conv : Conv e (lift 0 (suc x) a) c

pub record HeadTyped (e : Env) (h : Head) (c : Term) : Type 0 where
  pub a : Term
  pub at : head_type_lem e h ≡ some a
  pub conv : Conv e a c

pub record PiTyped (e : Env) (g : List Term) (a b c : Term) : Type 0 where
  pub i : ℕ
  pub j : ℕ
  pub left : HasType e g a (sort i)
  pub right : HasType e (a ∷ g) b (sort j)
  pub conv : Conv e (sort (max i j)) c

pub record LamTyped (e : Env) (g : List Term) (a t c : Term) : Type 0 where
  pub b : Term
  pub i : ℕ
  pub j : ℕ
  pub left : HasType e g a (sort i)
  pub right : HasType e (a ∷ g) b (sort j)
  pub body : HasType e (a ∷ g) t b
  pub conv : Conv e (pi a b) c

pub record AppTyped (e : Env) (g : List Term) (f t c : Term) : Type 0 where
  pub a : Term
  pub b : Term
  pub fun : HasType e g f (pi a b)
  pub arg : HasType e g t a
  pub conv : Conv e (subst 0 t b) c

pub var_typed : {e : Env} {g : List Term} {x : ℕ} {c : Term} → HasType e g (var x) c → VarTyped e g x c
var_typed (t_var {a} p) = record { a = a; at = p; conv = conv_refl }
var_typed (t_conv p s q) = let r = var_typed p in record { a = r.a; at = r.at; conv = conv_trans r.conv s }

pub head_typed : {e : Env} {g : List Term} {h : Head} {c : Term} → HasType e g (const h) c → HeadTyped e h c
head_typed (t_head {a} p) = record { a = a; at = p; conv = conv_refl }
head_typed (t_conv p s q) = let r = head_typed p in record { a = r.a; at = r.at; conv = conv_trans r.conv s }

pub sort_typed : {e : Env} {g : List Term} {i : ℕ} {c : Term} → HasType e g (sort i) c → Conv e (sort (suc i)) c
sort_typed t_sort = conv_refl
sort_typed (t_conv p s q) = conv_trans (sort_typed p) s

pub pi_typed : {e : Env} {g : List Term} {a b c : Term} → HasType e g (pi a b) c → PiTyped e g a b c
pi_typed (t_pi {i} {j} p q) = record { i = i; j = j; left = p; right = q; conv = conv_refl }
pi_typed (t_conv p s q) = let r = pi_typed p in record { i = r.i; j = r.j; left = r.left; right = r.right; conv = conv_trans r.conv s }

pub lam_typed : {e : Env} {g : List Term} {a t c : Term} → HasType e g (lam a t) c → LamTyped e g a t c
lam_typed (t_lam {b} {i} {j} p q r) = record { b = b; i = i; j = j; left = p; right = q; body = r; conv = conv_refl }
lam_typed (t_conv p s q) = let r = lam_typed p in record { b = r.b; i = r.i; j = r.j; left = r.left; right = r.right; body = r.body; conv = conv_trans r.conv s }

pub app_typed : {e : Env} {g : List Term} {f t c : Term} → HasType e g (app f t) c → AppTyped e g f t c
app_typed (t_app {a} {b} p q) = record { a = a; b = b; fun = p; arg = q; conv = conv_refl }
app_typed (t_conv p s q) = let r = app_typed p in record { a = r.a; b = r.b; fun = r.fun; arg = r.arg; conv = conv_trans r.conv s }
