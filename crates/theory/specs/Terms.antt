-- Terms with de Bruijn indices.
use Rattle.std.specs.Prelude.{cond, List, [], ◌∷◌, ℕ, suc, ◌+◌, ◌-◌, max, eqb, ltb}
use Rattle.std.proofs.Math.Option.{Option, some, none}
use Rattle.std.proofs.Math.ListN.{get_elem?}

-- Heads: a definition or an axiom by its number in the environment; a data type by its number; constructor k of data type i; the
-- recursor of data type i into Type j; equality in Type i; reflexivity; elimination of an equality in Type i into Type j.
pub data Head : Type 0 where
  h_def : ℕ → Head
  h_data : ℕ → Head
  h_con : ℕ → ℕ → Head
  h_rec : ℕ → ℕ → Head
  h_eq : ℕ → Head
  h_refl : ℕ → Head
  h_along : ℕ → ℕ → Head

-- A term: a bound variable by its de Bruijn index, a head, Type i, (x : a) -> b, fun (x : a) => b, f a.
pub data Term : Type 0 where
  var : ℕ → Term
  const : Head → Term
  sort : ℕ → Term
  pi : Term → Term → Term
  lam : Term → Term → Term
  app : Term → Term → Term

-- By cases on an option.
abbrev pub option : {A C : Type 0} → Option A → C → (A → C) → C
option none c f = c
option (some x) c f = f x

-- Adds d to every index that is at least c: the term under d more binders.
abbrev pub lift : ℕ → ℕ → Term → Term
lift c d (var x) = cond (ltb x c) (var x) (var (x + d))
lift c d (const h) = const h
lift c d (sort i) = sort i
lift c d (pi a b) = pi (lift c d a) (lift (suc c) d b)
lift c d (lam a b) = lam (lift c d a) (lift (suc c) d b)
lift c d (app f a) = app (lift c d f) (lift c d a)

-- Puts u for index k; larger indices go down by one.
abbrev pub subst : ℕ → Term → Term → Term
subst k u (var x) = cond (ltb x k) (var x) (cond (eqb x k) (lift 0 k u) (var (x - 1)))
subst k u (const h) = const h
subst k u (sort i) = sort i
subst k u (pi a b) = pi (subst k u a) (subst (suc k) u b)
subst k u (lam a b) = lam (subst k u a) (subst (suc k) u b)
subst k u (app f a) = app (subst k u f) (subst k u a)

-- Simultaneous substitution: the terms us, the innermost first, for the indices from d on (Type 0 for one that us does not reach).
abbrev pub subst_all : List Term → ℕ → Term → Term
subst_all us d (var x) = cond (ltb x d) (var x) (option (get_elem? us (x - d)) (sort 0) (lift 0 d))
subst_all us d (const h) = const h
subst_all us d (sort i) = sort i
subst_all us d (pi a b) = pi (subst_all us d a) (subst_all us (suc d) b)
subst_all us d (lam a b) = lam (subst_all us d a) (subst_all us (suc d) b)
subst_all us d (app f a) = app (subst_all us d f) (subst_all us d a)

-- f applied to arguments, from the left.
abbrev pub apps : Term → List Term → Term
apps f [] = f
apps f (a ∷ as₁) = apps (app f a) as₁

-- Each term under d more binders.
abbrev pub lifts : ℕ → List Term → List Term
lifts d [] = []
lifts d (t ∷ ts) = lift 0 d t ∷ lifts d ts

-- The function type over a telescope of domains.
abbrev pub pis : List Term → Term → Term
pis [] b = b
pis (a ∷ as₁) b = pi a (pis as₁ b)

-- The number of nodes.
abbrev pub size : Term → ℕ
size (var x) = 1
size (const h) = 1
size (sort i) = 1
size (pi a b) = 1 + (size a + size b)
size (lam a b) = 1 + (size a + size b)
size (app f a) = 1 + (size f + size a)

-- How deep arguments are nested in arguments.
abbrev pub depth : Term → ℕ
depth (var x) = 0
depth (const h) = 0
depth (sort i) = 0
depth (pi a b) = max (depth a) (depth b)
depth (lam a b) = max (depth a) (depth b)
depth (app f a) = max (depth f) (1 + depth a)
