-- Typing, well-formed environments, and inferred types.
use Rattle.std.specs.Prelude.{◌≡◌, Bool, true, false, List, [], ◌∷◌, ◌++◌, ℕ, suc, max, ◌≤◌, ◌<◌}
use Rattle.std.proofs.Math.Option.{some}
use Rattle.std.proofs.Math.ListN.{get_elem?}
use Rattle.theory.specs.Terms.{Head, Term, var, const, sort, pi, lam, app, lift, subst}
use Rattle.theory.specs.Environment.{Constructor, Entry, defined, assumed, inductive, Env, head_type_lem}
use Rattle.theory.specs.Reduction.{Conv, normal_steps}

-- HasType e g t a: in environment e and context g (types, the innermost first, each in the context behind it), t is of type a.
pub data HasType (e : Env) : List Term → Term → Term → Type 0 where
  t_var : {g : List Term} {x : ℕ} {a : Term} → get_elem? g x ≡ some a → HasType e g (var x) (lift 0 (suc x) a)
  t_head : {g : List Term} {h : Head} {a : Term} → head_type_lem e h ≡ some a → HasType e g (const h) a
  t_sort : {g : List Term} {i : ℕ} → HasType e g (sort i) (sort (suc i))
  t_pi : {g : List Term} {a b : Term} {i j : ℕ} → HasType e g a (sort i) → HasType e (a ∷ g) b (sort j) → HasType e g (pi a b) (sort (max i j))
  t_lam : {g : List Term} {a b t : Term} {i j : ℕ} → HasType e g a (sort i) → HasType e (a ∷ g) b (sort j) → HasType e (a ∷ g) t b → HasType e g (lam a t) (pi a b)
  t_app : {g : List Term} {f a b t : Term} → HasType e g f (pi a b) → HasType e g t a → HasType e g (app f t) (subst 0 t b)
  t_conv : {g : List Term} {t a b : Term} {j : ℕ} → HasType e g t a → Conv e a b → HasType e g b (sort j) → HasType e g t b

-- A telescope: types, each of a sort in the context of those before it.
pub data Telescope (e : Env) : List Term → List Term → Type 0 where
  tel_end : {g : List Term} → Telescope e g []
  tel_more : {g as₁ : List Term} {a : Term} {i : ℕ} → HasType e g a (sort i) → Telescope e (a ∷ g) as₁ → Telescope e g (a ∷ as₁)

-- A telescope whose sorts are at most Type n.
pub data Bounded (e : Env) (n : ℕ) : List Term → List Term → Type 0 where
  bnd_end : {g : List Term} → Bounded e n g []
  bnd_more : {g as₁ : List Term} {a : Term} {i : ℕ} → HasType e g a (sort i) → i ≤ n → Bounded e n (a ∷ g) as₁ → Bounded e n g (a ∷ as₁)

-- The context g with a telescope put behind it.
abbrev pub extend : List Term → List Term → List Term
extend g [] = g
extend g (a ∷ as₁) = extend (a ∷ g) as₁

-- The fields of every constructor are a telescope of sorts up to Type n.
abbrev pub AllBounded : Env → ℕ → List Term → List Constructor → Type 0
AllBounded e n g [] = Unit {0}
AllBounded e n g (c ∷ cs) = Bounded e n g c.fields × AllBounded e n g cs

-- What may be declared in e: a definition whose type is of a sort and whose body is of that type; an axiom whose type is of a
-- sort; a data type whose parameters are a telescope and whose fields, in their context, are of sorts up to its level.
abbrev pub WfEntry : Env → Entry → Type 0
WfEntry e (defined t a) = (i : ℕ) × HasType e [] a (sort i) × HasType e [] t a
WfEntry e (assumed a) = (i : ℕ) × HasType e [] a (sort i)
WfEntry e (inductive k) = Telescope e [] k.params × AllBounded e k.level (extend [] k.params) k.cons

-- A well-formed environment: each entry is well-formed in what is before it.
pub data WfEnv : Env → Type 0 where
  env_end : WfEnv []
  env_more : {e : Env} (d : Entry) → WfEnv e → WfEntry e d → WfEnv (e ++ (d ∷ []))

-- A well-formed context: each type is of a sort in what is behind it.
pub data WfContext (e : Env) : List Term → Type 0 where
  ctx_end : WfContext e []
  ctx_more : {g : List Term} {a : Term} {i : ℕ} → WfContext e g → HasType e g a (sort i) → WfContext e (a ∷ g)

-- Is the term a function type, a sort?
abbrev pub is_pi : Term → Bool
is_pi (var x) = false
is_pi (const h) = false
is_pi (sort i) = false
is_pi (pi a b) = true
is_pi (lam a b) = false
is_pi (app f a) = false

abbrev pub is_sort : Term → Bool
is_sort (var x) = false
is_sort (const h) = false
is_sort (sort i) = true
is_sort (pi a b) = false
is_sort (lam a b) = false
is_sort (app f a) = false

-- u is the first term with the property p that normal-order reduction of t comes to.
pub record FirstReduct (e : Env) (p : Term → Bool) (t u : Term) : Type 0 where
  pub n : ℕ
  pub reaches : normal_steps e n t ≡ some u
  pub is : p u ≡ true
  pub before : (m : ℕ) (v : Term) → m < n → normal_steps e m t ≡ some v → p v ≡ false

-- The inferred type: found from the inside, without conversion; an application takes the first function type that the function's
-- type reduces to, a function type the first sorts.
pub data Infers (e : Env) : List Term → Term → Term → Type 0 where
  i_var : {g : List Term} {x : ℕ} {a : Term} → get_elem? g x ≡ some a → Infers e g (var x) (lift 0 (suc x) a)
  i_head : {g : List Term} {h : Head} {a : Term} → head_type_lem e h ≡ some a → Infers e g (const h) a
  i_sort : {g : List Term} {i : ℕ} → Infers e g (sort i) (sort (suc i))
  i_pi : {g : List Term} {a b : Term} {i j : ℕ} {k l : Term} → Infers e g a k → FirstReduct e is_sort k (sort i) → Infers e (a ∷ g) b l → FirstReduct e is_sort l (sort j) → Infers e g (pi a b) (sort (max i j))
  i_lam : {g : List Term} {a b t : Term} → Infers e (a ∷ g) t b → Infers e g (lam a t) (pi a b)
  i_app : {g : List Term} {f a b t k : Term} → Infers e g f k → FirstReduct e is_pi k (pi a b) → Infers e g (app f t) (subst 0 t b)

-- Subterm g t d u: u, in context d, is a part of t, in context g.
pub data Subterm : List Term → Term → List Term → Term → Type 0 where
  whole : {g : List Term} {t : Term} → Subterm g t g t
  pi_left : {g d : List Term} {a b t : Term} → Subterm g a d t → Subterm g (pi a b) d t
  pi_right : {g d : List Term} {a b t : Term} → Subterm (a ∷ g) b d t → Subterm g (pi a b) d t
  lam_left : {g d : List Term} {a b t : Term} → Subterm g a d t → Subterm g (lam a b) d t
  lam_right : {g d : List Term} {a b t : Term} → Subterm (a ∷ g) b d t → Subterm g (lam a b) d t
  app_left : {g d : List Term} {f a t : Term} → Subterm g f d t → Subterm g (app f a) d t
  app_right : {g d : List Term} {f a t : Term} → Subterm g a d t → Subterm g (app f a) d t
