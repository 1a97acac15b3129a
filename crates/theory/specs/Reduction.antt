-- Reduction: one step at any place, conversion, and the normal-order step.
use Rattle.std.specs.Prelude.{◌≡◌, Bool, true, false, ◌&&◌, cond, List, [], ◌∷◌, ◌++◌, ℕ, zero, suc, ◌+◌, length, take, drop, eqb}
use Rattle.std.proofs.Math.Option.{Option, some, none}
use Rattle.std.proofs.Math.ListN.{get_elem?}
use Rattle.theory.specs.Terms.{Head, h_def, h_data, h_con, h_rec, h_eq, h_refl, h_along, Term, var, const, sort, pi, lam, app, option, subst, apps}
use Rattle.theory.specs.Environment.{Constructor, DataType, Env, entry_body, data_at}

-- On options: the second where the first is none; a function of what is there; a function that may give none.
abbrev pub or_else : {A : Type 0} → Option A → Option A → Option A
or_else none b = b
or_else (some x) b = some x

abbrev pub map_option : {A C : Type 0} → (A → C) → Option A → Option C
map_option f none = none
map_option f (some x) = some (f x)

abbrev pub bind : {A C : Type 0} → Option A → (A → Option C) → Option C
bind none f = none
bind (some x) f = f x

-- The spine of a term: its head, if it is one, and the arguments that it is applied to.
pub record Spine : Type 0 where
  pub head : Option Head
  pub args : List Term

abbrev pub spine : Term → List Term → Spine
spine (var x) as₁ = record { head = none; args = as₁ }
spine (const h) as₁ = record { head = some h; args = as₁ }
spine (sort i) as₁ = record { head = none; args = as₁ }
spine (pi a b) as₁ = record { head = none; args = as₁ }
spine (lam a b) as₁ = record { head = none; args = as₁ }
spine (app f a) as₁ = spine f (a ∷ as₁)

-- Constructor number con of data type number index.
pub record ConAt : Type 0 where
  pub index : ℕ
  pub con : ℕ

abbrev pub con_of : Head → Option ConAt
con_of (h_def i) = none
con_of (h_data i) = none
con_of (h_con i k) = some (record { index = i; con = k })
con_of (h_rec i j) = none
con_of (h_eq i) = none
con_of (h_refl i) = none
con_of (h_along i j) = none

-- Is the head reflexivity?
abbrev pub is_refl : Head → Bool
is_refl (h_def i) = false
is_refl (h_data i) = false
is_refl (h_con i k) = false
is_refl (h_rec i j) = false
is_refl (h_eq i) = false
is_refl (h_refl i) = true
is_refl (h_along i j) = false

-- The last of the arguments.
abbrev pub last_arg : List Term → Option Term
last_arg [] = none
last_arg (a ∷ []) = some a
last_arg (a ∷ b ∷ as₁) = last_arg (b ∷ as₁)

-- r applied to each of the terms.
abbrev pub app_each : Term → List Term → List Term
app_each r [] = []
app_each r (a ∷ as₁) = app r a ∷ app_each r as₁

-- The number of arguments with which the recursor of a data type reduces: parameters, motive, cases, scrutinee.
abbrev pub rec_arity : DataType → ℕ
rec_arity k = length k.params + (2 + length k.cons)

-- The place of the case of constructor n among these.
abbrev pub case_place : DataType → ℕ → ℕ
case_place k n = length k.params + (1 + n)

-- What the case of constructor c is applied to, if the recursor has the arguments as₁ and the constructor bs: the constructor's fields
-- and recursive fields, and the recursor on each recursive field.
abbrev pub case_args : ℕ → ℕ → DataType → Constructor → List Term → List Term → List Term
case_args i j k c as₁ bs =
    drop (length k.params) bs ++ app_each (apps (const (h_rec i j)) (take (length k.params + (1 + length k.cons)) as₁)) (drop (length k.params + length c.fields) bs)

-- The recursor of data type i, applied to as₁, on constructor t applied to bs, if that has all its arguments: its case, applied.
abbrev pub iota_case : ℕ → ℕ → DataType → List Term → ConAt → List Term → Option Term
iota_case i j k as₁ t bs =
    cond (eqb i t.index)
    (bind (get_elem? k.cons t.con) (λ c.
    cond (eqb (length bs) (length k.params + (length c.fields + c.recs)))
    (bind (get_elem? as₁ (case_place k t.con)) (λ m. some (apps m (case_args i j k c as₁ bs))))
    none))
    none

-- A recursor that has its parameters, motive, cases and scrutinee reduces if the scrutinee is a constructor.
abbrev pub iota_rec : Env → ℕ → ℕ → List Term → Option Term
iota_rec e i j as₁ =
    bind (data_at e i) (λ k.
    cond (eqb (length as₁) (rec_arity k))
    (bind (last_arg as₁) (λ t. bind (spine t []).head (λ h. bind (con_of h) (λ c. iota_case i j k as₁ c (spine t []).args))))
    none)

-- along A a C d b p reduces to d if p is same A a.
abbrev pub iota_along : List Term → Option Term
iota_along as₁ =
    cond (eqb (length as₁) 6)
    (bind (last_arg as₁) (λ t. bind (spine t []).head (λ h. cond (is_refl h && eqb (length (spine t []).args) 2) (get_elem? as₁ 3) none)))
    none

-- What a head with these arguments reduces to.
abbrev pub iota_head : Env → Head → List Term → Option Term
iota_head e (h_def i) as₁ = none
iota_head e (h_data i) as₁ = none
iota_head e (h_con i k) as₁ = none
iota_head e (h_rec i j) as₁ = iota_rec e i j as₁
iota_head e (h_eq i) as₁ = none
iota_head e (h_refl i) as₁ = none
iota_head e (h_along i j) as₁ = iota_along as₁

-- Does a head with n arguments have to look at its last one?
abbrev pub needs_last : Env → Head → ℕ → Bool
needs_last e (h_def i) n = false
needs_last e (h_data i) n = false
needs_last e (h_con i k) n = false
needs_last e (h_rec i j) n = option (data_at e i) false (λ k. eqb n (length k.params + (2 + length k.cons)))
needs_last e (h_eq i) n = false
needs_last e (h_refl i) n = false
needs_last e (h_along i j) n = eqb n 6

-- A function applied to its argument.
abbrev pub beta : Term → Term → Option Term
beta (var x) a = none
beta (const h) a = none
beta (sort i) a = none
beta (pi b c) a = none
beta (lam b c) a = some (subst 0 a c)
beta (app f b) a = none

-- What the redex f a reduces to, if it is one: a function on its argument; a recursor or an elimination on its last argument.
abbrev pub contract : Env → Term → Term → Option Term
contract e f a = or_else (beta f a) (bind (spine (app f a) []).head (λ h. iota_head e h (spine (app f a) []).args))

-- A defined name unfolds to its body.
abbrev pub delta : Env → Head → Option Term
delta e (h_def i) = bind (get_elem? e i) entry_body
delta e (h_data i) = none
delta e (h_con i k) = none
delta e (h_rec i j) = none
delta e (h_eq i) = none
delta e (h_refl i) = none
delta e (h_along i j) = none

-- One reduction step at any place.
pub data Step (e : Env) : Term → Term → Type 0 where
  contracts : {f a t : Term} → contract e f a ≡ some t → Step e (app f a) t
  unfolds : {h : Head} {t : Term} → delta e h ≡ some t → Step e (const h) t
  in_fun : {f g a : Term} → Step e f g → Step e (app f a) (app g a)
  in_arg : {f a b : Term} → Step e a b → Step e (app f a) (app f b)
  in_pi : {a b c : Term} → Step e a b → Step e (pi a c) (pi b c)
  under_pi : {a b c : Term} → Step e b c → Step e (pi a b) (pi a c)
  in_lam : {a b c : Term} → Step e a b → Step e (lam a c) (lam b c)
  under_lam : {a b c : Term} → Step e b c → Step e (lam a b) (lam a c)

-- Any number of steps.
pub data Steps (e : Env) : Term → Term → Type 0 where
  no_steps : {t : Term} → Steps e t t
  a_step : {t u v : Term} → Step e t u → Steps e u v → Steps e t v

-- Convertible: steps lead from one to the other, forth and back.
pub data Conv (e : Env) : Term → Term → Type 0 where
  conv_refl : {t : Term} → Conv e t t
  conv_step : {t u v : Term} → Step e t u → Conv e u v → Conv e t v
  conv_back : {t u v : Term} → Step e u t → Conv e u v → Conv e t v

-- The normal-order step: the outermost first, from the left; of a recursor or an elimination with all its arguments, the last first.
abbrev pub normal_step : Env → Term → Option Term
normal_step e (var x) = none
normal_step e (const h) = delta e h
normal_step e (sort i) = none
normal_step e (pi a b) = or_else (map_option (λ c. pi c b) (normal_step e a)) (map_option (pi a) (normal_step e b))
normal_step e (lam a b) = or_else (map_option (λ c. lam c b) (normal_step e a)) (map_option (lam a) (normal_step e b))
normal_step e (app f a) =
    or_else (contract e f a)
    (cond (option (spine (app f a) []).head false (λ h. needs_last e h (length (spine (app f a) []).args)))
    (or_else (map_option (app f) (normal_step e a)) (map_option (λ g. app g a) (normal_step e f)))
    (or_else (map_option (λ g. app g a) (normal_step e f)) (map_option (app f) (normal_step e a))))

-- The term after n normal-order steps, if there are so many.
abbrev pub normal_steps : Env → ℕ → Term → Option Term
normal_steps e zero t = some t
normal_steps e (suc n) t = bind (normal_steps e n t) (normal_step e)
