-- How atoms, applications and terms begin, by which the reader knows what comes: an application is an atom and a row of atoms,
-- an atom begins as starts_atom says, and no term begins with a name and a colon.
use Rattle.std.proofs.Common.{◌≡◌, ℕ, Bool, true, false, cond, not, ◌&&◌, T, List, [], ◌∷◌, ◌++◌, sym, refl, ap, ◌∙◌, subst as tr, append_assoc, append-nil, arith, T_not}
use mathlib.Core.Option.{some, none}
use lib.Dec.{not_T}
use Rattle.syntax.specs.Surface.{Name, same, Expr, e_app}
use Rattle.syntax.specs.Grammar.{k_fun, t_lp, t_rp, t_colon, t_dot, t_to, is_name, is_indexed_lem, IsDots, x_one, x_two, IsExpr, x_tighter, x_fun, x_pi, x_arrow, x_app, x_name, x_at, x_full, x_sort, x_hole, x_brackets, x_by}
use Rattle.syntax.specs.Reader.{bind, then, eat, read_binder, starts_atom_lem}
use Rattle.syntax.proofs.Gives.{bind_not}
use Rattle.syntax.proofs.Same.{to_false, or_left, same_is}

-- A row of atoms s behind f makes a.
pub data Run : List Name → Expr → Expr → Type 0 where
  r_none : {f : Expr} → Run [] f f
  r_more : {s t : List Name} {f a b : Expr} → IsExpr 2 s a → Run t (e_app f a) b → Run (s ++ t) f b

-- An application is an atom and a row of atoms behind it.
pub record Spine (s : List Name) (a : Expr) : Type 0 where
  pub head : List Name
  pub tail : List Name
  pub first : Expr
  pub is : s ≡ head ++ tail
  pub atom : IsExpr 2 head first
  pub run : Run tail first a

spine_on : {s : List Name} {b : Expr} → IsExpr 1 s b → {t : List Name} {a : Expr} → Run t b a → Spine (s ++ t) a
spine_on {s} {b} (x_tighter h d) {t} r = record { head = s; tail = t; first = b; is = refl; atom = d; run = r }
spine_on (x_app {s} {t} d e) {t = u} {a} r = tr (λ z. Spine z a) (sym (append_assoc s t u)) (spine_on d (r_more e r))

pub spine : {s : List Name} {a : Expr} → IsExpr 1 s a → Spine s a
spine {s} {a} d = tr (λ z. Spine z a) (append-nil s) (spine_on d r_none)

pub spine_split : {s : List Name} {a : Expr} (p : Spine s a) (r : List Name) → s ++ r ≡ p.head ++ (p.tail ++ r)
spine_split p r = ap (λ w. w ++ r) p.is ∙ append_assoc p.head p.tail r

-- Do the tokens begin with k? With a name and a colon?
abbrev pub begins : Name → List Name → Bool
begins k [] = false
begins k (w ∷ ts) = same w k

abbrev pub named : List Name → Bool
named [] = false
named (w ∷ ts) = is_name w && begins t_colon ts

pub eat-none : (k : Name) (ts : List Name) → T (not (begins k ts)) → eat k ts ≡ none
eat-none k [] h = refl
eat-none k (w ∷ ts) h = rw (to_false (same w k) h) refl

-- No token for which a test passes is one for which it fails.
not_same : (f : Name → Bool) (w k : Name) → T (f w) → T (not (f k)) → T (not (same w k))
not_same f w k h i = not_T (same w k) λ e. T_not (f k) i (tr (λ z. T (f z)) (same_is w k e) h)

-- What starts an atom is no token that starts none.
pub no_start : (k : Name) (ts : List Name) → T (starts_atom_lem ts) → T (not (starts_atom_lem (k ∷ []))) → T (not (begins k ts))
no_start k [] h i = absurd h
no_start k (w ∷ ts) h i = not_same (λ z. starts_atom_lem (z ∷ [])) w k h i

-- What may stand before numbers is none of the other tokens.
pub no_word : (x k : Name) → T (is_indexed_lem x) → T (not (is_indexed_lem k)) → T (not (same x k))
no_word x k h i = not_same is_indexed_lem x k h i

pub name_indexed : (x : Name) → T (is_name x) → T (is_indexed_lem x)
name_indexed x h = or_left (is_name x) _ h

pub atom_starts : {s : List Name} {a : Expr} → IsExpr 2 s a → (r : List Name) → T (starts_atom_lem (s ++ r))
atom_starts (x_tighter h d) r = absurd (let f : ⊥ = omega arith in f)
atom_starts (x_name {x} i) r = or_left (is_indexed_lem x) _ (name_indexed x i)
atom_starts (x_at {x} i d) r = or_left (is_indexed_lem x) _ i
atom_starts (x_full i) r = tt
atom_starts (x_sort i) r = tt
atom_starts x_hole r = tt
atom_starts (x_brackets d) r = tt
atom_starts (x_by d) r = tt

-- No term begins with a name and a colon, unless a colon stands behind it.
no_and : (a b : Bool) → T (not b) → T (not (a && b))
no_and true b h = h
no_and false b h = tt

dots_no_colon : {s : List Name} {ns : List ℕ} → IsDots s ns → (r : List Name) → T (not (begins t_colon (s ++ r)))
dots_no_colon (x_one i) r = tt
dots_no_colon (x_two i j) r = tt

not_named : {n : ℕ} {s : List Name} {a : Expr} → IsExpr n s a → (r : List Name) → T (not (begins t_colon r)) → T (not (named (s ++ r)))
not_named (x_tighter h d) r c = not_named d r c
not_named (x_fun i d e) r c = tt
not_named (x_pi i d e) r c = tt
not_named (x_arrow {s} {t} d e) r c = tr (λ z. T (not (named z))) (sym (append_assoc s (t_to ∷ t) r)) (not_named d (t_to ∷ (t ++ r)) tt)
not_named (x_app {s} {t} d e) r c = tr (λ z. T (not (named z))) (sym (append_assoc s t r)) (not_named d (t ++ r) (no_start t_colon (t ++ r) (atom_starts e r) tt))
not_named (x_name {x} i) r c = no_and (is_name x) _ c
not_named (x_at {x} i d) r c = no_and (is_name x) _ (dots_no_colon d r)
not_named (x_full i) r c = tt
not_named (x_sort i) r c = tt
not_named x_hole r c = tt
not_named (x_brackets d) r c = tt
not_named (x_by d) r c = tt

-- An atom, and so an application, does not begin like a function or a function type.
read_unnamed : (ts : List Name) → T (not (named ts)) → read_binder (t_lp ∷ ts) ≡ none
read_unnamed [] h = refl
read_unnamed (w ∷ ts) h = go (is_name w) h
  where
    go : (b : Bool) → T (not (b && begins t_colon ts)) → then {A = Name} {C = Name × List Name} (cond b (some (w, ts)) none) (λ x vs. bind (eat t_colon vs) (λ ws. some (x, ws))) ≡ none
    go true i = rw (eat-none t_colon ts i) refl
    go false i = refl

pub atom_no_binder : {s : List Name} {a : Expr} → IsExpr 2 s a → (r : List Name) → read_binder (s ++ r) ≡ none
atom_no_binder (x_tighter h d) r = absurd (let f : ⊥ = omega arith in f)
atom_no_binder (x_name {x} i) r = bind_not _ _ (eat-none t_lp (x ∷ r) (no_word x t_lp (name_indexed x i) tt))
atom_no_binder (x_at {x} {s} i d) r = bind_not _ _ (eat-none t_lp (x ∷ (s ++ r)) (no_word x t_lp i tt))
atom_no_binder (x_full i) r = refl
atom_no_binder (x_sort i) r = refl
atom_no_binder x_hole r = refl
atom_no_binder (x_brackets {s} d) r = read_unnamed ((s ++ (t_rp ∷ [])) ++ r) (tr (λ z. T (not (named z))) (sym (append_assoc s (t_rp ∷ []) r)) (not_named d (t_rp ∷ r) tt))
atom_no_binder (x_by d) r = refl

pub atom_no_fun : {s : List Name} {a : Expr} → IsExpr 2 s a → (r : List Name) → eat k_fun (s ++ r) ≡ none
atom_no_fun {s} d r = eat-none k_fun (s ++ r) (no_start k_fun (s ++ r) (atom_starts d r) tt)

-- A row of atoms begins with no dot, unless it is empty.
pub run_no_dot : {s : List Name} {f a : Expr} → Run s f a → (r : List Name) → T (not (begins t_dot r)) → T (not (begins t_dot (s ++ r)))
run_no_dot r_none r h = h
run_no_dot (r_more {s} {t} d u) r h = tr (λ z. T (not (begins t_dot z))) (sym (append_assoc s t r)) (no_start t_dot (s ++ (t ++ r)) (atom_starts d (t ++ r)) tt)
