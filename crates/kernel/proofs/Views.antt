-- A term by its root.
use Rattle.std.proofs.Common.{◌≡◌, ℕ, subst as tr}
use Rattle.theory.specs.Terms.{h_def, h_data, h_con, h_rec, h_eq, h_refl, h_along, Term, var, const, sort, pi, lam, app}
use Rattle.terms.specs.declared.sign.Index.{Index}
use Rattle.terms.specs.declared.sign.Level.{Level}
use Rattle.terms.specs.declared.sign.Sign.{Sign}
use Rattle.terms.specs.declared.sign.Sign.TheVariants.{Pi, Lam, App, Var, Sort, Def, Data, Con, Rec, Eq, Refl, Along}
use Rattle.terms.specs.Words.{root}
use Rattle.kernel.specs.Machine.{Core}

pub data View : Term → Sign → Type 0 where
  v_pi : {a b : Term} → View (pi a b) Pi
  v_lam : {a b : Term} → View (lam a b) Lam
  v_app : {f a : Term} → View (app f a) App
  v_var : {x : Index} → View (var x.0) (Var x)
  v_sort : {i : Level} → View (sort i.0) (Sort i)
  v_def : {i : ℕ} → View (const (h_def i)) (Def i)
  v_data : {i : ℕ} → View (const (h_data i)) (Data i)
  v_con : {i k : ℕ} → View (const (h_con i k)) (Con i k)
  v_rec : {i j : ℕ} → View (const (h_rec i j)) (Rec i j)
  v_eq : {i : ℕ} → View (const (h_eq i)) (Eq i)
  v_refl : {i : ℕ} → View (const (h_refl i)) (Refl i)
  v_along : {i j : ℕ} → View (const (h_along i j)) (Along i j)

view_root : (t : Term) → View t (root t)
view_root (pi a b) = v_pi
view_root (lam a b) = v_lam
view_root (app f a) = v_app
view_root (var x) = v_var
view_root (sort i) = v_sort
view_root (const (h_def i)) = v_def
view_root (const (h_data i)) = v_data
view_root (const (h_con i k)) = v_con
view_root (const (h_rec i j)) = v_rec
view_root (const (h_eq i)) = v_eq
view_root (const (h_refl i)) = v_refl
view_root (const (h_along i j)) = v_along

pub view : {s : Sign} (t : Term) → root t ≡ s → View t s
view t p = tr (View t) p (view_root t)

-- A term of the core has one of these roots.
pub core_rest : (t : Term) (s : Sign) → s ≡ root t → Core t → (s ≡ Pi → ⊥) → (s ≡ Lam → ⊥) → (s ≡ App → ⊥) → ((x : Index) → s ≡ Var x → ⊥) → ((i : Level) → s ≡ Sort i → ⊥) → ((i : ℕ) → s ≡ Def i → ⊥) → ⊥
core_rest (pi a b) s p c n₁ n₂ n₃ n₄ n₅ n₆ = n₁ p
core_rest (lam a b) s p c n₁ n₂ n₃ n₄ n₅ n₆ = n₂ p
core_rest (app f a) s p c n₁ n₂ n₃ n₄ n₅ n₆ = n₃ p
core_rest (var x) s p c n₁ n₂ n₃ n₄ n₅ n₆ = n₄ _ p
core_rest (sort i) s p c n₁ n₂ n₃ n₄ n₅ n₆ = n₅ _ p
core_rest (const (h_def i)) s p c n₁ n₂ n₃ n₄ n₅ n₆ = n₆ i p
core_rest (const (h_data i)) s p c n₁ n₂ n₃ n₄ n₅ n₆ = c
core_rest (const (h_con i k)) s p c n₁ n₂ n₃ n₄ n₅ n₆ = c
core_rest (const (h_rec i j)) s p c n₁ n₂ n₃ n₄ n₅ n₆ = c
core_rest (const (h_eq i)) s p c n₁ n₂ n₃ n₄ n₅ n₆ = c
core_rest (const (h_refl i)) s p c n₁ n₂ n₃ n₄ n₅ n₆ = c
core_rest (const (h_along i j)) s p c n₁ n₂ n₃ n₄ n₅ n₆ = c
