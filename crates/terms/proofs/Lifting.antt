-- Lifting and substituting, node by node.
use Rattle.std.proofs.Common.{◌≡◌, ℕ, suc, ◌+◌, ◌-◌, ◌^◌, ◌∷◌, ◌∙◌, ◌<◌, ◌≤◌, eqb, ltb, ◌⊎◌, List, [], length, subst as tr, sym, refl, ap, inl, inr, ⊎_elim, Ok, Err, Result, arith, ltb-false, ltb-true, le-ltb, lt-ltb, eq-eqb, ne_eqb, eqb-true}
use borrow.Author.Tests.{eqb-false}
use Rattle.theory.specs.Terms.{h_def, h_data, h_con, h_rec, h_eq, h_refl, h_along, Term, var, const, sort, pi, lam, app, size, lift, subst}
use Rattle.theory.proofs.Options.{cases_bool}
use Rattle.terms.specs.declared.sign.Sign.{Sign}
use Rattle.terms.specs.declared.sign.Sign.TheVariants.{Pi, Lam, App, Var, Sort, Def, Data, Con, Rec, Eq, Refl, Along}
use Rattle.terms.specs.Copying.{Copies, Writes}
use Rattle.terms.specs.declared.copy.WriteError.{WriteError}
use Rattle.terms.specs.declared.copy.WriteError.TheVariants.{NoRoom, NoStack}
use Rattle.terms.proofs.Appending.{append_as}
use Rattle.terms.specs.Words.{put, sign_words, lift_sign, is_index_lem, subst_sign, subst_words, Small, SmallSign, HoldsSmall}
use Rattle.terms.specs.Rewriting.{rewritten, EachNode}
use Rattle.terms.proofs.Nodes.{put_append, put-length, size-parts, small_more, small_sign}

order : (x k : ℕ) → (x < k) ⊎ ((x ≡ k) ⊎ (k < x))
order x k = cases_bool (ltb x k) (λ e. inl (ltb-true x k e)) (λ e. cases_bool (eqb x k) (λ f. inr (inl (eqb-true x k f))) (λ f. inr (inr (let g = eqb-false x k f in let h = ltb-false x k e in lt_of g h))))
  where
    lt_of : (x ≡ k → ⊥) → k ≤ x → k < x
    lt_of g h = omega arith

pub sign_length : (s : Sign) → length (sign_words s) ≡ 3
sign_length Pi = refl
sign_length Lam = refl
sign_length App = refl
sign_length (Var x) = refl
sign_length (Sort i) = refl
sign_length (Def i) = refl
sign_length (Data i) = refl
sign_length (Con i k) = refl
sign_length (Rec i j) = refl
sign_length (Eq i) = refl
sign_length (Refl i) = refl
sign_length (Along i j) = refl

pub sign_long : (s : Sign) → 3 ≤ length (sign_words s)
sign_long s = omega (arith, sign_length s)

-- The words for a node of a lifted term.
abbrev pub lift_words : ℕ → ℕ → Sign → List ℕ
lift_words by d x = sign_words (lift_sign d by x)

pub lift_is : (by d : ℕ) (t : Term) (r : List ℕ) → rewritten (lift_words by) d t r ≡ put (lift d by t) r
lift_is by d (pi a b) r = ap (λ (z : List ℕ). 0 ∷ 0 ∷ 0 ∷ z) (lift_is by d a _ ∙ ap (put (lift d by a)) (lift_is by (suc d) b r))
lift_is by d (lam a b) r = ap (λ (z : List ℕ). 1 ∷ 0 ∷ 0 ∷ z) (lift_is by d a _ ∙ ap (put (lift d by a)) (lift_is by (suc d) b r))
lift_is by d (app f a) r = ap (λ (z : List ℕ). 2 ∷ 0 ∷ 0 ∷ z) (lift_is by d f _ ∙ ap (put (lift d by f)) (lift_is by d a r))
lift_is by d (var x) r = cases_bool (ltb x d) (λ e. rw e refl) (λ e. rw e refl)
lift_is by d (sort i) r = refl
lift_is by d (const (h_def i)) r = refl
lift_is by d (const (h_data i)) r = refl
lift_is by d (const (h_con i k)) r = refl
lift_is by d (const (h_rec i j)) r = refl
lift_is by d (const (h_eq i)) r = refl
lift_is by d (const (h_refl i)) r = refl
lift_is by d (const (h_along i j)) r = refl

-- A term with small indices has small nodes.
pub lift_fits : (b d : ℕ) (t : Term) → Small b t → EachNode (λ c x. SmallSign b x) d t
lift_fits b d (pi a c) s = (tt, lift_fits b d a s.0, lift_fits b (suc d) c s.1)
lift_fits b d (lam a c) s = (tt, lift_fits b d a s.0, lift_fits b (suc d) c s.1)
lift_fits b d (app f a) s = (tt, lift_fits b d f s.0, lift_fits b d a s.1)
lift_fits b d (var x) s = s
lift_fits b d (sort i) s = tt
lift_fits b d (const h) s = small_sign (const h) b s

-- The words for a node of a term in which u is put for a variable.
abbrev pub words_with : Term → ℕ → Sign → List ℕ
words_with u d x = subst_words d u x

pub subst_is : (u : Term) (k : ℕ) (t : Term) (r : List ℕ) → rewritten (words_with u) k t r ≡ put (subst k u t) r
subst_is u k (pi a b) r = ap (λ (z : List ℕ). 0 ∷ 0 ∷ 0 ∷ z) (subst_is u k a _ ∙ ap (put (subst k u a)) (subst_is u (suc k) b r))
subst_is u k (lam a b) r = ap (λ (z : List ℕ). 1 ∷ 0 ∷ 0 ∷ z) (subst_is u k a _ ∙ ap (put (subst k u a)) (subst_is u (suc k) b r))
subst_is u k (app f a) r = ap (λ (z : List ℕ). 2 ∷ 0 ∷ 0 ∷ z) (subst_is u k f _ ∙ ap (put (subst k u f)) (subst_is u k a r))
subst_is u k (var x) r =
    ⊎_elim (λ h. rw (lt-ltb x k h, ne_eqb x k (omega arith), le-ltb k x (omega arith)) refl)
    (⊎_elim (λ h. rw (le-ltb x k (omega arith), eq-eqb x k h) (sym (put_append (lift 0 k u) [] r))) (λ h. rw (le-ltb x k (omega arith), ne_eqb x k (omega arith), lt-ltb k x h) refl))
    (order x k)
subst_is u k (sort i) r = refl
subst_is u k (const (h_def i)) r = refl
subst_is u k (const (h_data i)) r = refl
subst_is u k (const (h_con i j)) r = refl
subst_is u k (const (h_rec i j)) r = refl
subst_is u k (const (h_eq i)) r = refl
subst_is u k (const (h_refl i)) r = refl
subst_is u k (const (h_along i j)) r = refl

pub subst_long : (k : ℕ) (u : Term) (x : Sign) → 3 ≤ length (subst_words k u x)
subst_long k u x = cases_bool (is_index_lem k x)
    (λ e. rw e (omega (arith, put-length (lift 0 k u) [], size-parts (lift 0 k u))))
    (λ e. rw e (omega (arith, sign_length (subst_sign k x))))

less : {ws : List ℕ} {p : ℕ} → HoldsSmall (2 ^ 63) ws p → (d : ℕ) → d ≤ 2 ^ 63 → HoldsSmall (2 ^ 64 - d) ws p
less h d k = record { term = h.term; rest = h.rest; at = h.at; small = small_more h.term _ _ h.small (omega arith) }

-- The argument's indices are small enough for every depth that the body's size allows.
pub depths_fit : (ws : List ℕ) (p d : ℕ) (t : Term) → HoldsSmall (2 ^ 63) ws p → d + size t ≤ 2 ^ 63 → EachNode (λ c x. HoldsSmall (2 ^ 64 - c) ws p) d t
depths_fit ws p d (pi a b) h k = (less h d (omega arith), depths_fit ws p d a h (omega arith), depths_fit ws p (suc d) b h (omega arith))
depths_fit ws p d (lam a b) h k = (less h d (omega arith), depths_fit ws p d a h (omega arith), depths_fit ws p (suc d) b h (omega arith))
depths_fit ws p d (app f a) h k = (less h d (omega arith), depths_fit ws p d f h (omega arith), depths_fit ws p d a h (omega arith))
depths_fit ws p d (var x) h k = less h d (omega arith)
depths_fit ws p d (sort i) h k = less h d (omega arith)
depths_fit ws p d (const c) h k = less h d (omega arith)

-- A term written is its words written.
pub writes_term : (before after : List ℕ) (start stack : ℕ) (v : Term) (new : List ℕ) → new ≡ put v [] → (r : Result ℕ WriteError) → Copies before start after stack v r → Writes before start after stack new r
writes_term before after start stack v new e (Ok end) c = append_as _ _ _ _ _ _ (sym e) c
writes_term before after start stack v new e (Err NoRoom) c = omega (arith, ap length e, put-length v [])
writes_term before after start stack v new e (Err NoStack) c = omega (arith, ap length e, put-length v [])

-- Words of a term written are the term written.
pub copies_term : (before after : List ℕ) (start stack : ℕ) (v : Term) (new : List ℕ) → new ≡ put v [] → (r : Result ℕ WriteError) → Writes before start after stack new r → Copies before start after stack v r
copies_term before after start stack v new e (Ok end) c = append_as _ _ _ _ _ _ e c
copies_term before after start stack v new e (Err NoRoom) c = omega (arith, ap length e, put-length v [])
copies_term before after start stack v new e (Err NoStack) c = omega (arith, ap length e, put-length v [])

-- The same with the stack's length and the words under other names.
pub writes_as : (before : List ℕ) (start : ℕ) (after : List ℕ) (m n : ℕ) (new words : List ℕ) (r : Result ℕ WriteError) → m ≡ n → new ≡ words → Writes before start after m new r → Writes before start after n words r
writes_as before start after m n new words r e f w = tr (λ (k : ℕ). Writes before start after k words r) e (tr (λ (z : List ℕ). Writes before start after m z r) f w)

-- The size of a lifted term.
pub lift-size : (t : Term) (c d : ℕ) → size (lift c d t) ≡ size t
lift-size (var x) c d = cases_bool (ltb x c) (λ e. rw e refl) (λ e. rw e refl)
lift-size (const h) c d = refl
lift-size (sort i) c d = refl
lift-size (pi a b) c d = omega (arith, lift-size a c d, lift-size b (suc c) d)
lift-size (lam a b) c d = omega (arith, lift-size a c d, lift-size b (suc c) d)
lift-size (app f a) c d = omega (arith, lift-size f c d, lift-size a c d)
