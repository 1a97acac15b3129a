-- Typing is stable: under lift, subst and simultaneous substitution, under conversion in the context, and in longer contexts.
-- Insert and Put say how a binder is added to a context, and how a term is put for one.
use Rattle.std.proofs.Common.{◌≡◌, refl, sym, ap, ap₂, ◌∙◌, subst as tr, subst₂ as tr₂, List, [], ◌∷◌, ◌++◌, ℕ, zero, suc, arith}
use mathlib.Core.Option.{some}
use lib.ListN.{get_elem?}
use Rattle.theory.specs.Terms.{Term, var, const, sort, pi, lam, app, lift, subst, subst_all}
use Rattle.theory.specs.Environment.{Env, up, ups}
use Rattle.theory.specs.Reduction.{Conv}
use Rattle.theory.specs.Typing.{HasType, t_var, t_head, t_sort, t_pi, t_lam, t_app, t_conv, WfEnv}
use Rattle.theory.proofs.Options.{none-some, some_inj}
use Rattle.theory.proofs.Indices.{lift_below, lift-zero, lift-lift, lift_merge, subst_below, subst_past_lift, lift-subst, subst-subst}
use Rattle.theory.proofs.Closed.{head_type_closed, scoped_lift, scoped_subst, scoped_subst_all}
use Rattle.theory.proofs.SubstAll.{subst_all-under, subst_all-lift, family_subst_all, lifts-map, lift_family, subst-up, up_var, Substitution, sub_end, sub_more}
use Rattle.theory.proofs.Conversion.{subst_all-subst, conv_lift, conv_subst, conv_subst_all}

-- the context g with b inserted behind c binders
pub data Insert (b : Term) : ℕ → List Term → List Term → Type 0 where
  ins_here : {g : List Term} → Insert b 0 g (b ∷ g)
  ins_under : {c : ℕ} {g k : List Term} {a : Term} → Insert b c g k → Insert b (suc c) (a ∷ g) (lift c 1 a ∷ k)

-- the context g with u put for the binder behind c others
pub data Put (e : Env) (u : Term) : ℕ → List Term → List Term → Type 0 where
  put_here : {g : List Term} {b : Term} → HasType e g u b → Put e u 0 (b ∷ g) g
  put_under : {c : ℕ} {g k : List Term} {a : Term} → Put e u c g k → Put e u (suc c) (a ∷ g) (subst c u a ∷ k)

-- a type of the context
lift-suc : (t : Term) (x : ℕ) → lift 0 (suc x) t ≡ up (lift 0 x t)
lift-suc t x = sym (lift_merge t 0 x 0 1 (suc x) (omega arith) (omega arith) (omega arith))

record Moved (c x : ℕ) (a : Term) (k : List Term) : Type 0 where
  y : ℕ
  b : Term
  at : get_elem? k y ≡ some b
  var_is : lift c 1 (var x) ≡ var y
  type_is : lift c 1 (lift 0 (suc x) a) ≡ lift 0 (suc y) b

insert_get : {b : Term} {c : ℕ} {g k : List Term} → Insert b c g k → (x : ℕ) {a : Term} → get_elem? g x ≡ some a → Moved c x a k
insert_get ins_here x {a} p = record { y = suc x; b = a; at = p; var_is = up_var x (suc x) refl; type_is = sym (lift-suc a (suc x)) }
insert_get (ins_under {c} {k} i) zero {a} p =
    record { y = zero; b = lift c 1 a; at = ap some (ap (lift c 1) (some_inj p)); var_is = lift_below 1 (omega arith); type_is = lift-lift a 0 1 c 1 (suc c) (omega arith) (omega arith) }
insert_get (ins_under {c} {k} i) (suc x) {a} p =
    let m = insert_get i x p in
    record {
      y = suc m.y;
      b = m.b;
      at = m.at;
      var_is = ap (lift (suc c) 1) (sym (up_var x (suc x) refl)) ∙ lift-lift (var x) 0 1 c 1 (suc c) (omega arith) (omega arith) ∙ ap up m.var_is ∙ up_var m.y (suc m.y) refl;
      type_is = ap (lift (suc c) 1) (lift-suc a (suc x)) ∙ lift-lift (lift 0 (suc x) a) 0 1 c 1 (suc c) (omega arith) (omega arith) ∙ ap up m.type_is ∙ sym (lift-suc m.b (suc m.y));
    }

pub typed_lift : {e : Env} → WfEnv e → {g : List Term} {t a : Term} → HasType e g t a → {b : Term} {c : ℕ} {k : List Term} → Insert b c g k → HasType e k (lift c 1 t) (lift c 1 a)
typed_lift {e} w (t_var {x} p) {k} i = let m = insert_get i x p in tr₂ (HasType e k) (sym m.var_is) (sym m.type_is) (t_var m.at)
typed_lift {e} w (t_head {h} {a} p) {c} {k} i = tr (HasType e k (const h)) (sym (scoped_lift a 0 c 1 (head_type_closed e w h p) (omega arith))) (t_head p)
typed_lift w t_sort i = t_sort
typed_lift w (t_pi p q) i = t_pi (typed_lift w p i) (typed_lift w q (ins_under i))
typed_lift w (t_lam p q r) i = t_lam (typed_lift w p i) (typed_lift w q (ins_under i)) (typed_lift w r (ins_under i))
typed_lift {e} w (t_app {f} {b} {t} p q) {c} {k} i = tr (HasType e k (app (lift c 1 f) (lift c 1 t))) (sym (lift-subst b 0 c 1 c (suc c) t (omega arith) refl)) (t_app (typed_lift w p i) (typed_lift w q i))
typed_lift w (t_conv p s q) {c} i = t_conv (typed_lift w p i) (conv_lift w s c 1) (typed_lift w q i)

-- one more binder
pub weaken : {e : Env} → WfEnv e → {g : List Term} {t a : Term} (b : Term) → HasType e g t a → HasType e (b ∷ g) (up t) (up a)
weaken w b p = typed_lift w p ins_here

put_get : {e : Env} → WfEnv e → {u : Term} {c : ℕ} {g k : List Term} → Put e u c g k → (x : ℕ) {a : Term} → get_elem? g x ≡ some a → HasType e k (subst c u (var x)) (subst c u (lift 0 (suc x) a))
put_get {e} w {u} (put_here {g} p) zero q = tr₂ (HasType e g) (sym (lift-zero u 0)) (some_inj q ∙ sym (subst-up u _)) p
put_get {e} w {u} (put_here {g} p) (suc x) {a} q = tr₂ (HasType e g) (sym (subst-up u (var x)) ∙ ap (subst 0 u) (up_var x (suc x) refl)) (sym (subst-up u (lift 0 (suc x) a)) ∙ ap (subst 0 u) (sym (lift-suc a (suc x)))) (t_var q)
put_get {e} w {u} (put_under {c} {k} {a = b} i) zero {a} q =
    tr₂ (HasType e (subst c u b ∷ k)) (sym (subst_below {k = suc c} {x = 0} u (omega arith))) (ap (λ z. up (subst c u z)) (some_inj q) ∙ sym (subst_past_lift a 0 1 c (suc c) u (omega arith) (omega arith))) (t_var refl)
put_get {e} w {u} (put_under {c} {k} {a = b} i) (suc x) {a} q =
    tr₂ (HasType e (subst c u b ∷ k))
    (sym (subst_past_lift (var x) 0 1 c (suc c) u (omega arith) (omega arith)) ∙ ap (subst (suc c) u) (up_var x (suc x) refl))
    (sym (subst_past_lift (lift 0 (suc x) a) 0 1 c (suc c) u (omega arith) (omega arith)) ∙ ap (subst (suc c) u) (sym (lift-suc a (suc x))))
    (weaken w (subst c u b) (put_get w i x q))

pub typed_subst : {e : Env} → WfEnv e → {g : List Term} {t a : Term} → HasType e g t a → {u : Term} {c : ℕ} {k : List Term} → Put e u c g k → HasType e k (subst c u t) (subst c u a)
typed_subst w (t_var {x} p) i = put_get w i x p
typed_subst {e} w (t_head {h} {a} p) {u} {c} {k} i = tr (HasType e k (const h)) (sym (scoped_subst a 0 c u (head_type_closed e w h p) (omega arith))) (t_head p)
typed_subst w t_sort i = t_sort
typed_subst w (t_pi p q) i = t_pi (typed_subst w p i) (typed_subst w q (put_under i))
typed_subst w (t_lam p q r) i = t_lam (typed_subst w p i) (typed_subst w q (put_under i)) (typed_subst w r (put_under i))
typed_subst {e} w (t_app {f} {b} {t} p q) {u} {c} {k} i = tr (HasType e k (app (subst c u f) (subst c u t))) (sym (subst-subst b 0 c c (suc c) t u (omega arith) refl)) (t_app (typed_subst w p i) (typed_subst w q i))
typed_subst w (t_conv p s q) {u} {c} i = t_conv (typed_subst w p i) (conv_subst w s c u) (typed_subst w q i)

-- a term put for the innermost binder
pub put_typed : {e : Env} → WfEnv e → {g : List Term} {t a u b : Term} → HasType e (b ∷ g) t a → HasType e g u b → HasType e g (subst 0 u t) (subst 0 u a)
put_typed w p q = typed_subst w p (put_here q)

-- one type of the context for another that converts to it
subst-lift-under : (t : Term) (k : ℕ) → subst k (var 0) (lift (suc k) 1 t) ≡ t
subst-lift-under (var x) k = grind arith
subst-lift-under (const h) k = refl
subst-lift-under (sort i) k = refl
subst-lift-under (pi a b) k = ap₂ pi (subst-lift-under a k) (subst-lift-under b (suc k))
subst-lift-under (lam a b) k = ap₂ lam (subst-lift-under a k) (subst-lift-under b (suc k))
subst-lift-under (app f a) k = ap₂ app (subst-lift-under f k) (subst-lift-under a k)

pub subst_var_lift : (t : Term) → subst 0 (var 0) (lift 1 1 t) ≡ t
subst_var_lift t = subst-lift-under t 0

pub typed_conv : {e : Env} → WfEnv e → {g : List Term} {a b t c : Term} {i : ℕ} → HasType e (a ∷ g) t c → HasType e g a (sort i) → Conv e b a → HasType e (b ∷ g) t c
typed_conv {e} w {g} {a} {b} {t} {c} p q s =
    tr₂ (HasType e (b ∷ g)) (subst_var_lift t) (subst_var_lift c)
    (put_typed w (typed_lift w p (ins_under ins_here)) (t_conv (t_var refl) (conv_lift w s 0 1) (weaken w b q)))

-- a context with more behind it
pub get_more : {A : Type 0} (xs ys : List A) (i : ℕ) {x : A} → get_elem? xs i ≡ some x → get_elem? (xs ++ ys) i ≡ some x
get_more [] ys i p = none-some p
get_more (x ∷ xs) ys zero p = p
get_more (x ∷ xs) ys (suc i) p = get_more xs ys i p

pub typed_behind : {e : Env} {g : List Term} {t a : Term} → HasType e g t a → (d : List Term) → HasType e (g ++ d) t a
typed_behind (t_var {g} {x} p) d = t_var (get_more g d x p)
typed_behind (t_head p) d = t_head p
typed_behind t_sort d = t_sort
typed_behind (t_pi p q) d = t_pi (typed_behind p d) (typed_behind q d)
typed_behind (t_lam p q r) d = t_lam (typed_behind p d) (typed_behind q d) (typed_behind r d)
typed_behind (t_app p q) d = t_app (typed_behind p d) (typed_behind q d)
typed_behind (t_conv p s q) d = t_conv (typed_behind p d) s (typed_behind q d)

pub typed_closed : {e : Env} {t a : Term} → HasType e [] t a → (g : List Term) → HasType e g t a
typed_closed p g = typed_behind p g

-- simultaneous substitution
pub up-subst_all : (t : Term) (us : List Term) → up (subst_all us 0 t) ≡ subst_all (ups us) 0 t
up-subst_all t us = family_subst_all (lift_family 1) t us 0 0 0 (omega arith) ∙ ap (λ vs. subst_all vs 0 t) (sym (lifts-map 1 us))

pub substitution_weaken : {e : Env} → WfEnv e → {g us d : List Term} (b : Term) → Substitution e g us d → Substitution e (b ∷ g) (ups us) d
substitution_weaken w b sub_end = sub_end
substitution_weaken {e} w {g} b (sub_more {us} {u} {a} s p) = sub_more (substitution_weaken w b s) (tr (HasType e (b ∷ g) (up u)) (up-subst_all a us) (weaken w b p))

pub substitution_under : {e : Env} → WfEnv e → {g us d : List Term} (a : Term) → Substitution e g us d → Substitution e (subst_all us 0 a ∷ g) (var 0 ∷ ups us) (a ∷ d)
substitution_under {e} w {g} {us} a s = sub_more (substitution_weaken w (subst_all us 0 a) s) (tr (HasType e (subst_all us 0 a ∷ g) (var 0)) (up-subst_all a us) (t_var refl))

substitution_get : {e : Env} {g us d : List Term} → Substitution e g us d → (x : ℕ) {a : Term} → get_elem? d x ≡ some a → HasType e g (subst_all us 0 (var x)) (subst_all us 0 (lift 0 (suc x) a))
substitution_get sub_end x p = none-some p
substitution_get {e} {g} (sub_more {us} {u} {a = b} s p) zero {a} q = tr₂ (HasType e g) (sym (lift-zero u 0)) (ap (subst_all us 0) (some_inj q) ∙ sym (subst_all-lift a (u ∷ []) us 0 1 refl)) p
substitution_get {e} {g} (sub_more {us} {u} s p) (suc x) {a} q =
    tr₂ (HasType e g) (sym (subst_all-lift (var x) (u ∷ []) us 0 1 refl) ∙ ap (subst_all (u ∷ us) 0) (up_var x (suc x) refl)) (sym (subst_all-lift (lift 0 (suc x) a) (u ∷ []) us 0 1 refl) ∙ ap (subst_all (u ∷ us) 0) (sym (lift-suc a (suc x)))) (substitution_get s x q)

pub typed_subst_all : {e : Env} → WfEnv e → {d : List Term} {t a : Term} → HasType e d t a → {g us : List Term} → Substitution e g us d → HasType e g (subst_all us 0 t) (subst_all us 0 a)
typed_subst_all w (t_var {x} p) s = substitution_get s x p
typed_subst_all {e} w (t_head {h} {a} p) {g} {us} s = tr (HasType e g (const h)) (sym (scoped_subst_all a 0 0 us (head_type_closed e w h p) (omega arith))) (t_head p)
typed_subst_all w t_sort s = t_sort
typed_subst_all {e} w (t_pi {a} {b} {j} p q) {g} {us} s = t_pi (typed_subst_all w p s) (tr (λ z. HasType e (subst_all us 0 a ∷ g) z (sort j)) (subst_all-under b us 0) (typed_subst_all w q (substitution_under w a s)))
typed_subst_all {e} w (t_lam {a} {b} {t} {j} p q r) {g} {us} s =
    t_lam (typed_subst_all w p s) (tr (λ z. HasType e (subst_all us 0 a ∷ g) z (sort j)) (subst_all-under b us 0) (typed_subst_all w q (substitution_under w a s)))
    (tr₂ (HasType e (subst_all us 0 a ∷ g)) (subst_all-under t us 0) (subst_all-under b us 0) (typed_subst_all w r (substitution_under w a s)))
typed_subst_all {e} w (t_app {f} {b} {t} p q) {g} {us} s = tr (HasType e g (app (subst_all us 0 f) (subst_all us 0 t))) (sym (subst_all-subst b us 0 0 0 1 t (omega arith) refl)) (t_app (typed_subst_all w p s) (typed_subst_all w q s))
typed_subst_all w (t_conv p c q) {us} s = t_conv (typed_subst_all w p s) (conv_subst_all w c us 0) (typed_subst_all w q s)
