-- What declarations of the core stand for: terms of the core, with levels of at most three digits.
use Rattle.std.proofs.Common.{◌≡◌, ℕ, ◌+◌, ◌-◌, ◌*◌, ◌<◌, ◌≤◌, max, Bool, true, false, cond, ◌&&◌, ◌||◌, T, leb, List, [], ◌∷◌, ◌++◌, length, sym, refl, ap, ◌∙◌, subst as tr, arith, length-append, leb-true}
use mathlib.Core.Option.{some}
use Rattle.std.proofs.lemmas.List.{nil_from_length}
use Rattle.theory.specs.Terms.{Term, const, apps}
use Rattle.theory.specs.Environment.{Entry, Env}
use Rattle.theory.proofs.Options.{none-some, some_inj, cases_bool, cond-some, and_true}
use Rattle.syntax.specs.Surface.{Name, same, Expr, expr_stage, at_stage, hide_stage, Decl, d_def, d_axiom, d_data, decl_stage, stage, w_eq, w_same, w_along}
use Rattle.syntax.specs.Grammar.{digits, IsNumber, IsExpr, x_tighter, x_fun, x_pi, x_arrow, x_app, x_name, x_at, x_full, x_sort, x_hole, x_brackets, x_by, IsDecl, x_def, x_theorem, x_axiom, x_data, IsDecls, x_decl}
use Rattle.elaboration.specs.Elaboration.{Global, lookup, Elab, el_local, el_global, el_sort, el_pi, el_lam, el_app}
use Rattle.elaboration.specs.Declarations.{ElabDecl, el_def, el_axiom, Checks, checks_end, checks_more, globals_of}
use Rattle.kernel.specs.Machine.{CoreHead, Core}
use Rattle.kernel.specs.Checking.{CoreEntry}
use Rattle.resolver.proofs.Resolution.{NoneHidden}

-- A number of at most three digits is below a thousand.
digit : {D : Type 0} (v c : ℕ) (cs : List ℕ) {n : ℕ} → digits v (c ∷ cs) ≡ some n → (c ≤ 57 → digits (v * 10 + (c - 48)) cs ≡ some n → D) → D
digit v c cs p k = cond-some (leb 48 c && leb c 57) _ p λ b q. and_true (leb 48 c) (leb c 57) b λ l h. k (leb-true c 57 h) q

pub number_small : (w : Name) (n : ℕ) → IsNumber w n → n < 1000
number_small [] n (t, p) = omega (arith, some_inj p)
number_small (a ∷ []) n (t, p) = digit 0 a [] p λ h q. omega (arith, some_inj q)
number_small (a ∷ b ∷ []) n (t, p) = digit 0 a (b ∷ []) p λ h q. digit _ b [] q λ i r. omega (arith, some_inj r)
number_small (a ∷ b ∷ c ∷ []) n (t, p) = digit 0 a (b ∷ c ∷ []) p λ h q. digit _ b (c ∷ []) q λ i r. digit _ c [] r λ j s. omega (arith, some_inj s)
number_small (a ∷ b ∷ c ∷ d ∷ w) n (t, p) = absurd (long w t)
  where
    long : (w : Name) → T (leb 1 (length (a ∷ b ∷ c ∷ d ∷ w)) && leb (length (a ∷ b ∷ c ∷ d ∷ w)) 3) → ⊥
    long w t = cases_bool (leb 1 (length (a ∷ b ∷ c ∷ d ∷ w)) && leb (length (a ∷ b ∷ c ∷ d ∷ w)) 3)
        (λ e. and_true (leb 1 (length (a ∷ b ∷ c ∷ d ∷ w))) _ e λ q r. (let z : ⊥ = omega (arith, leb-true (length (a ∷ b ∷ c ∷ d ∷ w)) 3 r) in z)) (λ e. tr T e t)

-- Every global is a definition or an axiom.
abbrev pub AllCore : List Global → Type 0
AllCore gs = (x : Name) (g : Global) → lookup gs x ≡ some g → CoreHead g.head

stage_left : (a b n : ℕ) → max a b < n → a < n
stage_left a b n h = omega arith

stage_right : (a b n : ℕ) → max a b < n → b < n
stage_right a b n h = omega arith

at_late : (x : Name) → at_stage x < 1 → ⊥
at_late x h = cases_bool (same x w_eq || (same x w_same || same x w_along))
    (λ t. two (tr (λ (b : Bool). cond b 2 1 < 1) t h)) (λ f. one (tr (λ (b : Bool). cond b 2 1 < 1) f h))
  where
    two : cond true 2 1 < 1 → ⊥
    two k = omega arith

    one : cond false 2 1 < 1 → ⊥
    one k = omega arith

-- What a term of the core elaborates to is of the core.
pub elab_core : {gs : List Global} → AllCore gs → NoneHidden gs → {n : ℕ} {s : List Name} {a : Expr} → IsExpr n s a → expr_stage a < 1 → {ys : List Name} {t : Term} → Elab gs ys a t → Core t
elab_core h b (x_tighter l x) st el = elab_core h b x st el
elab_core h b (x_fun i x y) st (el_lam p q) = (elab_core h b x (stage_left _ _ 1 st) p, elab_core h b y (stage_right _ _ 1 st) q)
elab_core h b (x_pi i x y) st (el_pi p q) = (elab_core h b x (stage_left _ _ 1 st) p, elab_core h b y (stage_right _ _ 1 st) q)
elab_core h b (x_arrow x y) st (el_pi p q) = (elab_core h b x (stage_left _ _ 1 st) p, elab_core h b y (stage_right _ _ 1 st) q)
elab_core h b (x_app x y) st (el_app p q) = (elab_core h b x (stage_left _ _ 1 st) p, elab_core h b y (stage_right _ _ 1 st) q)
elab_core h b (x_name i) st (el_local q) = tt
elab_core h b (x_name i) st (el_global {x = x} {g = g} ts n m l) =
    tr Core (ap (apps (const g.head)) (sym (nil_from_length ts (l ∙ b x g m)))) (h x g m)
elab_core h b (x_at {x = x} i d) st el = absurd (at_late x st)
elab_core h b (x_full i) st el = absurd (let z : ⊥ = omega arith in z)
elab_core h b (x_sort {w = w} {n = n} i) st el_sort = number_small w n i
elab_core h b x_hole st el = absurd (let z : ⊥ = omega arith in z)
elab_core h b (x_brackets x) st el = elab_core h b x st el
elab_core h b (x_by {a = a} x) st el = absurd (let z : ⊥ = omega (arith, stage_left 5 (expr_stage a) 1 st) in z)

pub entry_core : {gs : List Global} → AllCore gs → NoneHidden gs → {s : List Name} {d : Decl} {c : Entry} → IsDecl s d → decl_stage d < 1 → ElabDecl gs d c → CoreEntry c
entry_core h b (x_def {h = k} {a = a} {b = u} i j x y) st (el_def p q) = (elab_core h b y (body a u k st) q, elab_core h b x (type a u k st) p)
  where
    body : (a u : Expr) (k : ℕ) → max (hide_stage k) (max (expr_stage a) (expr_stage u)) < 1 → expr_stage u < 1
    body a u k s = omega arith

    type : (a u : Expr) (k : ℕ) → max (hide_stage k) (max (expr_stage a) (expr_stage u)) < 1 → expr_stage a < 1
    type a u k s = omega arith
entry_core h b (x_theorem {h = k} {a = a} {b = u} i j x y) st (el_def p q) = (elab_core h b y (body a u k st) q, elab_core h b x (type a u k st) p)
  where
    body : (a u : Expr) (k : ℕ) → max (hide_stage k) (max (expr_stage a) (expr_stage u)) < 1 → expr_stage u < 1
    body a u k s = omega arith

    type : (a u : Expr) (k : ℕ) → max (hide_stage k) (max (expr_stage a) (expr_stage u)) < 1 → expr_stage a < 1
    type a u k s = omega arith
entry_core h b (x_axiom {h = k} {a = a} i j x) st (el_axiom p) = elab_core h b x (stage_right (hide_stage k) (expr_stage a) 1 st) p
entry_core h b (x_data w {h = k} {n = n} i j x m y) st el = absurd (let z : ⊥ = omega arith in z)

-- The stage of declarations in a row, and each of them.
pub stage_front : (ds es : List Decl) (n : ℕ) → stage (ds ++ es) < n → stage ds < n
stage_front [] es n h = omega arith
stage_front (d ∷ ds) es n h = let k = stage_front ds es n (stage_right (decl_stage d) (stage (ds ++ es)) n h) in omega arith

pub stage_next : (ds es : List Decl) (d : Decl) (n : ℕ) → stage (ds ++ (d ∷ es)) < n → decl_stage d < n
stage_next [] es d n h = stage_left (decl_stage d) (stage es) n h
stage_next (c ∷ ds) es d n h = stage_next ds es d n (stage_right (decl_stage c) (stage (ds ++ (d ∷ es))) n h)

pub record Written (d : Decl) : Type 0 where
  pub words : List Name
  pub is : IsDecl words d

pub decl_next : {ts : List Name} (ds es : List Decl) (d : Decl) → IsDecls ts (ds ++ (d ∷ es)) → Written d
decl_next [] es d (x_decl x xs) = record { words = _; is = x }
decl_next (c ∷ ds) es d (x_decl x xs) = decl_next ds es d xs

-- The globals of declarations of the core.
lookup_append : {D : Type 0} (gs hs : List Global) (x : Name) (g : Global) → lookup (gs ++ hs) x ≡ some g → (lookup gs x ≡ some g → D) → (lookup hs x ≡ some g → D) → D
lookup_append [] hs x g p j k = k p
lookup_append (f ∷ gs) hs x g p j k = cases_bool (same f.name x) (λ t. j (rw t (sym (front t) ∙ p))) (λ n. lookup_append gs hs x g (sym (behind n) ∙ p) (λ q. j (rw n q)) k)
  where
    front : same f.name x ≡ true → cond (same f.name x) (some f) (lookup (gs ++ hs) x) ≡ some f
    front t = rw t refl

    behind : same f.name x ≡ false → cond (same f.name x) (some f) (lookup (gs ++ hs) x) ≡ lookup (gs ++ hs) x
    behind n = rw n refl

decl_core : (n : ℕ) (d : Decl) → decl_stage d < 1 → AllCore (globals_of n d)
decl_core n (d_def y h a b) st x g p = cond-some (same y x) _ p λ t q. tr (λ (k : Global). CoreHead k.head) (some_inj q) tt
decl_core n (d_axiom y h a) st x g p = cond-some (same y x) _ p λ t q. tr (λ (k : Global). CoreHead k.head) (some_inj q) tt
decl_core n (d_data y h ps l cs) st x g p = absurd (let z : ⊥ = omega arith in z)

pub checks_core : {ds : List Decl} {gs : List Global} {e : Env} → Checks ds gs e → stage ds < 1 → AllCore gs
checks_core checks_end st x g p = none-some p
checks_core (checks_more {ds = ds} {gs = gs} {e = e} {d = d} c a f) st x g p =
    lookup_append gs (globals_of (length e) d) x g p (λ q. checks_core c (stage_front ds (d ∷ []) 1 st) x g q) (λ q. decl_core (length e) d (stage_next ds [] d 1 st) x g q)

pub checks_length : {ds : List Decl} {gs : List Global} {e : Env} → Checks ds gs e → length e ≡ length ds
checks_length checks_end = refl
checks_length (checks_more {ds = ds} {e = e} {d = d} {c = c} k a f) = omega (arith, checks_length k, length-append e (c ∷ []), length-append ds (d ∷ []))
