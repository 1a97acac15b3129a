-- The walk over a plain term: one part is at hand, the others wait in frames; what was written, and what will be, make up the term.
use Rattle.std.proofs.Common.{◌≡◌, ℕ, ◌+◌, ◌*◌, ◌≤◌, Bool, true, false, ◌&&◌, List, [], ◌∷◌, ◌++◌, length, Some, None, Option, sym, refl, ap, ◌∙◌, subst as tr, arith}
use mathlib.Core.Option as M
use Rattle.theory.specs.Terms.{Head, h_def, h_data, h_con, h_rec, h_eq, h_refl, h_along, Term, var, const, sort, pi, lam, app, option}
use Rattle.theory.proofs.Options.{true-false, false-true, some_inj, cases_bool, and_true}
use Rattle.terms.specs.Words.{put, puts, root, has_parts, sign_words}
use Rattle.terms.specs.declared.sign.Sign.{Sign}
use Rattle.syntax.specs.Surface.{Name, same, Expr, e_name, e_at, e_full, e_sort, e_pi, e_lam, e_app, e_hole, e_by, e_have}
use Rattle.syntax.specs.Tree.{put_expr}
use Rattle.elaboration.specs.Elaboration.{Global, lookup, index_of, indexed_head}
use Rattle.resolver.specs.Resolving.{basic, nodes, name_term, indexed_term, is_some, resolves, resolved}
use Rattle.resolver.specs.Names.{NameAt, Named, GlobalsAt, no_rows, a_row, ScopeAt, passed, bound}
use Rattle.resolver.specs.Nodes.{term_sign, node_sign_lem, put_exprs, parts_of}
use Rattle.resolver.specs.Frames.{Frame, waits, body, under, put_frames, kind}
use Rattle.resolver.proofs.Resolution.{NoneHidden}
use Rattle.resolver.proofs.Shapes.{Shape, s_name, s_at, s_sort, s_pi, s_lam, s_app}

-- The globals of a table hide no arguments.
pub bare : {tree table : List ℕ} {gs : List Global} → GlobalsAt tree table gs → NoneHidden gs
bare no_rows x g e = absurd (let z : ◌≡◌ {A = ℕ} 0 1 = cc in omega arith)
bare (a_row {g = g} {gs = gs} r m) x h e = cases_bool (same g.name x)
    (λ t. ap (λ (k : Global). k.hidden) (sym (some_inj (sym (first t) ∙ e))) ∙ r.bare)
    (λ f. bare m x h (sym (later f) ∙ e))
  where
    first : same g.name x ≡ true → lookup (g ∷ gs) x ≡ M.some g
    first t = rw t refl

    later : same g.name x ≡ false → lookup (g ∷ gs) x ≡ lookup gs x
    later f = rw f refl

-- What the frames say: the bound names, the terms that wait, what they become, whether they resolve, their names, their nodes.
abbrev pub scope_of : List Name → List Frame → List Name
scope_of ys [] = ys
scope_of ys (waits p a ∷ fs) = scope_of ys fs
scope_of ys (body p x b ∷ fs) = scope_of ys fs
scope_of ys (under p x ∷ fs) = x ∷ scope_of ys fs

abbrev pub exprs : List Frame → List Expr
exprs [] = []
exprs (waits p a ∷ fs) = a ∷ exprs fs
exprs (body p x b ∷ fs) = b ∷ exprs fs
exprs (under p x ∷ fs) = exprs fs

abbrev pub terms_of : List Global → List Name → List Frame → List Term
terms_of gs ys [] = []
terms_of gs ys (waits p a ∷ fs) = resolved gs (scope_of ys fs) a ∷ terms_of gs ys fs
terms_of gs ys (body p x b ∷ fs) = resolved gs (x ∷ scope_of ys fs) b ∷ terms_of gs ys fs
terms_of gs ys (under p x ∷ fs) = terms_of gs ys fs

abbrev pub all_resolve : List Global → List Name → List Frame → Bool
all_resolve gs ys [] = true
all_resolve gs ys (waits p a ∷ fs) = resolves gs (scope_of ys fs) a && all_resolve gs ys fs
all_resolve gs ys (body p x b ∷ fs) = resolves gs (x ∷ scope_of ys fs) b && all_resolve gs ys fs
all_resolve gs ys (under p x ∷ fs) = all_resolve gs ys fs

abbrev pub AllPlain : List Frame → Type 0
AllPlain [] = Unit {0}
AllPlain (waits p a ∷ fs) = (basic a ≡ true) × AllPlain fs
AllPlain (body p x b ∷ fs) = (basic b ≡ true) × AllPlain fs
AllPlain (under p x ∷ fs) = AllPlain fs

abbrev pub NamesAt : List ℕ → List Frame → Type 0
NamesAt tree [] = Unit {0}
NamesAt tree (waits p a ∷ fs) = NamesAt tree fs
NamesAt tree (body p x b ∷ fs) = NameAt tree p x × NamesAt tree fs
NamesAt tree (under p x ∷ fs) = NameAt tree p x × NamesAt tree fs

abbrev pub Fits : ℕ → List Frame → Type 0
Fits n [] = Unit {0}
Fits n (waits p a ∷ fs) = (2 * length fs + nodes a ≤ n) × Fits n fs
Fits n (body p x b ∷ fs) = (2 * length fs + 2 + nodes b ≤ n) × Fits n fs
Fits n (under p x ∷ fs) = Fits n fs

pub frames_scope : {tree base : List ℕ} {ys : List Name} (fs : List Frame) → ScopeAt tree base ys → NamesAt tree fs → ScopeAt tree (put_frames fs base) (scope_of ys fs)
frames_scope [] s n = s
frames_scope (waits p a ∷ fs) s n = passed (λ z. omega arith) (frames_scope fs s n)
frames_scope (body p x b ∷ fs) s n = passed (λ z. omega arith) (frames_scope fs s n.1)
frames_scope (under p x ∷ fs) s n = bound n.0 (frames_scope fs s n.1)

const_leaf : (h : Head) → has_parts (root (const h)) ≡ false
const_leaf (h_def i) = refl
const_leaf (h_data i) = refl
const_leaf (h_con i k) = refl
const_leaf (h_rec i j) = refl
const_leaf (h_eq i) = refl
const_leaf (h_refl i) = refl
const_leaf (h_along i j) = refl

-- A node with two parts.
pub record Binary (tree : List ℕ) (gs : List Global) (ys : List Name) (fs : List Frame) (n q : ℕ) (e : Expr) (s : Sign) : Type 0 where
  pub first : Expr
  pub frame : Frame
  pub reads : (r : List ℕ) → put_exprs (parts_of e) (put_exprs (exprs fs) r) ≡ put_expr first (put_exprs (exprs (frame ∷ fs)) r)
  pub words : (r : List ℕ) → put_frames (frame ∷ fs) r ≡ kind s ∷ q ∷ put_frames fs r
  pub says : put (resolved gs (scope_of ys fs) e) (puts (terms_of gs ys fs) []) ≡ sign_words s ++ put (resolved gs (scope_of ys (frame ∷ fs)) first) (puts (terms_of gs ys (frame ∷ fs)) [])
  pub oks : (resolves gs (scope_of ys fs) e && all_resolve gs ys fs) ≡ (resolves gs (scope_of ys (frame ∷ fs)) first && all_resolve gs ys (frame ∷ fs))
  pub plain : basic first ≡ true
  pub plains : AllPlain (frame ∷ fs)
  pub named : NamesAt tree (frame ∷ fs)
  pub few : 2 * length (frame ∷ fs) + nodes first ≤ n
  pub fits : Fits n (frame ∷ fs)

pub nodes-some : (e : Expr) → 1 ≤ nodes e
nodes-some (e_name x) = omega arith
nodes-some (e_at x ns) = omega arith
nodes-some (e_full x) = omega arith
nodes-some (e_sort i) = omega arith
nodes-some (e_pi x a b) = omega arith
nodes-some (e_lam x a b) = omega arith
nodes-some (e_app f a) = omega arith
nodes-some e_hole = omega arith
nodes-some (e_by a) = omega arith
nodes-some (e_have x a b c) = omega arith

and_assoc : (a b c : Bool) → ((a && b) && c) ≡ (a && (b && c))
and_assoc true b c = refl
and_assoc false b c = refl

some_is : {A : Type 0} {x y : A} → ◌≡◌ {A = Option A} (Some x) (Some y) → x ≡ y
some_is p = cc

some_not : {A B : Type 0} {x : A} → ◌≡◌ {A = Option A} (Some x) None → B
some_not p = absurd (let z : ◌≡◌ {A = ℕ} 0 1 = cc in omega arith)

leaf_term : (o : M.Option Term) (s : Sign) → ((t : Term) → o ≡ M.some t → has_parts (root t) ≡ false) → Some s ≡ term_sign o → has_parts s ≡ false
leaf_term M.none s f p = some_not p
leaf_term (M.some t) s f p = ap has_parts (some_is p) ∙ f t refl

name_leaf : (gs : List Global) (ys : List Name) (x : Name) (t : Term) → name_term gs ys x ≡ M.some t → has_parts (root t) ≡ false
name_leaf gs ys x t = go (index_of ys x) (lookup gs x)
  where
    go : (o : M.Option ℕ) (q : M.Option Global) → option o (option q M.none (λ g. M.some (const g.head))) (λ n. M.some (var n)) ≡ M.some t → has_parts (root t) ≡ false
    go M.none M.none p = absurd (let z : ◌≡◌ {A = ℕ} 0 1 = cc in omega arith)
    go M.none (M.some g) p = ap (λ (u : Term). has_parts (root u)) (sym (some_inj p)) ∙ const_leaf g.head
    go (M.some n) q p = ap (λ (u : Term). has_parts (root u)) (sym (some_inj p))

indexed_leaf : (gs : List Global) (ys : List Name) (x : Name) (ns : List ℕ) (t : Term) → indexed_term gs ys x ns ≡ M.some t → has_parts (root t) ≡ false
indexed_leaf gs ys x ns t = go (index_of ys x) (indexed_head gs x ns)
  where
    go : (o : M.Option ℕ) (q : M.Option Head) → option o (option q M.none (λ h. M.some (const h))) (λ n. M.none) ≡ M.some t → has_parts (root t) ≡ false
    go M.none M.none p = absurd (let z : ◌≡◌ {A = ℕ} 0 1 = cc in omega arith)
    go M.none (M.some h) p = ap (λ (u : Term). has_parts (root u)) (sym (some_inj p)) ∙ const_leaf h
    go (M.some n) q p = absurd (let z : ◌≡◌ {A = ℕ} 0 1 = cc in omega arith)

-- The words of a term without parts are those of its root.
leaf_words : (t : Term) (r : List ℕ) → has_parts (root t) ≡ false → put t r ≡ sign_words (root t) ++ r
leaf_words (pi a b) r p = true-false p
leaf_words (lam a b) r p = true-false p
leaf_words (app f a) r p = true-false p
leaf_words (var x) r p = refl
leaf_words (sort i) r p = refl
leaf_words (const (h_def i)) r p = refl
leaf_words (const (h_data i)) r p = refl
leaf_words (const (h_con i k)) r p = refl
leaf_words (const (h_rec i j)) r p = refl
leaf_words (const (h_eq i)) r p = refl
leaf_words (const (h_refl i)) r p = refl
leaf_words (const (h_along i j)) r p = refl

module _ (tree : List ℕ) (gs : List Global) (ys : List Name) (fs : List Frame) (n place : ℕ) where
  pub binary : {e : Expr} {rest : List ℕ} (s : Sign) → Shape tree place e rest → basic e ≡ true → AllPlain fs → NamesAt tree fs → 2 * length fs + nodes e ≤ n → Fits n fs
      → Some s ≡ node_sign_lem gs (scope_of ys fs) e → has_parts s ≡ true → Binary tree gs ys fs n (place + 1) e s
  binary s (s_name {x = x} t w) p ps ns f g k h = false-true (sym (leaf_term _ s (name_leaf gs (scope_of ys fs) x) k) ∙ h)
  binary s (s_at {x = x} {ns = is} t w) p ps ns f g k h = false-true (sym (leaf_term _ s (indexed_leaf gs (scope_of ys fs) x is) k) ∙ h)
  binary s (s_sort t w) p ps ns f g k h = false-true (ap has_parts (sym (some_is k)) ∙ h)
  binary s (s_pi {x = x} {a = a} {b = b} t w) p ps ns f g k h = and_true (basic a) (basic b) p λ q r. tr (Binary tree gs ys fs n (place + 1) (e_pi x a b)) (sym (some_is k)) (record {
    first = a;
    frame = body (place + 1) x b;
    reads = λ z. refl;
    words = λ z. refl;
    says = refl;
    oks = and_assoc (resolves gs (scope_of ys fs) a) (resolves gs (x ∷ scope_of ys fs) b) (all_resolve gs ys fs);
    plain = q;
    plains = (r, ps);
    named = (record { rest = _; stands = w }, ns);
    few = omega (arith, nodes-some b);
    fits = (omega (arith, nodes-some a), g);
  })
  binary s (s_lam {x = x} {a = a} {b = b} t w) p ps ns f g k h = and_true (basic a) (basic b) p λ q r. tr (Binary tree gs ys fs n (place + 1) (e_lam x a b)) (sym (some_is k)) (record {
    first = a;
    frame = body (place + 1) x b;
    reads = λ z. refl;
    words = λ z. refl;
    says = refl;
    oks = and_assoc (resolves gs (scope_of ys fs) a) (resolves gs (x ∷ scope_of ys fs) b) (all_resolve gs ys fs);
    plain = q;
    plains = (r, ps);
    named = (record { rest = _; stands = w }, ns);
    few = omega (arith, nodes-some b);
    fits = (omega (arith, nodes-some a), g);
  })
  binary s (s_app {f = a} {a = b} t w) p ps ns f g k h = and_true (basic a) (basic b) p λ q r. tr (Binary tree gs ys fs n (place + 1) (e_app a b)) (sym (some_is k)) (record {
    first = a;
    frame = waits (place + 1) b;
    reads = λ z. refl;
    words = λ z. refl;
    says = refl;
    oks = and_assoc (resolves gs (scope_of ys fs) a) (resolves gs (scope_of ys fs) b) (all_resolve gs ys fs);
    plain = q;
    plains = (r, ps);
    named = ns;
    few = omega (arith, nodes-some b);
    fits = (omega arith, g);
  })

-- A node without parts.
pub record Leaf (gs : List Global) (ys : List Name) (e : Expr) (s : Sign) : Type 0 where
  pub parts : parts_of e ≡ []
  pub says : (r : List ℕ) → put (resolved gs ys e) r ≡ sign_words s ++ r
  pub oks : resolves gs ys e ≡ true

option_leaf : (o : M.Option Term) (s : Sign) (r : List ℕ) → ((t : Term) → o ≡ M.some t → has_parts (root t) ≡ false) → Some s ≡ term_sign o → (put (option o (sort 0) (λ t. t)) r ≡ sign_words s ++ r) × (is_some o ≡ true)
option_leaf M.none s r f p = some_not p
option_leaf (M.some t) s r f p = (leaf_words t r (f t refl) ∙ ap (λ (z : Sign). sign_words z ++ r) (sym (some_is p)), refl)

pub leaf : (tree : List ℕ) (place : ℕ) (gs : List Global) (ys : List Name) {e : Expr} {rest : List ℕ} (s : Sign) → Shape tree place e rest → Some s ≡ node_sign_lem gs ys e → has_parts s ≡ false → Leaf gs ys e s
leaf tree place gs ys s (s_name {x = x} t w) k h = record { parts = refl; says = λ r. (option_leaf (name_term gs ys x) s r (name_leaf gs ys x) k).0; oks = (option_leaf (name_term gs ys x) s [] (name_leaf gs ys x) k).1 }
leaf tree place gs ys s (s_at {x = x} {ns = ns} t w) k h = record { parts = refl; says = λ r. (option_leaf (indexed_term gs ys x ns) s r (indexed_leaf gs ys x ns) k).0; oks = (option_leaf (indexed_term gs ys x ns) s [] (indexed_leaf gs ys x ns) k).1 }
leaf tree place gs ys s (s_sort {i = i} t w) k h = record { parts = refl; says = λ r. ap (λ (z : Sign). sign_words z ++ r) (sym (some_is k)); oks = refl }
leaf tree place gs ys s (s_pi t w) k h = true-false (ap has_parts (sym (some_is k)) ∙ h)
leaf tree place gs ys s (s_lam t w) k h = true-false (ap has_parts (sym (some_is k)) ∙ h)
leaf tree place gs ys s (s_app t w) k h = true-false (ap has_parts (sym (some_is k)) ∙ h)

-- A name that is nowhere.
option_nowhere : (o : M.Option Term) → None ≡ term_sign o → is_some o ≡ false
option_nowhere M.none p = refl
option_nowhere (M.some t) p = some_not (sym p)

pub nowhere : (tree : List ℕ) (place : ℕ) (gs : List Global) (ys : List Name) {e : Expr} {rest : List ℕ} → Shape tree place e rest → None ≡ node_sign_lem gs ys e → (resolves gs ys e ≡ false) × Named tree (place + 1)
nowhere tree place gs ys (s_name {x = x} t w) k = (option_nowhere (name_term gs ys x) k, record { name = x; at = record { rest = _; stands = w } })
nowhere tree place gs ys (s_at {x = x} {ns = ns} t w) k = (option_nowhere (indexed_term gs ys x ns) k, record { name = x; at = record { rest = _; stands = w } })
nowhere tree place gs ys (s_sort t w) k = some_not (sym k)
nowhere tree place gs ys (s_pi t w) k = some_not (sym k)
nowhere tree place gs ys (s_lam t w) k = some_not (sym k)
nowhere tree place gs ys (s_app t w) k = some_not (sym k)
