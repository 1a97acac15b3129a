-- Names at places of the tree, the bound ones passed one by one, the rows of the table passed one by one.
use Rattle.std.proofs.Common.{◌≡◌, ℕ, ◌+◌, ◌-◌, ◌<◌, ◌≤◌, Bool, true, false, ◌&&◌, eqb, nat_eq, List, [], ◌∷◌, ◌++◌, length, get_or, take, drop, Some, None, sym, refl, ap, ◌∙◌, subst as tr, arith, length-append, length-drop}
use Rattle.std.proofs.Math.ListN.{get_or-append}
use Rattle.std.proofs.lemmas.List.{get_or-drop, drop-drop, drop-take, drop_at, take_at}
use Rattle.std.specs.Cmp.Lexicographic.{pointwise}
use Rattle.theory.specs.Terms.{Head, h_def, h_data, h_con, h_rec, h_eq, h_refl, h_along, Term, const}
use Rattle.terms.specs.Words.{put, root, At, Holds}
use Rattle.terms.specs.declared.sign.Sign.{Sign}
use Rattle.syntax.specs.Surface.{Name, same}
use Rattle.elaboration.specs.Elaboration.{Global}
use Rattle.resolver.specs.Names.{NameAt, Named, Row, GlobalsAt, no_rows, a_row, global_sign}

-- A word read at the place where a list begins, and at the next place.
pub read_first : (ws : List ℕ) (p w : ℕ) (rest : List ℕ) → drop p ws ≡ w ∷ rest → get_or ws p 0 ≡ w
read_first ws p w rest e = ap (λ (k : ℕ). get_or ws k 0) (let z : p ≡ p + 0 = omega arith in z) ∙ sym (get_or-drop p ws 0 0) ∙ ap (λ (z : List ℕ). get_or z 0 0) e

-- A name at its place.
pub name_length : (tree : List ℕ) (p : ℕ) (x : Name) → NameAt tree p x → get_or tree p 0 ≡ length x
name_length tree p x n = read_first tree p _ _ n.stands

pub name_within : (tree : List ℕ) (p : ℕ) (x : Name) → NameAt tree p x → p + (1 + length x) ≤ length tree
name_within tree p x n = omega (arith, length-drop p tree, ap length n.stands, length-append x n.rest)

pub named_within : (tree : List ℕ) (p : ℕ) → Named tree p → p + (1 + get_or tree p 0) ≤ length tree
named_within tree p n = omega (arith, name_length tree p n.name n.at, name_within tree p n.name n.at)

pub name_bytes : (tree : List ℕ) (p : ℕ) (x : Name) → NameAt tree p x → take (p + 1 + get_or tree p 0 - (p + 1)) (drop (p + 1) tree) ≡ x
name_bytes tree p x n =
    ap (λ (k : ℕ). take k (drop (p + 1) tree)) (let z : p + 1 + get_or tree p 0 - (p + 1) ≡ length x = omega (arith, name_length tree p x n) in z)
    ∙ ap (take (length x)) (sym (drop-drop 1 p tree) ∙ ap (drop 1) n.stands) ∙ take_at x n.rest (length x) refl

-- What `==` says of two names.
pub words_same : (x y : Name) → pointwise nat_eq x y ≡ same x y
words_same [] [] = refl
words_same [] (y ∷ ys) = refl
words_same (x ∷ xs) [] = refl
words_same (x ∷ xs) (y ∷ ys) = ap (λ (b : Bool). eqb x y && b) (words_same xs ys)

-- The rows of the table, behind some rows: those are none of x.
pub record Rowing (tree words : List ℕ) (x : Name) (gs : List Global) : Type 0 where
  pub globals : List Global
  pub at : GlobalsAt tree words globals
  pub says : global_sign gs x ≡ global_sign globals x

abbrev pub RowingAll : List ℕ → List ℕ → Name → List ℕ → Type 0
RowingAll tree table x words = (gs : List Global) → GlobalsAt tree table gs → Rowing tree words x gs

pub row_start : (tree table : List ℕ) (x : Name) (words : List ℕ) → words ≡ table → RowingAll tree table x words
row_start tree table x words e gs a = record { globals = gs; at = tr (λ (z : List ℕ). GlobalsAt tree z gs) (sym e) a; says = refl }

-- The words of a head are three.
const_behind : (h : Head) (r : List ℕ) → drop 3 (put (const h) r) ≡ r
const_behind (h_def i) r = refl
const_behind (h_data i) r = refl
const_behind (h_con i k) r = refl
const_behind (h_rec i j) r = refl
const_behind (h_eq i) r = refl
const_behind (h_refl i) r = refl
const_behind (h_along i j) r = refl

const_front : (h : Head) (r : List ℕ) → take 3 (put (const h) r) ≡ put (const h) []
const_front (h_def i) r = refl
const_front (h_data i) r = refl
const_front (h_con i k) r = refl
const_front (h_rec i j) r = refl
const_front (h_eq i) r = refl
const_front (h_refl i) r = refl
const_front (h_along i j) r = refl

const_length : (h : Head) (r : List ℕ) → length (put (const h) r) ≡ 3 + length r
const_length (h_def i) r = omega arith
const_length (h_data i) r = omega arith
const_length (h_con i k) r = omega arith
const_length (h_rec i j) r = omega arith
const_length (h_eq i) r = omega arith
const_length (h_refl i) r = omega arith
const_length (h_along i j) r = omega arith

-- The row of a global, by itself, and the rows behind it.
pub record RowAt (tree row ws : List ℕ) (g : Global) (gs : List Global) : Type 0 where
  pub name : NameAt tree (get_or row 0 0) g.name
  pub head : At row 1 (const g.head) []
  pub more : GlobalsAt tree ws gs

row_at : (tree row ws : List ℕ) {words : List ℕ} {g : Global} {gs : List Global} → length row ≡ 4 → words ≡ row ++ ws → (r : Row tree words g) → GlobalsAt tree r.behind gs → RowAt tree row ws g gs
row_at tree row ws {words} {g} {gs} long e r m = record {
  name = tr (λ (q : ℕ). NameAt tree q g.name) (sym (sym (get_or-append row ws 0 0 (omega arith)) ∙ ap (λ (z : List ℕ). get_or z 0 0) is)) r.at;
  head = record { stands = ap (drop 1) (sym (take_at row ws 4 long)) ∙ drop-take 1 3 (row ++ ws) ∙ ap (λ (z : List ℕ). take 3 (drop 1 z)) is ∙ const_front g.head r.behind };
  more = tr (λ (v : List ℕ). GlobalsAt tree v gs) (sym (sym (drop_at row ws 4 long) ∙ ap (drop 4) is ∙ const_behind g.head r.behind)) m;
}
  where
    is : row ++ ws ≡ r.place ∷ put (const g.head) r.behind
    is = sym e ∙ r.words

pub row_view : {D : Type 0} (tree row words ws : List ℕ) (gs : List Global) → length row ≡ 4 → words ≡ row ++ ws → GlobalsAt tree words gs → ((g : Global) (hs : List Global) → gs ≡ g ∷ hs → RowAt tree row ws g hs → D) → D
row_view {D} tree row words ws gs long e a k = go words e gs a k
  where
    go : (vs : List ℕ) → vs ≡ row ++ ws → (zs : List Global) → GlobalsAt tree vs zs → ((g : Global) (hs : List Global) → zs ≡ g ∷ hs → RowAt tree row ws g hs → D) → D
    go vs e zs no_rows k = absurd (let z : ⊥ = omega (arith, ap length e, length-append row ws) in z)
    go vs e (g ∷ hs) (a_row r m) k = k g hs refl (row_at tree row ws long e r m)

module _ (tree row words ws : List ℕ) (long : length row ≡ 4) (e : words ≡ row ++ ws) where
  pub row_named : (gs : List Global) → GlobalsAt tree words gs → Named tree (get_or row 0 0)
  row_named gs a = row_view tree row words ws gs long e a λ g hs e r. record { name = g.name; at = r.name }

  pub row_holds : (gs : List Global) → GlobalsAt tree words gs → Holds row 1
  row_holds gs a = row_view tree row words ws gs long e a λ g hs e r. record { term = const g.head; rest = []; at = r.head }

  module _ {x : Name} {gs : List Global} where
    pub row_hit : Rowing tree words x gs → ((y : Name) → NameAt tree (get_or row 0 0) y → same y x ≡ true)
        → (s : Sign) → ((t : Term) (rest : List ℕ) → At row 1 t rest → s ≡ root t) → Some s ≡ global_sign gs x
    row_hit w o s f = row_view tree row words ws w.globals long e w.at λ g hs e r.
        let p : same g.name x ≡ true = o g.name r.name in
        ap Some (f _ _ r.head) ∙ sym (w.says ∙ ap (λ (z : List Global). global_sign z x) e ∙ (let z : global_sign (g ∷ hs) x ≡ Some (root (const g.head)) = rw p refl in z))

    pub row_miss : Rowing tree words x gs → ((y : Name) → NameAt tree (get_or row 0 0) y → same y x ≡ false) → Rowing tree ws x gs
    row_miss w o = row_view tree row words ws w.globals long e w.at λ g hs e r.
        let p : same g.name x ≡ false = o g.name r.name in
        record { globals = hs; at = r.more; says = w.says ∙ ap (λ (z : List Global). global_sign z x) e ∙ (let z : global_sign (g ∷ hs) x ≡ global_sign hs x = rw p refl in z) }

pub row_end : (tree words : List ℕ) {x : Name} {gs : List Global} → Rowing tree words x gs → length words < 4 → None ≡ global_sign gs x
row_end tree words {x} w h = sym (w.says ∙ go w.at h)
  where
    go : {ws : List ℕ} {zs : List Global} → GlobalsAt tree ws zs → length ws < 4 → global_sign zs x ≡ None
    go no_rows h = refl
    go (a_row {g = g} r m) h = absurd (let z : ⊥ = omega (arith, ap length r.words, const_length g.head r.behind) in z)
