-- The names that are bound, passed one by one.
use Rattle.std.proofs.Common.{◌≡◌, ℕ, suc, ◌+◌, ◌<◌, ◌≤◌, true, false, List, [], ◌∷◌, ◌++◌, length, get_or, Option, Some, None, sym, refl, ap, ◌∙◌, subst as tr, arith, length-append}
use mathlib.Core.Option as M
use Rattle.theory.specs.Terms.{option}
use Rattle.syntax.specs.Surface.{Name, same}
use Rattle.elaboration.specs.Elaboration.{index_of}
use Rattle.resolver.specs.Names.{NameAt, Named, ScopeAt, no_names, passed, bound, index_found}

-- An index among names of which so many stand before.
abbrev pub further : ℕ → M.Option ℕ → Option ℕ
further n o = option o None (λ k. Some (n + k))

further_none : (o : M.Option ℕ) → option o None Some ≡ further 0 o
further_none M.none = refl
further_none (M.some k) = ap Some (let z : k ≡ 0 + k = omega arith in z)

further_miss : (n : ℕ) (o : M.Option ℕ) → further n (option o M.none (λ k. M.some (suc k))) ≡ further (n + 1) o
further_miss n M.none = refl
further_miss n (M.some k) = ap Some (let z : n + suc k ≡ n + 1 + k = omega arith in z)

-- The names that are bound, from some frame on: those before it are none of them x.
pub record Looking (tree words : List ℕ) (x : Name) (index : ℕ) (ys : List Name) : Type 0 where
  pub names : List Name
  pub at : ScopeAt tree words names
  pub says : index_found ys x ≡ further index (index_of names x)

abbrev pub LookingAll : List ℕ → List ℕ → Name → List ℕ → ℕ → Type 0
LookingAll tree frames x words index = (ys : List Name) → ScopeAt tree frames ys → Looking tree words x index ys

pub look_start : (tree frames : List ℕ) (x : Name) (words : List ℕ) → words ≡ frames → LookingAll tree frames x words 0
look_start tree frames x words e ys a = record { names = ys; at = tr (λ (z : List ℕ). ScopeAt tree z ys) (sym e) a; says = further_none (index_of ys x) }

-- No more names are passed than there are words.
module _ (frame words ws : List ℕ) (index top : ℕ) (long : length frame ≡ 2) (e : words ≡ frame ++ ws) where
  pub few_missed : index + length words ≤ top → index + 1 + length ws ≤ top
  few_missed h = omega (arith, long, h, ap length e, length-append frame ws)

  pub few_passed : index + length words ≤ top → index + length ws ≤ top
  few_passed h = omega (arith, h, ap length e, length-append frame ws)

-- The first frame, its words apart.
two : (frame : List ℕ) → length frame ≡ 2 → frame ≡ get_or frame 0 0 ∷ get_or frame 1 0 ∷ []
two [] l = absurd (let z : ⊥ = omega (arith, l) in z)
two (k ∷ []) l = absurd (let z : ⊥ = omega (arith, l) in z)
two (k ∷ p ∷ []) l = refl
two (k ∷ p ∷ q ∷ r) l = absurd (let z : ⊥ = omega (arith, l) in z)

module _ (tree frame words ws : List ℕ) (long : length frame ≡ 2) (e : words ≡ frame ++ ws) where
  apart : (ys : List Name) → ScopeAt tree words ys → ScopeAt tree (get_or frame 0 0 ∷ get_or frame 1 0 ∷ ws) ys
  apart ys a = tr (λ (z : List ℕ). ScopeAt tree z ys) (e ∙ ap (λ (f : List ℕ). f ++ ws) (two frame long)) a

  pub look_named : (ys : List Name) → ScopeAt tree words ys → get_or frame 0 0 ≡ 2 → Named tree (get_or frame 1 0)
  look_named ys a t = go (apart ys a) t
    where
      go : {k p : ℕ} {zs : List Name} → ScopeAt tree (k ∷ p ∷ ws) zs → k ≡ 2 → Named tree p
      go (passed n b) t = absurd (n t)
      go (bound {y = y} n b) t = record { name = y; at = n }

  module _ {x : Name} {index : ℕ} {ys : List Name} where
    pub look_hit : Looking tree words x index ys → get_or frame 0 0 ≡ 2 → ((y : Name) → NameAt tree (get_or frame 1 0) y → same y x ≡ true) → index_found ys x ≡ Some index
    look_hit l t o = l.says ∙ go (apart l.names l.at) t o
      where
        go : {k p : ℕ} {zs : List Name} → ScopeAt tree (k ∷ p ∷ ws) zs → k ≡ 2 → ((y : Name) → NameAt tree p y → same y x ≡ true) → further index (index_of zs x) ≡ Some index
        go (passed n b) t o = absurd (n t)
        go (bound {y = y} n b) t o = let q : same y x ≡ true = o y n in rw q (ap Some (let z : index + 0 ≡ index = omega arith in z))

    pub look_miss : Looking tree words x index ys → get_or frame 0 0 ≡ 2 → ((y : Name) → NameAt tree (get_or frame 1 0) y → same y x ≡ false) → Looking tree ws x (index + 1) ys
    look_miss l t o = go l.names (apart l.names l.at) l.says t o
      where
        go : {k p : ℕ} (zs : List Name) → ScopeAt tree (k ∷ p ∷ ws) zs → index_found ys x ≡ further index (index_of zs x) → k ≡ 2 → ((y : Name) → NameAt tree p y → same y x ≡ false) → Looking tree ws x (index + 1) ys
        go zs (passed n b) f t o = absurd (n t)
        go (y ∷ zs) (bound n b) f t o =
            let q : same y x ≡ false = o y n in
            record { names = zs; at = b; says = f ∙ (let z : further index (index_of (y ∷ zs) x) ≡ further index (option (index_of zs x) M.none (λ k. M.some (suc k))) = rw q refl in z) ∙ further_miss index (index_of zs x) }

    pub look_pass : Looking tree words x index ys → (get_or frame 0 0 ≡ 2 → ⊥) → Looking tree ws x index ys
    look_pass l t = go l.names (apart l.names l.at) l.says t
      where
        go : {k p : ℕ} (zs : List Name) → ScopeAt tree (k ∷ p ∷ ws) zs → index_found ys x ≡ further index (index_of zs x) → (k ≡ 2 → ⊥) → Looking tree ws x index ys
        go zs (passed n b) f t = record { names = zs; at = b; says = f }
        go zs (bound n b) f t = absurd (t refl)

pub look_end : (tree words : List ℕ) {x : Name} {index : ℕ} {ys : List Name} → Looking tree words x index ys → length words < 2 → index_found ys x ≡ None
look_end tree words {x} {index} l h = l.says ∙ go l.at h
  where
    go : {vs : List ℕ} {zs : List Name} → ScopeAt tree vs zs → length vs < 2 → further index (index_of zs x) ≡ None
    go no_names h = refl
    go (passed n b) h = absurd (let z : ⊥ = omega (arith, h) in z)
    go (bound n b) h = absurd (let z : ⊥ = omega (arith, h) in z)
