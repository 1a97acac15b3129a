-- Names kept in words: those that were declared in a table, those that are bound on a stack; both by their places in the tree.
use Rattle.std.specs.Prelude.{◌≡◌, ℕ, List, [], ◌∷◌, drop, Some, None, Option, ◌≢◌}
use Rattle.theory.specs.Terms.{const, option}
use Rattle.terms.specs.Words.{put, root}
use Rattle.terms.specs.declared.sign.Sign.{Sign}
use Rattle.syntax.specs.Surface.{Name}
use Rattle.syntax.specs.Tree.{put_name}
use Rattle.elaboration.specs.Elaboration.{Global, lookup, index_of}

-- At place p of the tree stands the name x.
pub record NameAt (tree : List ℕ) (p : ℕ) (x : Name) : Type 0 where
  pub rest : List ℕ
  pub stands : drop p tree ≡ put_name x rest

-- Some name stands there.
pub record Named (tree : List ℕ) (p : ℕ) : Type 0 where
  pub name : Name
  pub at : NameAt tree p name

-- The table begins with the row of the global g: the place of its name, its head in three words. It hides no arguments.
pub record Row (tree table : List ℕ) (g : Global) : Type 0 where
  pub place : ℕ
  pub behind : List ℕ
  pub words : table ≡ place ∷ put (const g.head) behind
  pub at : NameAt tree place g.name
  pub bare : g.hidden ≡ 0

-- The rows of the table are the globals.
pub data GlobalsAt (tree : List ℕ) : List ℕ → List Global → Type 0 where
  no_rows : GlobalsAt tree [] []
  a_row : {table : List ℕ} {g : Global} {gs : List Global} (r : Row tree table g) → GlobalsAt tree r.behind gs → GlobalsAt tree table (g ∷ gs)

-- Some globals are.
pub record Tabled (tree table : List ℕ) : Type 0 where
  pub globals : List Global
  pub at : GlobalsAt tree table globals

-- The names that are bound, the innermost first: of the pairs of words those whose first is 2 have the place of one.
pub data ScopeAt (tree : List ℕ) : List ℕ → List Name → Type 0 where
  no_names : ScopeAt tree [] []
  passed : {k p : ℕ} {ws : List ℕ} {ys : List Name} → (k ≢ 2) → ScopeAt tree ws ys → ScopeAt tree (k ∷ p ∷ ws) ys
  bound : {p : ℕ} {ws : List ℕ} {y : Name} {ys : List Name} → NameAt tree p y → ScopeAt tree ws ys → ScopeAt tree (2 ∷ p ∷ ws) (y ∷ ys)

-- Some names are bound.
pub record Scoped (tree words : List ℕ) : Type 0 where
  pub names : List Name
  pub at : ScopeAt tree words names

-- The node for the first global of that name, and the index of a bound name.
abbrev pub global_sign : List Global → Name → Option Sign
global_sign gs x = option (lookup gs x) None (λ g. Some (root (const g.head)))

abbrev pub index_found : List Name → Name → Option ℕ
index_found ys x = option (index_of ys x) None Some
