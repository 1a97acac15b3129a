-- The nodes of plain terms in the tree: what each becomes, and where its parts begin.
use Rattle.std.specs.Prelude.{◌≡◌, ℕ, ◌<◌, ◌≤◌, true, List, [], ◌∷◌, length, drop, Some, None, Option}
use Rattle.std.proofs.Math.Option as M
use Rattle.theory.specs.Terms.{Head, Term, const, option}
use Rattle.terms.specs.Words.{root}
use Rattle.terms.specs.declared.sign.Sign.{Sign}
use Rattle.terms.specs.declared.sign.Sign.TheVariants.{Pi, Lam, App, Var, Sort, Def, Data, Con, Rec, Eq, Refl, Along}
use Rattle.syntax.specs.Surface.{Name, Expr, e_name, e_at, e_full, e_sort, e_pi, e_lam, e_app, e_hole, e_by, e_have}
use Rattle.syntax.specs.Tree.{put_expr, put_name, put_numbers}
use Rattle.elaboration.specs.Elaboration.{Global}
use Rattle.resolver.specs.Resolving.{basic, name_term, indexed_term}
use Rattle.resolver.specs.Names.{GlobalsAt, Tabled, ScopeAt, Scoped}
use Rattle.resolver.specs.declared.names.Names.{Names}

-- The node of a term, and of a head, if there is one.
abbrev pub term_sign : M.Option Term → Option Sign
term_sign o = option o None (λ t. Some (root t))

abbrev pub head_sign : M.Option Head → Option Sign
head_sign o = option o None (λ h. Some (root (const h)))

-- The recursor into Type i, if the node is a data type.
abbrev pub recursor_sign : Sign → ℕ → Option Sign
recursor_sign Pi i = None
recursor_sign Lam i = None
recursor_sign App i = None
recursor_sign (Var x) i = None
recursor_sign (Sort l) i = None
recursor_sign (Def k) i = None
recursor_sign (Data k) i = Some (Rec k i)
recursor_sign (Con k j) i = None
recursor_sign (Rec k j) i = None
recursor_sign (Eq k) i = None
recursor_sign (Refl k) i = None
recursor_sign (Along k j) i = None

-- The root of what a plain term stands for.
abbrev pub node_sign_lem : List Global → List Name → Expr → Option Sign
node_sign_lem gs ys (e_name x) = term_sign (name_term gs ys x)
node_sign_lem gs ys (e_at x ns) = term_sign (indexed_term gs ys x ns)
node_sign_lem gs ys (e_full x) = None
node_sign_lem gs ys (e_sort i) = Some (Sort record { 0 = i })
node_sign_lem gs ys (e_pi x a b) = Some Pi
node_sign_lem gs ys (e_lam x a b) = Some Lam
node_sign_lem gs ys (e_app f a) = Some App
node_sign_lem gs ys e_hole = None
node_sign_lem gs ys (e_by a) = None
node_sign_lem gs ys (e_have x a b c) = None

-- Terms in a row; the parts of a plain term.
abbrev pub put_exprs : List Expr → List ℕ → List ℕ
put_exprs [] r = r
put_exprs (e ∷ es) r = put_expr e (put_exprs es r)

abbrev pub parts_of : Expr → List Expr
parts_of (e_name x) = []
parts_of (e_at x ns) = []
parts_of (e_full x) = []
parts_of (e_sort i) = []
parts_of (e_pi x a b) = a ∷ b ∷ []
parts_of (e_lam x a b) = a ∷ b ∷ []
parts_of (e_app f a) = f ∷ a ∷ []
parts_of e_hole = []
parts_of (e_by a) = []
parts_of (e_have x a b c) = []

-- At place p of the tree stands the plain term e, and behind it rest.
pub record PlainAt (tree : List ℕ) (p : ℕ) (e : Expr) (rest : List ℕ) : Type 0 where
  pub stands : drop p tree ≡ put_expr e rest
  pub plain : basic e ≡ true

-- Some plain term stands there.
pub record Plain (tree : List ℕ) (p : ℕ) : Type 0 where
  pub expr : Expr
  pub rest : List ℕ
  pub at : PlainAt tree p expr rest

-- At place p stands the name x, and the numbers ns behind it.
pub record IndexedAt (tree : List ℕ) (p : ℕ) (x : Name) (ns : List ℕ) : Type 0 where
  pub rest : List ℕ
  pub stands : drop p tree ≡ put_name x (put_numbers ns rest)

pub record Indexed (tree : List ℕ) (p : ℕ) : Type 0 where
  pub name : Name
  pub numbers : List ℕ
  pub at : IndexedAt tree p name numbers

-- The names at hand: those in the table, and those that the words of a stack bind.
pub record Known (tree table words : List ℕ) : Type 0 where
  pub globals : Tabled tree table
  pub scope : Scoped tree words

abbrev pub AreKnown : Names → Type 0
AreKnown n = Known n.tree.now n.table.now n.frames.now

-- They are these globals and these bound names.
pub record KnownAs (n : Names) (gs : List Global) (ys : List Name) : Type 0 where
  pub globals : GlobalsAt n.tree.now n.table.now gs
  pub scope : ScopeAt n.tree.now n.frames.now ys

-- Behind the node at p, at q, stand its parts, and behind them rest.
pub record PartsAt (tree : List ℕ) (p : ℕ) (e : Expr) (rest : List ℕ) (q : ℕ) : Type 0 where
  pub stands : drop q tree ≡ put_exprs (parts_of e) rest
  pub later : p < q
  pub within : q ≤ length tree
