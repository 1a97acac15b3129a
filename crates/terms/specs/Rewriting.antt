-- A term written anew node by node: what is put for a node depends on the number of binders around it.
use Rattle.std.specs.Prelude.{ℕ, suc, List, ◌++◌}
use Rattle.theory.specs.Terms.{Term, var, const, sort, pi, lam, app}
use Rattle.terms.specs.Words.{At, root}
use Rattle.terms.specs.declared.sign.Sign.{Sign}
use Rattle.terms.specs.declared.sign.Sign.TheVariants.{Pi, Lam, App}

-- The words for a term under d binders, before what follows, if w gives those for a node.
abbrev pub rewritten : (ℕ → Sign → List ℕ) → ℕ → Term → List ℕ → List ℕ
rewritten w d (pi a b) r = w d Pi ++ rewritten w d a (rewritten w (suc d) b r)
rewritten w d (lam a b) r = w d Lam ++ rewritten w d a (rewritten w (suc d) b r)
rewritten w d (app f a) r = w d App ++ rewritten w d f (rewritten w d a r)
rewritten w d (var x) r = w d (root (var x)) ++ r
rewritten w d (sort i) r = w d (root (sort i)) ++ r
rewritten w d (const h) r = w d (root (const h)) ++ r

-- F holds of every node of a term under d binders.
abbrev pub EachNode : (ℕ → Sign → Type 0) → ℕ → Term → Type 0
EachNode F d (pi a b) = F d Pi × EachNode F d a × EachNode F (suc d) b
EachNode F d (lam a b) = F d Lam × EachNode F d a × EachNode F (suc d) b
EachNode F d (app f a) = F d App × EachNode F d f × EachNode F d a
EachNode F d (var x) = F d (root (var x))
EachNode F d (sort i) = F d (root (sort i))
EachNode F d (const h) = F d (root (const h))

-- Some term, under d binders, of whose nodes F holds stands at place p.
pub record HoldsEach (F : ℕ → Sign → Type 0) (d : ℕ) (ws : List ℕ) (p : ℕ) : Type 0 where
  pub term : Term
  pub rest : List ℕ
  pub at : At ws p term rest
  pub each : EachNode F d term
