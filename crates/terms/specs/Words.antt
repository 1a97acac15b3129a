-- How terms are kept in words: in prefix order, three words a node, its tag first.
use Rattle.std.specs.Prelude.{◌≡◌, ℕ, suc, ◌+◌, ◌-◌, ◌*◌, ◌/◌, ◌%◌, ◌<◌, Bool, true, false, cond, List, [], ◌∷◌, drop, ◌==◌, nat_eq, nat_lt}
use Rattle.theory.specs.Terms.{h_def, h_data, h_con, h_rec, h_eq, h_refl, h_along, Term, var, const, sort, pi, lam, app, size, lift}
use Rattle.terms.specs.declared.sign.Sign.{Sign}
use Rattle.terms.specs.declared.sign.Sign.TheVariants.{Pi, Lam, App, Var, Sort, Def, Data, Con, Rec, Eq, Refl, Along}

-- The words of a term, before what follows. An index takes two words, the low one first.
abbrev pub put : Term → List ℕ → List ℕ
put (pi a b) r = 0 ∷ 0 ∷ 0 ∷ put a (put b r)
put (lam a b) r = 1 ∷ 0 ∷ 0 ∷ put a (put b r)
put (app f a) r = 2 ∷ 0 ∷ 0 ∷ put f (put a r)
put (var x) r = 3 ∷ x % 4294967296 ∷ x / 4294967296 ∷ r
put (sort i) r = 4 ∷ i ∷ 0 ∷ r
put (const (h_def i)) r = 5 ∷ i ∷ 0 ∷ r
put (const (h_data i)) r = 6 ∷ i ∷ 0 ∷ r
put (const (h_con i k)) r = 7 ∷ i ∷ k ∷ r
put (const (h_rec i j)) r = 8 ∷ i ∷ j ∷ r
put (const (h_eq i)) r = 9 ∷ i ∷ 0 ∷ r
put (const (h_refl i)) r = 10 ∷ i ∷ 0 ∷ r
put (const (h_along i j)) r = 11 ∷ i ∷ j ∷ r

-- Terms in a row.
abbrev pub puts : List Term → List ℕ → List ℕ
puts [] r = r
puts (t ∷ ts) r = put t (puts ts r)

-- The nodes of terms in a row.
abbrev pub sizes : List Term → ℕ
sizes [] = 0
sizes (t ∷ ts) = size t + sizes ts

-- At place p of the words stands the term t, and behind it rest.
pub record At (ws : List ℕ) (p : ℕ) (t : Term) (rest : List ℕ) : Type 0 where
  pub stands : drop p ws ≡ put t rest

-- Some term stands at place p.
pub record Holds (ws : List ℕ) (p : ℕ) : Type 0 where
  pub term : Term
  pub rest : List ℕ
  pub at : At ws p term rest

-- Every index of the term, bound ones too, is below b.
abbrev pub Small : ℕ → Term → Type 0
Small b (var x) = x < b
Small b (const h) = Unit {0}
Small b (sort i) = Unit {0}
Small b (pi a c) = Small b a × Small b c
Small b (lam a c) = Small b a × Small b c
Small b (app f a) = Small b f × Small b a

-- Some term whose indices are below b stands at place p.
pub record HoldsSmall (b : ℕ) (ws : List ℕ) (p : ℕ) : Type 0 where
  pub term : Term
  pub rest : List ℕ
  pub at : At ws p term rest
  pub small : Small b term

-- The node at a term's root.
abbrev pub root : Term → Sign
root (pi a b) = Pi
root (lam a b) = Lam
root (app f a) = App
root (var x) = Var record { 0 = x }
root (sort i) = Sort record { 0 = i }
root (const (h_def i)) = Def i
root (const (h_data i)) = Data i
root (const (h_con i k)) = Con i k
root (const (h_rec i j)) = Rec i j
root (const (h_eq i)) = Eq i
root (const (h_refl i)) = Refl i
root (const (h_along i j)) = Along i j

-- The terms below it.
abbrev pub parts : Term → List Term
parts (pi a b) = a ∷ b ∷ []
parts (lam a b) = a ∷ b ∷ []
parts (app f a) = f ∷ a ∷ []
parts (var x) = []
parts (sort i) = []
parts (const h) = []

-- The words of a node.
abbrev pub sign_words : Sign → List ℕ
sign_words Pi = 0 ∷ 0 ∷ 0 ∷ []
sign_words Lam = 1 ∷ 0 ∷ 0 ∷ []
sign_words App = 2 ∷ 0 ∷ 0 ∷ []
sign_words (Var x) = 3 ∷ x.0 % 4294967296 ∷ x.0 / 4294967296 ∷ []
sign_words (Sort i) = 4 ∷ i.0 ∷ 0 ∷ []
sign_words (Def i) = 5 ∷ i ∷ 0 ∷ []
sign_words (Data i) = 6 ∷ i ∷ 0 ∷ []
sign_words (Con i k) = 7 ∷ i ∷ k ∷ []
sign_words (Rec i j) = 8 ∷ i ∷ j ∷ []
sign_words (Eq i) = 9 ∷ i ∷ 0 ∷ []
sign_words (Refl i) = 10 ∷ i ∷ 0 ∷ []
sign_words (Along i j) = 11 ∷ i ∷ j ∷ []

-- The node that three words say.
abbrev pub sign_of : ℕ → ℕ → ℕ → Sign
sign_of tag low high =
    cond (tag == 0) Pi (cond (tag == 1) Lam (cond (tag == 2) App
    (cond (tag == 3) (Var record { 0 = low + 4294967296 * high }) (cond (tag == 4) (Sort record { 0 = low })
    (cond (tag == 5) (Def low) (cond (tag == 6) (Data low) (cond (tag == 7) (Con low high) (cond (tag == 8) (Rec low high)
    (cond (tag == 9) (Eq low) (cond (tag == 10) (Refl low) (Along low high)))))))))))

-- Has the node parts?
abbrev pub has_parts : Sign → Bool
has_parts Pi = true
has_parts Lam = true
has_parts App = true
has_parts (Var x) = false
has_parts (Sort i) = false
has_parts (Def i) = false
has_parts (Data i) = false
has_parts (Con i k) = false
has_parts (Rec i j) = false
has_parts (Eq i) = false
has_parts (Refl i) = false
has_parts (Along i j) = false

-- The number of binders around the second part of a node that has d around it.
abbrev pub under : Sign → ℕ → ℕ
under Pi d = suc d
under Lam d = suc d
under App d = d
under (Var x) d = d
under (Sort i) d = d
under (Def i) d = d
under (Data i) d = d
under (Con i k) d = d
under (Rec i j) d = d
under (Eq i) d = d
under (Refl i) d = d
under (Along i j) d = d

-- By cases: a variable, or another node.
abbrev pub by_var : {C : Type 0} → Sign → C → (ℕ → C) → C
by_var Pi c f = c
by_var Lam c f = c
by_var App c f = c
by_var (Var x) c f = f x.0
by_var (Sort i) c f = c
by_var (Def i) c f = c
by_var (Data i) c f = c
by_var (Con i k) c f = c
by_var (Rec i j) c f = c
by_var (Eq i) c f = c
by_var (Refl i) c f = c
by_var (Along i j) c f = c

-- The root of a lifted term.
abbrev pub lift_sign : ℕ → ℕ → Sign → Sign
lift_sign c d s = by_var s s (λ x. cond (nat_lt x c) s (Var record { 0 = x + d }))

-- Is it the variable k? The root of a term in which another one is put for the variable k, if it is not that variable; the words for it.
abbrev pub is_index_lem : ℕ → Sign → Bool
is_index_lem k s = by_var s false (λ x. nat_eq x k)

abbrev pub subst_sign : ℕ → Sign → Sign
subst_sign k s = by_var s s (λ x. cond (nat_lt k x) (Var record { 0 = x - 1 }) s)

abbrev pub subst_words : ℕ → Term → Sign → List ℕ
subst_words k u s = cond (is_index_lem k s) (put (lift 0 k u) []) (sign_words (subst_sign k s))

-- The index of the node, if it has one, is below b.
abbrev pub SmallSign : ℕ → Sign → Type 0
SmallSign b Pi = Unit {0}
SmallSign b Lam = Unit {0}
SmallSign b App = Unit {0}
SmallSign b (Var x) = x.0 < b
SmallSign b (Sort i) = Unit {0}
SmallSign b (Def i) = Unit {0}
SmallSign b (Data i) = Unit {0}
SmallSign b (Con i k) = Unit {0}
SmallSign b (Rec i j) = Unit {0}
SmallSign b (Eq i) = Unit {0}
SmallSign b (Refl i) = Unit {0}
SmallSign b (Along i j) = Unit {0}

-- A number in two words, the low one first.
abbrev pub number : ℕ → List ℕ → List ℕ
number x r = x % 4294967296 ∷ x / 4294967296 ∷ r

-- The answer says whether it holds.
abbrev pub Decides : Type 0 → Bool → Type 0
Decides P true = P
Decides P false = P → ⊥
