-- The normal-order step found in one pass from left to right. What is still to come is a row of items; `ans` says what the step of the whole
-- is, given what was found so far. Expanding an item into its parts keeps the answer.
use Rattle.std.proofs.Common.{◌≡◌, ℕ, true, List, [], ◌∷◌, ◌++◌, sym, refl, ap, ◌∙◌, ap₂, append_assoc}
use mathlib.Core.Option.{Option, some, none}
use Rattle.theory.specs.Terms.{Term, pi, lam, app}
use Rattle.theory.specs.Environment.{Env}
use Rattle.theory.specs.Reduction.{or_else, map_option, contract, normal_step}
use Rattle.theory.proofs.WeakHead.{needs_arg}
use Rattle.terms.specs.Words.{put}
use Rattle.reduction.specs.Spines.{CalmApp}
use Rattle.reduction.proofs.Putting.{behind}

-- Still to come: a term; the last argument a of a possible redex f a, before which the words q stand; the place behind which an earlier
-- find counts again if nothing was found since.
pub data Item : Type 0 where
  plain : Term → Item
  last : List ℕ → Term → Term → Item
  orelse : Option (List ℕ) → Item

-- The words to come, and behind them r.
abbrev pub words : List Item → List ℕ → List ℕ
words [] r = r
words (plain t ∷ is) r = put t (words is r)
words (last q f a ∷ is) r = put a (words is r)
words (orelse c ∷ is) r = words is r

-- A step to a term, between the words q and r.
abbrev pub within : List ℕ → List ℕ → Option Term → Option (List ℕ)
within q r o = map_option (λ u. q ++ put u r) o

-- The words after the step of the whole: pre stand before, o was found so far, r stand behind.
abbrev pub ans : Env → List ℕ → List ℕ → Option (List ℕ) → List Item → Option (List ℕ)
ans e r pre o [] = o
ans e r pre o (plain t ∷ is) = ans e r (pre ++ put t []) (or_else o (within pre (words is r) (normal_step e t))) is
ans e r pre o (last q f a ∷ is) =
    ans e r (pre ++ put a []) (or_else (within q (words is r) (contract e f a)) (or_else (within pre (words is r) (normal_step e a)) o)) is
ans e r pre o (orelse c ∷ is) = ans e r pre (or_else o c) is

-- One node.
abbrev pub node : ℕ → List ℕ
node w = w ∷ 0 ∷ 0 ∷ []

-- A node with two parts: its words.
abbrev pub Law : (Term → Term → Term) → ℕ → Type 0
Law n w = (a b : Term) (r : List ℕ) → put (n a b) r ≡ w ∷ 0 ∷ 0 ∷ put a (put b r)

-- The words before the second part.
before_right : (n : Term → Term → Term) (w : ℕ) → Law n w → (pre : List ℕ) (a b : Term) (r : List ℕ) → pre ++ put (n a b) r ≡ ((pre ++ node w) ++ put a []) ++ put b r
before_right n w law pre a b r = ap (λ z. pre ++ z) (law a b r) ∙ (sym (append_assoc pre (node w) (put a (put b r))) ∙ behind (pre ++ node w) a (put b r))

before_left : (n : Term → Term → Term) (w : ℕ) → Law n w → (pre : List ℕ) (a b : Term) (r : List ℕ) → pre ++ put (n a b) r ≡ (pre ++ node w) ++ put a (put b r)
before_left n w law pre a b r = ap (λ z. pre ++ z) (law a b r) ∙ sym (append_assoc pre (node w) (put a (put b r)))

-- A step in its left part or in its right one.
within_left : (n : Term → Term → Term) (w : ℕ) → Law n w → (pre : List ℕ) (b : Term) (x : Option Term) (r : List ℕ)
    → within pre r (map_option (λ c. n c b) x) ≡ within (pre ++ node w) (put b r) x
within_left n w law pre b none r = refl
within_left n w law pre b (some c) r = ap some (before_left n w law pre c b r)

within_right : (n : Term → Term → Term) (w : ℕ) → Law n w → (pre : List ℕ) (a : Term) (x : Option Term) (r : List ℕ)
    → within pre r (map_option (n a) x) ≡ within ((pre ++ node w) ++ put a []) r x
within_right n w law pre a none r = refl
within_right n w law pre a (some c) r = ap some (before_right n w law pre a c r)

within_or : (q r : List ℕ) (x y : Option Term) → within q r (or_else x y) ≡ or_else (within q r x) (within q r y)
within_or q r none y = refl
within_or q r (some c) y = refl

or_none : {A : Type 0} (x : Option A) → or_else x none ≡ x
or_none none = refl
or_none (some y) = refl

-- A node that steps in its left part, or else in its right one.
abbrev pub Parts : Env → (Term → Term → Term) → Term → Term → Type 0
Parts e n a b = normal_step e (n a b) ≡ or_else (map_option (λ c. n c b) (normal_step e a)) (map_option (n a) (normal_step e b))

pub value_parts : (n : Term → Term → Term) (w : ℕ) → Law n w → (e : Env) (pre : List ℕ) (a b : Term) (r : List ℕ) → Parts e n a b
    → within pre r (normal_step e (n a b)) ≡ or_else (within (pre ++ node w) (put b r) (normal_step e a)) (within ((pre ++ node w) ++ put a []) r (normal_step e b))
value_parts n w law e pre a b r p =
    ap (within pre r) p
    ∙ (within_or pre r (map_option (λ c. n c b) (normal_step e a)) (map_option (n a) (normal_step e b))
    ∙ ap₂ or_else (within_left n w law pre b (normal_step e a) r) (within_right n w law pre a (normal_step e b) r))

-- Such a node expands into its parts.
pub expand : (n : Term → Term → Term) (w : ℕ) → Law n w → (e : Env) (r pre : List ℕ) (a b : Term) (is : List Item) → Parts e n a b
    → ans e r pre none (plain (n a b) ∷ is) ≡ ans e r (pre ++ node w) none (plain a ∷ plain b ∷ is)
expand n w law e r pre a b is p = ap₂ (λ q o. ans e r q o is) (before_right n w law pre a b []) (value_parts n w law e pre a b (words is r) p)

pub expand_pi : (e : Env) (r pre : List ℕ) (a b : Term) (is : List Item) → ans e r pre none (plain (pi a b) ∷ is) ≡ ans e r (pre ++ node 0) none (plain a ∷ plain b ∷ is)
expand_pi e r pre a b is = expand pi 0 (λ a b r. refl) e r pre a b is refl

pub expand_lam : (e : Env) (r pre : List ℕ) (a b : Term) (is : List Item) → ans e r pre none (plain (lam a b) ∷ is) ≡ ans e r (pre ++ node 1) none (plain a ∷ plain b ∷ is)
expand_lam e r pre a b is = expand lam 1 (λ a b r. refl) e r pre a b is refl

-- An application that is no redex and does not look at its argument first; and one that looks at its argument.
pub calm_parts : (e : Env) (f a : Term) → CalmApp e f a → Parts e app f a
calm_parts e f a c = rw (c.no_redex, c.no_need)

pub expand_app : (e : Env) (r pre : List ℕ) (f a : Term) (is : List Item) → CalmApp e f a
    → ans e r pre none (plain (app f a) ∷ is) ≡ ans e r (pre ++ node 2) none (plain f ∷ plain a ∷ is)
expand_app e r pre f a is c = expand app 2 (λ a b r. refl) e r pre f a is (calm_parts e f a c)

pub expand_need : (e : Env) (r pre : List ℕ) (f a : Term) (is : List Item) → needs_arg e f a ≡ true
    → ans e r pre none (plain (app f a) ∷ is) ≡ ans e r (pre ++ node 2) none (plain f ∷ last pre f a ∷ is)
expand_need e r pre f a is p =
    ap₂ (λ q o. ans e r q o is) (before_right app 2 (λ a b r. refl) pre f a [])
    (ap (within pre (words is r)) (needed p)
    ∙ (within_or pre (words is r) (contract e f a) _
    ∙ ap (or_else (within pre (words is r) (contract e f a)))
    (within_or pre (words is r) (map_option (app f) (normal_step e a)) _
    ∙ ap₂ or_else (within_right app 2 (λ a b r. refl) pre f (normal_step e a) (words is r)) (within_left app 2 (λ a b r. refl) pre a (normal_step e f) (words is r)))))
  where
    needed : needs_arg e f a ≡ true → normal_step e (app f a) ≡ or_else (contract e f a) (or_else (map_option (app f) (normal_step e a)) (map_option (λ g. app g a) (normal_step e f)))
    needed p = rw p
