-- Contexts in words: the place of a type that is looked up.
use Rattle.std.proofs.Common.{◌≡◌, ℕ, zero, suc, ◌+◌, ◌*◌, ◌<◌, ◌≤◌, List, [], ◌∷◌, length, drop, sym, refl, ap, ◌∙◌, arith}
use mathlib.Core.Option.{some, none}
use lib.ListN.{get_elem?}
use Rattle.std.proofs.lemmas.List.{drop-drop}
use Rattle.theory.specs.Terms.{Term, lift}
use Rattle.theory.specs.Reduction.{map_option}
use Rattle.theory.proofs.Closed.{get_there}
use Rattle.theory.proofs.Options.{none-some, some_inj}
use Rattle.terms.specs.Words.{number, At}
use Rattle.kernel.specs.Machine.{ContextAt}

-- Where the type of a variable stands.
pub record TypeAt (ws c : List ℕ) (x : ℕ) (a : Term) : Type 0 where
  pub place : ℕ
  pub rest : List ℕ
  pub behind : List ℕ
  pub says : drop (2 * x) c ≡ number place rest
  pub stands : At ws place a behind

type_there : {ws c d : List ℕ} {a : Term} (x p : ℕ) → c ≡ number p d → TypeAt ws d x a → TypeAt ws c (suc x) a
type_there {c} {d} x p e t = record {
  place = t.place;
  rest = t.rest;
  behind = t.behind;
  says = ap (λ (n : ℕ). drop n c) (let z : 2 * suc x ≡ suc (suc (2 * x)) = omega arith in z) ∙ ap (λ (w : List ℕ). drop (suc (suc (2 * x))) w) e ∙ t.says;
  stands = t.stands;
}

pub type_at : (ws : List ℕ) (g : List Term) (c : List ℕ) (x : ℕ) {a : Term} → ContextAt ws g c → get_elem? g x ≡ some a → TypeAt ws c x a
type_at ws [] c x h q = none-some q
type_at ws (b ∷ g) c zero h q = let (p, r, d, e, at, _) = h in record { place = p; rest = d; behind = r; says = e; stands = rw (some_inj q) at at }
type_at ws (b ∷ g) c (suc x) h q = let (p, r, d, e, _, more) = h in type_there x p e (type_at ws g d x more q)

-- The words of a context, and of what is behind its last type.
pub context_length : (ws : List ℕ) (g : List Term) (c : List ℕ) → ContextAt ws g c → length c ≡ 2 * length g
context_length ws [] c h = ap length h
context_length ws (a ∷ g) c h = let (p, r, d, e, _, more) = h in omega (arith, ap length e, context_length ws g d more)

pub get_none : {A : Type 0} (xs : List A) (x : ℕ) → length xs ≤ x → get_elem? xs x ≡ none
get_none [] x h = refl
get_none (y ∷ xs) zero h = absurd (let z : ⊥ = omega arith in z)
get_none (y ∷ xs) (suc x) h = get_none xs x (omega arith)

-- The type of a variable that is looked up by its place.
pub record Found (ws : List ℕ) (g : List Term) (x p : ℕ) : Type 0 where
  pub term : Term
  pub rest : List ℕ
  pub is : get_elem? g x ≡ some term
  pub at : At ws p term rest

pub found : (ws context : List ℕ) (names x p : ℕ) (g : List Term) → ContextAt ws g (drop names context) → x < length g
    → ((y : ℕ) (rest : List ℕ) → drop (names + 2 * x) context ≡ number y rest → p ≡ y) → Found ws g x p
found ws context names x p g c l says = get_there g x l λ a is.
    let t = type_at ws g (drop names context) x c is in
    record { term = a; rest = t.behind; is = is; at = rw (says t.place t.rest (sym (drop-drop (2 * x) names context) ∙ t.says)) t.stands }

-- It is lifted over the binders in between.
pub lifted : (g : List Term) (x : ℕ) {a : Term} → get_elem? g x ≡ some a → map_option (lift 0 (suc x)) (get_elem? g x) ≡ some (lift 0 (x + 1) a)
lifted g x {a} p = rw p (ap (λ (n : ℕ). some (lift 0 n a)) (let z : suc x ≡ x + 1 = omega arith in z))
