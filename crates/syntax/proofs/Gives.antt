-- Gives o Q: if the option o has a value, Q holds of it. How this goes through the ways in which the readers are composed:
-- each lemma takes what is known of the first part, and what then follows of the rest.
use Rattle.std.proofs.Common.{◌≡◌, ℕ, Bool, true, false, cond, not, T, List, refl, subst as tr, arith}
use mathlib.Core.Option.{Option, some, none, some-injective}
use Rattle.syntax.specs.Surface.{Name}
use Rattle.syntax.specs.Reader.{option, bind, then}

pub record Gives {A : Type 0} (o : Option A) (Q : A → Type 0) : Type 0 where
  pub found : (x : A) → o ≡ some x → Q x

-- No value is none.
pub no_some : {A : Type 0} {B : Type 0} {x : A} → ◌≡◌ {A = Option A} none (some x) → B
no_some {x} e = let z : ◌≡◌ {A = ℕ} 0 1 = cc in absurd (let f : ⊥ = omega arith in f)

pub at_none : {A : Type 0} {Q : A → Type 0} → Gives none Q
at_none = record { found = λ x e. no_some e }

pub at_some : {A : Type 0} {Q : A → Type 0} {x : A} → Q x → Gives (some x) Q
at_some {Q} {x} q = record { found = λ y e. tr Q (some-injective x y e) q }

pub by_then : {A C : Type 0} {P : (A × List Name) → Type 0} {Q : C → Type 0} {o : Option (A × List Name)} {f : A → List Name → Option C} → Gives o P
    → ((a : A) (us : List Name) → P (a, us) → Gives (f a us) Q) → Gives (then o f) Q
by_then {o = none} g k = at_none
by_then {o = some p} g k = k p.0 p.1 (g.found p refl)

pub by_bind : {A C : Type 0} {P : A → Type 0} {Q : C → Type 0} {o : Option A} {f : A → Option C} → Gives o P → ((x : A) → P x → Gives (f x) Q) → Gives (bind o f) Q
by_bind {o = none} g k = at_none
by_bind {o = some x} g k = k x (g.found x refl)

pub by_option : {A C : Type 0} {P : A → Type 0} {Q : C → Type 0} {o : Option A} {c : Option C} {f : A → Option C} → Gives o P → Gives c Q
    → ((x : A) → P x → Gives (f x) Q) → Gives (option o c f) Q
by_option {o = none} g h k = h
by_option {o = some x} g h k = k x (g.found x refl)

pub by_cond : {C : Type 0} {Q : C → Type 0} {c d : Option C} (b : Bool) → (T b → Gives c Q) → (T (not b) → Gives d Q) → Gives (cond b c d) Q
by_cond true h k = h tt
by_cond false h k = k tt

-- Of any value nothing is asked.
pub any : {A : Type 0} {o : Option A} → Gives o (λ x. Unit)
any = record { found = λ x e. tt }

-- What follows from what is given.
pub so : {A : Type 0} {P Q : A → Type 0} {o : Option A} → Gives o P → ((x : A) → P x → Q x) → Gives o Q
so g k = record { found = λ x e. k x (g.found x e) }

-- What follows when the first part is known.
pub then_is : {A C : Type 0} (o : Option (A × List Name)) (f : A → List Name → Option C) {a : A} {us : List Name} {z : Option C} → o ≡ some (a, us) → f a us ≡ z → then o f ≡ z
then_is o f e k = rw e k

pub option_is : {A C : Type 0} (o : Option A) (c : C) (f : A → C) {x : A} {z : C} → o ≡ some x → f x ≡ z → option o c f ≡ z
option_is o c f e k = rw e k

pub option_not : {A C : Type 0} (o : Option A) (c : C) (f : A → C) {z : C} → o ≡ none → c ≡ z → option o c f ≡ z
option_not o c f e k = rw e k

pub bind_not : {A C : Type 0} (o : Option A) (f : A → Option C) → o ≡ none → bind o f ≡ none
bind_not o f e = rw e refl
