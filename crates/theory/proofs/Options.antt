-- Equations between options and tests taken apart: what they say of the parts.
-- The lemmas are in continuation style, so that each value found is a variable where it is used.
use Rattle.std.proofs.Common.{◌≡◌, refl, sym, Bool, true, false, ◌&&◌, cond, ℕ, eqb, arith, eqb-true}
use mathlib.Core.Option.{Option, some, none}
use Rattle.theory.specs.Terms.{option}
use Rattle.theory.specs.Reduction.{or_else, map_option, bind}

-- none is no some, true is not false, some is injective
pub none-some : {A B : Type 0} {x : A} → none ≡ some x → B
none-some {x} p = absurd (let z : ◌≡◌ {A = ℕ} 0 1 = cc in omega arith)

pub some-none : {A B : Type 0} {x : A} → some x ≡ none → B
some-none p = none-some (sym p)

pub true-false : {B : Type 0} → true ≡ false → B
true-false p = absurd (let z : ◌≡◌ {A = ℕ} 0 1 = cc in omega arith)

pub false-true : {B : Type 0} → false ≡ true → B
false-true p = true-false (sym p)

pub some_inj : {A : Type 0} {x y : A} → some x ≡ some y → x ≡ y
some_inj p = cc

-- by cases on an option or a test, with the equation kept
pub cases_option : {A D : Type 0} (o : Option A) → (o ≡ none → D) → ((x : A) → o ≡ some x → D) → D
cases_option none n s = n refl
cases_option (some x) n s = s x refl

pub cases_bool : {D : Type 0} (b : Bool) → (b ≡ true → D) → (b ≡ false → D) → D
cases_bool true t f = t refl
cases_bool false t f = f refl

-- what comes of a chain that gives some
pub bind-some : {A C D : Type 0} (o : Option A) (f : A → Option C) {y : C} → bind o f ≡ some y → ((x : A) → o ≡ some x → f x ≡ some y → D) → D
bind-some none f p k = none-some p
bind-some (some x) f p k = k x refl p

pub option-some : {A C D : Type 0} (o : Option A) (f : A → Option C) {y : C} → option o none f ≡ some y → ((x : A) → o ≡ some x → f x ≡ some y → D) → D
option-some none f p k = none-some p
option-some (some x) f p k = k x refl p

pub option-true : {A D : Type 0} (o : Option A) (f : A → Bool) → option o false f ≡ true → ((x : A) → o ≡ some x → f x ≡ true → D) → D
option-true none f p k = false-true p
option-true (some x) f p k = k x refl p

pub cond-some : {A D : Type 0} (b : Bool) (o : Option A) {y : A} → cond b o none ≡ some y → (b ≡ true → o ≡ some y → D) → D
cond-some true o p k = k refl p
cond-some false o p k = none-some p

pub map-some : {A C D : Type 0} (f : A → C) (o : Option A) {y : C} → map_option f o ≡ some y → ((x : A) → o ≡ some x → f x ≡ y → D) → D
map-some f none p k = none-some p
map-some f (some x) p k = k x refl (some_inj p)

pub or_else_some : {A D : Type 0} (a b : Option A) {y : A} → or_else a b ≡ some y → (a ≡ some y → D) → (a ≡ none → b ≡ some y → D) → D
or_else_some none b p j k = k refl p
or_else_some (some x) b p j k = j p

-- what comes of one that gives none
pub bind-none : {A C D : Type 0} (o : Option A) (f : A → Option C) → bind o f ≡ none → (o ≡ none → D) → ((x : A) → o ≡ some x → f x ≡ none → D) → D
bind-none none f p j k = j refl
bind-none (some x) f p j k = k x refl p

pub map-none : {A C : Type 0} (f : A → C) (o : Option A) → map_option f o ≡ none → o ≡ none
map-none f none p = refl
map-none f (some x) p = some-none p

pub or_else_none : {A D : Type 0} (a b : Option A) → or_else a b ≡ none → (a ≡ none → b ≡ none → D) → D
or_else_none none b p k = k refl p
or_else_none (some x) b p k = some-none p

-- tests
pub and_true : {D : Type 0} (a b : Bool) → (a && b) ≡ true → (a ≡ true → b ≡ true → D) → D
and_true true b p k = k refl p
and_true false b p k = false-true p

pub cond-eqb : {A D : Type 0} (m n : ℕ) (o : Option A) {y : A} → cond (eqb m n) o none ≡ some y → (m ≡ n → o ≡ some y → D) → D
cond-eqb m n o p k = cond-some (eqb m n) o p λ t q. k (eqb-true m n t) q
