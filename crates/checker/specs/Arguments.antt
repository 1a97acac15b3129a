-- What the arguments say.
use Rattle.std.specs.Prelude.{◌≡◌, ℕ, ◌+◌, ◌-◌, ◌^◌, ◌≤◌, min, Bool, true, false, cond, ◌||◌, List, [], ◌∷◌, codes, Option, ◌==◌}
use Rattle.std.specs.Option.{SomeIff}
use Rattle.std.specs.Str.Parse.{IsNumeral, digits_value, without_leading_plus}
use Rattle.std.specs.Str.{bytes_eq}
use Rattle.checker.specs.declared.options.Options.{Options}
use Rattle.checker.specs.declared.options.Role.{Role}
use Rattle.checker.specs.declared.options.Role.TheVariants.{Steps, Words, StepsNumber, WordsNumber, List as Listed, Help, Version, Unknown, File}

-- Does the word begin with a dash?
abbrev pub dashed : List ℕ → Bool
dashed [] = false
dashed (c ∷ cs) = c == 45

-- What a word is by itself.
abbrev pub word_role : List ℕ → Role
word_role w =
    cond (bytes_eq w (codes "--steps")) Steps
    (cond (bytes_eq w (codes "--words")) Words
    (cond (bytes_eq w (codes "--list")) Listed
    (cond (bytes_eq w (codes "--help")) Help
    (cond (bytes_eq w (codes "--version")) Version
    (cond (bytes_eq w (codes "-")) File
    (cond (dashed w) Unknown File))))))

-- What a word is behind another: behind --steps and --words it is their number.
abbrev pub role_of : Role → List ℕ → Role
role_of Steps w = StepsNumber
role_of Words w = WordsNumber
role_of StepsNumber w = word_role w
role_of WordsNumber w = word_role w
role_of Listed w = word_role w
role_of Help w = word_role w
role_of Version w = word_role w
role_of Unknown w = word_role w
role_of File w = word_role w

-- The word writes a number, in decimal, that is at most the limit; the number.
abbrev pub IsUpTo : List ℕ → ℕ → Type 0
IsUpTo w most = IsNumeral 10 (without_leading_plus w) × (digits_value 10 (without_leading_plus w) ≤ most)

abbrev pub number_in : List ℕ → ℕ
number_in w = digits_value 10 (without_leading_plus w)

-- That number, or none.
abbrev pub ReadsUpTo : List ℕ → ℕ → Option ℕ → Type 0
ReadsUpTo w most r = SomeIff r (IsUpTo w most) (number_in w)

-- That number, or else the one before.
pub record SetTo (w : List ℕ) (most before r : ℕ) : Type 0 where
  pub new : IsUpTo w most → r ≡ number_in w
  pub old : (IsUpTo w most → ⊥) → r ≡ before

-- What holds where no argument says otherwise.
abbrev pub default_options : Options
default_options = record { steps = 1000000; words = 1037311; list = false; files = 0 }

-- What an argument changes: the steps, the words, whether there is a list, how many files are named.
pub record Changes (steps : ℕ → ℕ → Type 0) (words : ℕ → ℕ → Type 0) (listed : Bool) (more : ℕ) (o r : Options) : Type 0 where
  pub steps_are : steps o.steps r.steps
  pub words_are : words o.words r.words
  pub list_is : r.list ≡ (listed || o.list)
  pub files_are : r.files ≡ min (o.files + more) (2 ^ 64 - 1)

abbrev pub Same : ℕ → ℕ → Type 0
Same m n = n ≡ m

abbrev pub Sets : Role → List ℕ → Options → Options → Type 0
Sets StepsNumber w o r = Changes (SetTo w (2 ^ 64 - 1)) Same false 0 o r
Sets WordsNumber w o r = Changes Same (SetTo w 1037311) false 0 o r
Sets Listed w o r = Changes Same Same true 0 o r
Sets File w o r = Changes Same Same false 1 o r
Sets Steps w o r = r ≡ o
Sets Words w o r = r ≡ o
Sets Help w o r = r ≡ o
Sets Version w o r = r ≡ o
Sets Unknown w o r = r ≡ o
