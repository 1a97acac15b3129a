-- How the promises of the parser's functions follow from those of the functions that they call.
use Rattle.std.proofs.Common.{◌≡◌, ℕ, ◌<◌, ◌≤◌, true, cond, List, ◌∷◌, length, is_err, Ok, Err, Result, ap, ◌∙◌, arith}
use mathlib.Core.Option.{Option, some, none}
use Rattle.std.proofs.lemmas.Bool.{false≢true, cond-true}
use Rattle.syntax.specs.declared.problem.Stop.{Stop}
use Rattle.syntax.specs.Surface.{Name, e_name}
use Rattle.syntax.specs.Grammar.{is_name, is_indexed_lem, t_dot}
use Rattle.syntax.specs.Reader.{option, eat, read_word, read_indexed, read_dots}
use Rattle.syntax.specs.Parsing.{Done, FindsNone, Follows}
use Rattle.syntax.specs.declared.write.Writer.{Writer}
use Rattle.syntax.specs.declared.reading.Read.{Read}

module _ {A : Type 0} {f g : ℕ → List Name → Option (A × List Name)} {words : A → List ℕ} {level : A → ℕ} {slack : ℕ} where
  -- What f reads of us, g reads of ts.
  pub done_by : {ts us : List Name} {b₁ b₂ : ℕ} {before after : Writer} {q : Read}
      → ((n : ℕ) → length ts < n → g n ts ≡ f n us) → length us ≤ length ts → b₁ ≤ b₂
      → Done f words level slack us b₁ before after q → Done g words level slack ts b₂ before after q
  done_by e h l d =
      record { value = d.value; reads = λ n k. e n k ∙ d.reads n (omega arith); wrote = d.wrote; stage = d.stage; fewer = omega (arith, d.fewer); room = omega (arith, d.room) }

-- Where f finds nothing in us, g finds nothing in ts.
pub none_by : {A : Type 0} (f g : ℕ → List Name → Option A) (ts us : List Name)
    → ((n : ℕ) → length ts < n → g n ts ≡ f n us) → length us ≤ length ts → FindsNone f us → FindsNone g ts
none_by f g ts us e h d n k = e n k ∙ d n (omega arith)

-- A call of f with us says what g says of ts.
pub follows_by : {A : Type 0} (f g : ℕ → List Name → Option (A × List Name)) (words : A → List ℕ) (level : A → ℕ) (slack : ℕ) (ts us : List Name) (b₁ b₂ : ℕ) (before after : Writer) (r : Result Read Stop)
    → ((n : ℕ) → length ts < n → g n ts ≡ f n us) → length us ≤ length ts → b₁ ≤ b₂ → Follows f words level slack us b₁ before after r → Follows g words level slack ts b₂ before after r
follows_by f g words level slack ts us b₁ b₂ before after (Ok q) e h l d = done_by e h l d
follows_by f g words level slack ts us b₁ b₂ before after (Err s) e h l d = none_by f g ts us e h d

-- An error says that nothing is found.
pub fails : {A : Type 0} (f : ℕ → List Name → Option (A × List Name)) (words : A → List ℕ) (level : A → ℕ) (slack : ℕ) (ts : List Name) (budget : ℕ) (before after : Writer) (r : Result Read Stop)
    → is_err r ≡ true → FindsNone f ts → Follows f words level slack ts budget before after r
fails f words level slack ts budget before after (Ok q) e d = absurd (false≢true e)
fails f words level slack ts budget before after (Err s) e d = d

-- A word: what stands behind it decides.
pub word_dots : (ts us vs : List Name) (w : Name) → is_indexed_lem w ≡ true → ts ≡ w ∷ us → eat t_dot us ≡ some vs → read_word ts ≡ read_dots w vs
word_dots ts us vs w p e d = ap read_word e ∙ cond-true (is_indexed_lem w) (read_indexed w us) none p ∙ ap (λ (o : Option (List Name)). option o (cond (is_name w) (some (e_name w, us)) none) (read_dots w)) d

pub word_name : (ts us : List Name) (w : Name) → is_indexed_lem w ≡ true → is_name w ≡ true → ts ≡ w ∷ us → eat t_dot us ≡ none → read_word ts ≡ some (e_name w, us)
word_name ts us w p q e d =
    ap read_word e ∙ cond-true (is_indexed_lem w) _ _ p ∙ ap (λ (o : Option (List Name)). option o (cond (is_name w) (some (e_name w, us)) none) (read_dots w)) d ∙ cond-true (is_name w) _ _ q
