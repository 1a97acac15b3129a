-- What each answer of the judge promises of a text.
use Rattle.std.specs.Prelude.{◌≡◌, ℕ, ◌+◌, ◌*◌, ◌<◌, ◌≤◌, true, false, ◌↔◌, List, ◌∷◌, ◌++◌, length}
use Rattle.judge.specs.declared.Checked.{Checked}
use Rattle.judge.specs.declared.Checked.TheVariants.{All, Refused, Open, Spent, NoRoom, NotYet, NoText, Few}
use Rattle.theory.specs.Environment.{Entry, Env}
use Rattle.theory.specs.Question.{TakesLonger, TakesMore}
use Rattle.theory.specs.Theorems.{InferenceSound, InferenceComplete}
use Rattle.syntax.specs.Surface.{Decl, stage}
use Rattle.syntax.specs.Grammar.{Reads, OneReading}
use Rattle.elaboration.specs.Elaboration.{Global}
use Rattle.elaboration.specs.Declarations.{ElabDecl, Admissible, Checks, plain_decl}

-- How many stages have landed: stage n has, if n < landed.
abbrev pub landed : ℕ
landed = 1

-- Standing t n d gs e: the text t reads, at landed stages, as n declarations that check, with globals gs and environment e, then
-- d, and then others.
pub record Standing (t : List ℕ) (n : ℕ) (d : Decl) (gs : List Global) (e : Env) : Type 0 where
  pub done : List Decl
  pub rest : List Decl
  pub reads : Reads t (done ++ (d ∷ rest))
  pub in_stage : stage (done ++ (d ∷ rest)) < landed
  pub checks : Checks done gs e
  pub count : n ≡ length done

-- What an answer says of the text t, with at most so many steps allowed and w words of workspace.
--   All n: all of its n declarations check.
--   Refused n: behind n that check, nothing that the next may stand for may be declared.
--   Open n: behind n that check, something is left out of the next.
--   Spent n: behind n that check, nothing is left out of the next, and a term in question takes more steps.
--   NoRoom n: behind n that check, nothing is left out of the next, and a term in question takes more words.
--   NotYet n: it is of stage n, which has not landed.
--   NoText: it is no row of declarations.
abbrev pub CheckedSays : List ℕ → ℕ → ℕ → Checked → Type 0
CheckedSays t most w (All n) =
    (ds : List Decl) × (gs : List Global) × (e : Env) × Reads t ds × (stage ds < landed) × Checks ds gs e × (n ≡ length ds)
CheckedSays t most w (Refused n) =
    (d : Decl) × (gs : List Global) × (e : Env) × Standing t n d gs e × ((c : Entry) → Admissible gs e d c → ⊥)
CheckedSays t most w (Open n) =
    (d : Decl) × (gs : List Global) × (e : Env) × Standing t n d gs e × (plain_decl gs d ≡ false)
CheckedSays t most w (Spent n) =
    (d : Decl) × (gs : List Global) × (e : Env) × (c : Entry)
    × Standing t n d gs e × (plain_decl gs d ≡ true) × ElabDecl gs d c × TakesLonger e c most
CheckedSays t most w (NoRoom n) =
    (d : Decl) × (gs : List Global) × (e : Env) × (c : Entry)
    × Standing t n d gs e × (plain_decl gs d ≡ true) × ElabDecl gs d c × TakesMore e c most (length t) w
CheckedSays t most w (NotYet n) = (ds : List Decl) × Reads t ds × (stage ds ≡ n) × (landed ≤ n)
CheckedSays t most w NoText = (ds : List Decl) → Reads t ds → ⊥
CheckedSays t most w Few = Unit {0}

-- The promise of an answer: what it says; Few is said just if there are fewer than 65,536 words and 16 for each byte; a text is at most
-- one row of declarations; and the types that are inferred, of which the answers speak, are the types, and are there where a type is.
pub record CheckedPost (t : List ℕ) (most w : ℕ) (r : Checked) : Type 0 where
  pub says : CheckedSays t most w r
  pub few : (w < 65536 + 16 * length t) ↔ (r ≡ Few)
  pub one_reading : OneReading
  pub inference_sound : InferenceSound
  pub inference_complete : InferenceComplete
