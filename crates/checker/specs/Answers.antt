-- What is said of a text, by the judge's answer.
use Rattle.std.specs.Prelude.{◌≡◌, ℕ, ◌+◌, ◌*◌, ◌<◌, List, length, codes}
use Rattle.std.proofs.Math.Option.{some}
use Rattle.judge.specs.declared.Checked.{Checked}
use Rattle.judge.specs.declared.Checked.TheVariants as checked
use Rattle.syntax.specs.Lines.{line_of}
use Rattle.syntax.specs.Surface.{Decl}
use Rattle.syntax.specs.Grammar.{Reads}
use Rattle.syntax.specs.Headers.{name_at, HeaderAt}
use Rattle.syntax.specs.declared.locate.Header.{Header}
use Rattle.checker.specs.declared.answer.Reason.{Reason}
use Rattle.checker.specs.declared.answer.Reason.TheVariants.{Refused, Open, Spent, NoRoom}
use Rattle.checker.specs.declared.answer.Place.{Place}
use Rattle.checker.specs.declared.answer.Fault.{Fault}
use Rattle.checker.specs.declared.answer.Said.{Said}
use Rattle.checker.specs.declared.answer.Said.TheVariants.{All, Stopped, NotYet, NoText, Few}

-- A place is where the n-th declaration of the text begins, and has its name.
pub record Begins (bs : List ℕ) (n : ℕ) (p : Place) : Type 0 where
  pub header : Header
  pub found : HeaderAt bs n header
  pub line : p.line ≡ line_of bs header.at
  pub keyword : p.keyword.now ≡ header.keyword.now
  pub name : p.name.now ≡ header.name.now
  pub declared : (ds : List Decl) → Reads bs ds → name_at ds n ≡ some p.name.now

-- Judging stopped at the n-th declaration.
pub record StopsAt (bs : List ℕ) (r : Reason) (n : ℕ) (s : Said) : Type 0 where
  pub place : Place
  pub says : s ≡ Stopped r n place
  pub begins : Begins bs n place

-- The text reads, and has an n-th declaration.
abbrev pub HasDecl : List ℕ → ℕ → Type 0
HasDecl bs n = (ds : List Decl) × Reads bs ds × (n < length ds)

-- The text does not read.
abbrev pub Unreadable : List ℕ → Type 0
Unreadable bs = (ds : List Decl) → Reads bs ds → ⊥

-- What is said of the text, with so many words lent.
abbrev pub Says : List ℕ → ℕ → Checked → Said → Type 0
Says bs w (checked.All n) s = s ≡ All n
Says bs w (checked.Refused n) s = StopsAt bs Refused n s
Says bs w (checked.Open n) s = StopsAt bs Open n s
Says bs w (checked.Spent n) s = StopsAt bs Spent n s
Says bs w (checked.NoRoom n) s = StopsAt bs NoRoom n s
Says bs w (checked.NotYet n) s = s ≡ NotYet n
Says bs w checked.NoText s = (f : Fault) × (s ≡ NoText f)
Says bs w checked.Few s = s ≡ Few w (65536 + 16 * length bs)

-- The words of a reason.
abbrev pub reason_text : Reason → List ℕ
reason_text Refused = codes "refused"
reason_text Open = codes "open"
reason_text Spent = codes "spent"
reason_text NoRoom = codes "no room"
