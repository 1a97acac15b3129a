-- From bytes to tokens: words of letters, digits and _ that do not begin with _; the signs := => ->; every other byte by itself;
-- # to the end of the line is a comment.
use Rattle.std.specs.Prelude.{ℕ, Bool, cond, not, ◌&&◌, ◌||◌, List, [], ◌∷◌, ◌++◌, ◌==◌, nat_le}
use Rattle.syntax.specs.Surface.{Name}

-- A byte that words are made of: a letter, a digit or _.
abbrev pub letter : ℕ → Bool
letter c = (nat_le 97 c && nat_le c 122) || ((nat_le 65 c && nat_le c 90) || (c == 95 || (nat_le 48 c && nat_le c 57)))

-- A space, the end of a line, a tab.
abbrev pub blank : ℕ → Bool
blank c = c == 32 || (c == 10 || (c == 13 || c == 9))

-- : = - may begin a sign of two bytes; d and c together are := => or ->.
abbrev pub begins : ℕ → Bool
begins c = c == 58 || (c == 61 || c == 45)

abbrev pub joins : ℕ → ℕ → Bool
joins d c = (d == 58 && c == 61) || ((d == 61 && c == 62) || (d == 45 && c == 62))

-- Where reading stands: between tokens, in a word, behind the first byte of a sign, in a comment.
pub data Mode : Type 0 where
  between : Mode
  word : Name → Mode
  sign : ℕ → Mode
  comment : Mode

-- What one byte brings: the tokens that end, and where reading stands then.
pub record Turn : Type 0 where
  pub out : List Name
  pub mode : Mode

abbrev pub turn : List Name → Mode → Turn
turn o m = record { out = o; mode = m }

-- A byte where no token is open, behind the tokens o.
abbrev pub fresh : List Name → ℕ → Turn
fresh o c =
    cond (blank c) (turn o between)
    (cond (c == 35) (turn o comment)
    (cond (letter c && not (c == 95)) (turn o (word (c ∷ [])))
    (cond (begins c) (turn o (sign c))
    (turn (o ++ ((c ∷ []) ∷ [])) between))))

-- One byte.
abbrev pub read_byte : Mode → ℕ → Turn
read_byte between c = fresh [] c
read_byte (word w) c = cond (letter c) (turn [] (word (w ++ (c ∷ [])))) (fresh (w ∷ []) c)
read_byte (sign d) c = cond (joins d c) (turn ((d ∷ c ∷ []) ∷ []) between) (fresh ((d ∷ []) ∷ []) c)
read_byte comment c = cond (c == 10) (turn [] between) (turn [] comment)

-- What the end of the text brings.
abbrev pub at_end : Mode → List Name
at_end between = []
at_end (word w) = w ∷ []
at_end (sign d) = (d ∷ []) ∷ []
at_end comment = []

-- The tokens of the bytes, from a mode on.
abbrev pub tokens_from : Mode → List ℕ → List Name
tokens_from m [] = at_end m
tokens_from m (c ∷ cs) = let t = read_byte m c in t.out ++ tokens_from t.mode cs

-- The tokens of a text.
abbrev pub tokens : List ℕ → List Name
tokens t = tokens_from between t
