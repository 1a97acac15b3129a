-- What the lexer promises.
use Rattle.std.specs.Prelude.{◌≡◌, ℕ, ◌+◌, ◌<◌, ◌≤◌, Bool, true, false, not, ◌&&◌, List, [], ◌∷◌, ◌++◌, length, Some, None, Option, ◌==◌}
use Rattle.std.proofs.Math.Option.{some, none}
use Rattle.std.specs.Borrow.{Bor}
use Rattle.syntax.specs.Surface.{Name, same}
use Rattle.syntax.specs.Tokens.{letter, blank, joins, tokens}
use Rattle.syntax.specs.Grammar.{t_is, t_so, t_to, t_hole, letters}
use Rattle.syntax.specs.Reader.{eat, number_of, read_number, read_binder}
use Rattle.syntax.specs.declared.lexer.Token.{Token}
use Rattle.syntax.specs.declared.lexer.Token.TheVariants.{Word, Becomes, Maps, Arrow, Symbol}
use Rattle.syntax.specs.declared.lexer.Cut.{Cut}
use Rattle.syntax.specs.declared.scan.Word.{Word as WordRest}
use Rattle.syntax.specs.declared.scan.Number.{Number}

-- The bytes are none, or begin with neither a blank nor a comment.
abbrev pub Solid : List ℕ → Type 0
Solid [] = Unit {0}
Solid (c ∷ cs) = (blank c ≡ false) × ((c == 35) ≡ false)

-- The bytes of a token.
abbrev pub lexeme : Token → Name
lexeme (Word w) = w.now
lexeme Becomes = t_is
lexeme Maps = t_so
lexeme Arrow = t_to
lexeme (Symbol b) = b ∷ []

-- The byte begins no word.
abbrev pub NoLetter : ℕ → Type 0
NoLetter b = (letter b && not (b == 95)) ≡ false

-- A word has only letters, digits and _; a symbol begins no word.
abbrev pub Formed : Token → Type 0
Formed (Word w) = letters w.now ≡ true
Formed Becomes = Unit {0}
Formed Maps = Unit {0}
Formed Arrow = Unit {0}
Formed (Symbol b) = NoLetter b

-- The sign that two bytes make, or none.
abbrev pub Joins : ℕ → ℕ → Option Token → Type 0
Joins c d None = joins c d ≡ false
Joins c d (Some t) = (joins c d ≡ true) × (lexeme t ≡ c ∷ d ∷ []) × Formed t

-- A cut takes the first token of the bytes, and no byte twice: in front of the token stand only bytes that bring none.
pub record CutsOne (bs : List ℕ) (c : Cut) : Type 0 where
  pub first : tokens bs ≡ lexeme c.token ∷ tokens c.rest.now
  pub front : List ℕ
  pub place : bs ≡ front ++ (lexeme c.token ++ c.rest.now)
  pub begins : tokens (lexeme c.token ++ c.rest.now) ≡ tokens bs
  pub shorter : length (lexeme c.token) + length c.rest.now ≤ length bs
  pub some_bytes : 1 ≤ length (lexeme c.token)
  pub formed : Formed c.token

-- The first token, or none where there are no tokens.
abbrev pub Cuts : List ℕ → Option Cut → Type 0
Cuts bs None = tokens bs ≡ []
Cuts bs (Some c) = CutsOne bs c

-- The bytes r are what is left of bs behind something read: fewer bytes and fewer tokens.
pub record Behind (bs r : List ℕ) : Type 0 where
  pub shorter : length r < length bs
  pub fewer : length (tokens r) < length (tokens bs)

-- A given token, if it comes first.
abbrev pub Eats : Name → List ℕ → Option (Bor (List ℕ)) → Type 0
Eats k bs None = eat k (tokens bs) ≡ none
Eats k bs (Some r) = (eat k (tokens bs) ≡ some (tokens r.now)) × Behind bs r.now

-- Only letters, digits and _, and not _ alone.
abbrev pub is_word : Name → Bool
is_word w = letters w && not (same w t_hole)

-- No token comes first that passes a test.
abbrev pub NoWordAt : (Name → Bool) → List Name → Type 0
NoWordAt test [] = Unit {0}
NoWordAt test (w ∷ ts) = test w ≡ false

-- A word, if one comes first.
pub record WordFirst (bs : List ℕ) (w : WordRest) : Type 0 where
  pub first : tokens bs ≡ w.name.now ∷ tokens w.rest.now
  pub shorter : length w.name.now + length w.rest.now ≤ length bs
  pub some_bytes : 1 ≤ length w.name.now
  pub formed : letters w.name.now ≡ true

abbrev pub FirstWord : List ℕ → Option WordRest → Type 0
FirstWord bs None = NoWordAt is_word (tokens bs)
FirstWord bs (Some w) = WordFirst bs w

-- A word that passes a test, if one comes first.
pub record WordAt (test : Name → Bool) (bs : List ℕ) (w : WordRest) : Type 0 where
  pub passes : test w.name.now ≡ true
  pub first : tokens bs ≡ w.name.now ∷ tokens w.rest.now
  pub shorter : length w.name.now + length w.rest.now ≤ length bs
  pub fewer : length (tokens w.rest.now) < length (tokens bs)
  pub some_bytes : 1 ≤ length w.name.now
  pub short : length w.name.now ≤ 32
  pub formed : letters w.name.now ≡ true

abbrev pub FindsWord : (Name → Bool) → List ℕ → Option WordRest → Type 0
FindsWord test bs None = NoWordAt test (tokens bs)
FindsWord test bs (Some w) = WordAt test bs w

-- The value of a number's digits.
abbrev pub ValueOf : Name → Option ℕ → Type 0
ValueOf w None = number_of w ≡ none
ValueOf w (Some n) = (number_of w ≡ some n) × (n < 1000)

-- A number, if one comes first.
pub record NumberAt (bs : List ℕ) (n : Number) : Type 0 where
  pub reads : read_number (tokens bs) ≡ some (n.value, tokens n.rest.now)
  pub behind : Behind bs n.rest.now
  pub small : n.value < 1000

abbrev pub FindsNumber : List ℕ → Option Number → Type 0
FindsNumber bs None = read_number (tokens bs) ≡ none
FindsNumber bs (Some n) = NumberAt bs n

-- ( x : with the bytes behind it, if these come first.
pub record BinderAt (bs : List ℕ) (w : WordRest) : Type 0 where
  pub reads : read_binder (tokens bs) ≡ some (w.name.now, tokens w.rest.now)
  pub shorter : 2 + (length w.name.now + length w.rest.now) ≤ length bs
  pub fewer : length (tokens w.rest.now) < length (tokens bs)
  pub some_bytes : 1 ≤ length w.name.now
  pub short : length w.name.now ≤ 32

abbrev pub FindsBinder : List ℕ → Option WordRest → Type 0
FindsBinder bs None = read_binder (tokens bs) ≡ none
FindsBinder bs (Some w) = BinderAt bs w
