-- Where the declarations of a text begin, and where a token stands.
use Rattle.std.specs.Prelude.{◌≡◌, ℕ, ◌-◌, ◌≤◌, Bool, true, cond, ◌⊎◌, List, [], ◌∷◌, length, take, drop, Some, None, Option, ◌==◌}
use Rattle.std.proofs.Math.Option.{some, none, Option as Maybe}
use Rattle.syntax.specs.Surface.{Name, listed, Decl, d_def, d_axiom, d_data}
use Rattle.syntax.specs.Tokens.{tokens}
use Rattle.syntax.specs.Grammar.{Reads, is_name, k_def, k_theorem, k_axiom, k_data}
use Rattle.syntax.specs.Lexing.{NoWordAt}
use Rattle.syntax.specs.declared.locate.Header.{Header}

-- The words that begin a declaration.
abbrev pub begins_decl : Name → Bool
begins_decl w = listed w (k_def ∷ k_theorem ∷ k_axiom ∷ k_data ∷ [])

-- The tokens from the n-th of these words on, counted from 0.
abbrev pub nth_decl : ℕ → List Name → Maybe (List Name)
nth_decl n [] = none
nth_decl n (w ∷ ws) = cond (begins_decl w) (cond (n == 0) (some (w ∷ ws)) (nth_decl (n - 1) ws)) (nth_decl n ws)

-- The name of a declaration, and of the n-th of several.
abbrev pub decl_name : Decl → Name
decl_name (d_def x h a b) = x
decl_name (d_axiom x h a) = x
decl_name (d_data x h ps l cs) = x

abbrev pub name_at : List Decl → ℕ → Maybe Name
name_at [] n = none
name_at (d ∷ ds) n = cond (n == 0) (some (decl_name d)) (name_at ds (n - 1))

-- The tokens from a word on that begins a declaration are there just if there is that declaration, and its name comes second.
abbrev pub Declared : Maybe (List Name) → Maybe Name → Type 0
Declared none none = Unit {0}
Declared none (some x) = ⊥
Declared (some ts) none = ⊥
Declared (some []) (some x) = ⊥
Declared (some (w ∷ [])) (some x) = ⊥
Declared (some (w ∷ y ∷ ts)) (some x) = (y ≡ x) × (is_name y ≡ true)

-- In a text that reads, these words begin its declarations, and nothing else.
abbrev pub HeadersRight : Type 0
HeadersRight = (t : List ℕ) (ds : List Decl) → Reads t ds → (n : ℕ) → Declared (nth_decl n (tokens t)) (name_at ds n)

-- The header of the n-th declaration: its keyword stands at a place of the text, and a name behind it.
pub record HeaderAt (bs : List ℕ) (n : ℕ) (h : Header) : Type 0 where
  pub behind : List Name
  pub nth : nth_decl n (tokens bs) ≡ some (h.keyword.now ∷ h.name.now ∷ behind)
  pub place : tokens (drop h.at bs) ≡ h.keyword.now ∷ h.name.now ∷ behind
  pub spelled : take (length h.keyword.now) (drop h.at bs) ≡ h.keyword.now
  pub begins : begins_decl h.keyword.now ≡ true
  pub named : is_name h.name.now ≡ true
  pub within : h.at ≤ length bs

-- There is no n-th declaration, or no name behind its keyword.
abbrev pub NoHeader : Maybe (List Name) → Type 0
NoHeader none = Unit {0}
NoHeader (some []) = Unit {0}
NoHeader (some (w ∷ ws)) = NoWordAt is_name ws

-- Both answers.
abbrev pub FindsHeader : List ℕ → ℕ → Option Header → Type 0
FindsHeader bs n None = NoHeader (nth_decl n (tokens bs))
FindsHeader bs n (Some h) = HeaderAt bs n h

-- The first token behind a place stands at another place.
pub record TokenStands (bs : List ℕ) (start at : ℕ) : Type 0 where
  pub token : Name
  pub behind : List Name
  pub first : tokens (drop start bs) ≡ token ∷ behind
  pub place : tokens (drop at bs) ≡ token ∷ behind
  pub spelled : take (length token) (drop at bs) ≡ token

-- Where it stands; the place itself, where no token comes.
pub record TokenAt (bs : List ℕ) (start at : ℕ) : Type 0 where
  pub stands : ((tokens (drop start bs) ≡ []) × (at ≡ start)) ⊎ TokenStands bs start at
  pub within : at ≤ length bs
