-- How the tokens of bytes begin: blanks and comments bring none, a word goes on to the first byte that is no letter,
-- and a sign or another byte is a token by itself.
use Rattle.std.proofs.Common.{◌≡◌, ℕ, suc, ◌+◌, ◌<◌, ◌≤◌, Bool, true, false, cond, not, ◌&&◌, ◌||◌, eqb, List, [], ◌∷◌, ◌++◌, length, get_or, take, drop, sym, refl, ap, ap₂, ◌∙◌, append_assoc, append-nil, eqb→eq, arith, length-take, drop_of_length-le, drop-cons}
use Rattle.std.proofs.lemmas.List.{drop-drop}
use Rattle.std.proofs.lemmas.List.Sums.{take_while-cons}
use Rattle.std.specs.List.{take_while}
use Rattle.std.proofs.lemmas.Bool.{ne_eqb, cond-false}
use Rattle.syntax.specs.Grammar.{letters}
use Rattle.syntax.specs.Lexing.{Solid, NoLetter}
use Rattle.syntax.specs.Surface.{Name}
use Rattle.syntax.specs.Tokens.{Mode, between, Turn, word, comment, letter, blank, begins, joins, fresh, tokens, tokens_from}

-- The elements from the front on that pass a test.
abbrev cut : (ℕ → Bool) → List ℕ → List ℕ
cut p [] = []
cut p (c ∷ cs) = cond (p c) (c ∷ cut p cs) []

cut_is : (p : ℕ → Bool) (cs : List ℕ) → take_while p cs ≡ cut p cs
cut_is p [] = refl
cut_is p (c ∷ cs) = take_while-cons p c cs ∙ ap (λ (r : List ℕ). cond (p c) (c ∷ r) []) (cut_is p cs)

-- A comment goes on to the end of the line.
comment_line : (cs : List ℕ) → tokens_from comment cs ≡ tokens (drop (length (cut (λ b. not (eqb b 10)) cs)) cs)
comment_line [] = refl
comment_line (c ∷ cs) = go (eqb c 10) refl (comment_line cs)
  where
    go : (x : Bool) → eqb c 10 ≡ x → tokens_from comment cs ≡ tokens (drop (length (cut (λ b. not (eqb b 10)) cs)) cs)
        → tokens_from comment (c ∷ cs) ≡ tokens (drop (length (cut (λ b. not (eqb b 10)) (c ∷ cs))) (c ∷ cs))
    go true q i = rw (eqb→eq c 10 (rw q tt)) refl
    go false q i = rw q i

-- A comment or a blank at byte n is skipped.
hash_first : (ds cs : List ℕ) (c k : ℕ) → ds ≡ c ∷ cs → c ≡ 35 → k ≡ length (cut (λ b. not (eqb b 10)) ds) → tokens ds ≡ tokens (drop k ds)
hash_first ds cs c k d x e = rw (e, d, x) (comment_line cs)

pub hash_at : (bs : List ℕ) (n k : ℕ) → n < length bs → get_or bs n 0 ≡ 35 → k ≡ length (take_while (λ b. not (eqb b 10)) (drop n bs)) → tokens (drop n bs) ≡ tokens (drop (n + k) bs)
hash_at bs n k h x e = hash_first (drop n bs) _ (get_or bs n 0) k (drop-cons bs n 0 h) x (e ∙ ap length (cut_is _ (drop n bs))) ∙ ap tokens (drop-drop k n bs)

pub blank_at : (bs : List ℕ) (n : ℕ) → n < length bs → blank (get_or bs n 0) ≡ true → tokens (drop n bs) ≡ tokens (drop (n + 1) bs)
blank_at bs n h x = ap tokens (drop-cons bs n 0 h) ∙ skip_blank (get_or bs n 0) _ x ∙ ap (λ (k : ℕ). tokens (drop k bs)) (let z : suc n ≡ n + 1 = omega arith in z)
  where
    skip_blank : (c : ℕ) (cs : List ℕ) → blank c ≡ true → tokens (c ∷ cs) ≡ tokens cs
    skip_blank c cs p = rw p refl

-- The same of what was cut before, in a comment or between tokens.
abbrev pub skipping : Bool → Mode
skipping true = comment
skipping false = between

pub skip_on_blank : (b b' : Bool) (bs : List ℕ) (n : ℕ) → n < length bs → tokens bs ≡ tokens_from (skipping b) (drop n bs)
    → b ≡ false → b' ≡ b → blank (get_or bs n 0) ≡ true → tokens bs ≡ tokens_from (skipping b') (drop (n + 1) bs)
skip_on_blank b b' bs n h p q r x =
    p ∙ ap (λ (y : Bool). tokens_from (skipping y) (drop n bs)) q ∙ blank_at bs n h x ∙ ap (λ (y : Bool). tokens_from (skipping y) (drop (n + 1) bs)) (sym (r ∙ q))

-- Skipping is over at the end, and at a byte that is neither blank nor #.
pub skip_stop : (bs : List ℕ) (n : ℕ) → n < length bs → blank (get_or bs n 0) ≡ false → (get_or bs n 0 ≡ 35 → ⊥) → Solid (drop n bs)
skip_stop bs n h b x = rw (drop-cons bs n 0 h) (b, ne_eqb _ _ x)

pub skip_all : (bs : List ℕ) (n : ℕ) → length bs ≤ n → Solid (drop n bs)
skip_all bs n h = rw (drop_of_length-le bs h) tt

-- A byte where no token is open: what it brings does not depend on the token that has just ended.
fresh-behind : (w : Name) (c : ℕ) (cs : List ℕ) → (fresh (w ∷ []) c).out ++ tokens_from (fresh (w ∷ []) c).mode cs ≡ w ∷ tokens (c ∷ cs)
fresh-behind w c cs = go (blank c) (eqb c 35) (letter c && not (eqb c 95)) (begins c) refl refl refl refl
  where
    go : (x₁ x₂ x₃ x₄ : Bool) → blank c ≡ x₁ → eqb c 35 ≡ x₂ → (letter c && not (eqb c 95)) ≡ x₃ → begins c ≡ x₄
        → (fresh (w ∷ []) c).out ++ tokens_from (fresh (w ∷ []) c).mode cs ≡ w ∷ tokens (c ∷ cs)
    go true x₂ x₃ x₄ p₁ p₂ p₃ p₄ = rw p₁ refl
    go false true x₃ x₄ p₁ p₂ p₃ p₄ = rw (p₁, p₂) refl
    go false false true x₄ p₁ p₂ p₃ p₄ = rw (p₁, p₂, p₃) refl
    go false false false true p₁ p₂ p₃ p₄ = rw (p₁, p₂, p₃, p₄) refl
    go false false false false p₁ p₂ p₃ p₄ = rw (p₁, p₂, p₃, p₄) refl

-- A letter goes into the word.
pub word_letter : (w : Name) (c : ℕ) (cs : List ℕ) → letter c ≡ true → tokens_from (word w) (c ∷ cs) ≡ tokens_from (word (w ++ (c ∷ []))) cs
word_letter w c cs p = rw p refl

-- Any other byte ends it.
pub word_ends : (w : Name) (c : ℕ) (cs : List ℕ) → letter c ≡ false → tokens_from (word w) (c ∷ cs) ≡ w ∷ tokens (c ∷ cs)
word_ends w c cs p = ap (λ (t : Turn). t.out ++ tokens_from t.mode cs) (cond-false (letter c) _ _ p) ∙ fresh-behind w c cs

-- A word goes on to the first byte that is no letter.
word_cut : (w cs : List ℕ) → tokens_from (word w) cs ≡ (w ++ cut letter cs) ∷ tokens (drop (length (cut letter cs)) cs)
word_cut w [] = ap (λ (x : Name). x ∷ []) (sym (append-nil w))
word_cut w (c ∷ cs) = go (letter c) refl (word_cut (w ++ (c ∷ [])) cs)
  where
    go : (x : Bool) → letter c ≡ x
        → tokens_from (word (w ++ (c ∷ []))) cs ≡ ((w ++ (c ∷ [])) ++ cut letter cs) ∷ tokens (drop (length (cut letter cs)) cs)
        → tokens_from (word w) (c ∷ cs) ≡ (w ++ cut letter (c ∷ cs)) ∷ tokens (drop (length (cut letter (c ∷ cs))) (c ∷ cs))
    go true q i =
        word_letter w c cs q ∙ i
        ∙ ap (λ (x : Name). x ∷ tokens (drop (length (cut letter cs)) cs)) (append_assoc w (c ∷ []) _)
        ∙ (rw q refl)
    go false q i = word_ends w c cs q ∙ ap₂ (λ (x : Name) (n : ℕ). x ∷ tokens (drop n (c ∷ cs))) (sym (append-nil w) ∙ ap (λ (r : List ℕ). w ++ r) (sym none)) (ap length (sym none))
      where
        none : cut letter (c ∷ cs) ≡ []
        none = rw q refl

take_cut : (p : ℕ → Bool) (cs : List ℕ) → take (length (cut p cs)) cs ≡ cut p cs
take_cut p [] = refl
take_cut p (c ∷ cs) = go (p c) refl (take_cut p cs)
  where
    go : (x : Bool) → p c ≡ x → take (length (cut p cs)) cs ≡ cut p cs → take (length (cut p (c ∷ cs))) (c ∷ cs) ≡ cut p (c ∷ cs)
    go true q i = rw q (ap (λ (r : List ℕ). c ∷ r) i)
    go false q i = rw q refl

cut_letters : (cs : List ℕ) → letters (cut letter cs) ≡ true
cut_letters [] = refl
cut_letters (c ∷ cs) = go (letter c) refl (cut_letters cs)
  where
    go : (x : Bool) → letter c ≡ x → letters (cut letter cs) ≡ true → letters (cut letter (c ∷ cs)) ≡ true
    go true q i = rw q (rw q i)
    go false q i = rw q refl

pub cut_some : (p : ℕ → Bool) (cs : List ℕ) → p (get_or cs 0 0) ≡ true → 0 < length cs → 0 < length (take_while p cs)
cut_some p [] q h = absurd (let z : ⊥ = omega arith in z)
cut_some p (c ∷ cs) q h = rw (cut_is p (c ∷ cs), q) (omega arith)

pub cut_within : (p : ℕ → Bool) (cs : List ℕ) → length (take_while p cs) ≤ length cs
cut_within p cs = omega (arith, ap length (cut_is p cs), ap length (take_cut p cs), length-take (length (cut p cs)) cs)

-- The word at the front, by how many bytes it has.
pub word_front : (cs : List ℕ) (n : ℕ) → n ≡ length (take_while letter cs) → tokens_from (word []) cs ≡ take n cs ∷ tokens (drop n cs)
word_front cs n e = word_cut [] cs ∙ rw (e ∙ ap length (cut_is letter cs)) (ap (λ (x : Name). x ∷ tokens (drop (length (cut letter cs)) cs)) (sym (take_cut letter cs)))

pub word_letters : (cs : List ℕ) (n : ℕ) → n ≡ length (take_while letter cs) → letters (take n cs) ≡ true
word_letters cs n e = ap (λ (k : ℕ). letters (take k cs)) (e ∙ ap length (cut_is letter cs)) ∙ ap letters (take_cut letter cs) ∙ cut_letters cs

-- A word begins.
pub word_begins : (c : ℕ) (cs : List ℕ) → Solid (c ∷ cs) → letter c ≡ true → (c ≡ 95 → ⊥) → tokens (c ∷ cs) ≡ tokens_from (word []) (c ∷ cs)
word_begins c cs s l u = rw (s.0, s.1, l, ne_eqb _ _ u) refl

-- Two bytes that make a sign: the first may begin one.
joins-begins : (x₁ x₂ x₃ y₁ y₂ y₃ : Bool) → ((x₁ && y₁) || ((x₂ && y₂) || (x₃ && y₃))) ≡ true → (x₁ || (x₂ || x₃)) ≡ true
joins-begins true x₂ x₃ y₁ y₂ y₃ p = refl
joins-begins false true x₃ y₁ y₂ y₃ p = refl
joins-begins false false true y₁ y₂ y₃ p = refl
joins-begins false false false y₁ y₂ y₃ p = p

-- A byte that begins no word is a sign with the byte behind it, or a token by itself.
pub sign_two : (c d : ℕ) (cs : List ℕ) → Solid (c ∷ d ∷ cs) → (letter c && not (eqb c 95)) ≡ false → joins c d ≡ true
    → tokens (c ∷ d ∷ cs) ≡ (c ∷ d ∷ []) ∷ tokens cs
sign_two c d cs s l j = rw (s.0, s.1, l, joins-begins (eqb c 58) (eqb c 61) (eqb c 45) (eqb d 61) (eqb d 62) (eqb d 62) j, j) refl

pub sign_one : (c d : ℕ) (cs : List ℕ) → Solid (c ∷ d ∷ cs) → (letter c && not (eqb c 95)) ≡ false → joins c d ≡ false
    → tokens (c ∷ d ∷ cs) ≡ (c ∷ []) ∷ tokens (d ∷ cs)
sign_one c d cs s l j = go (begins c) refl
  where
    go : (b : Bool) → begins c ≡ b → tokens (c ∷ d ∷ cs) ≡ (c ∷ []) ∷ tokens (d ∷ cs)
    go true q = rw (s.0, s.1, l, q) (ap (λ (t : Turn). t.out ++ tokens_from t.mode cs) (cond-false (joins c d) _ _ j) ∙ fresh-behind (c ∷ []) d cs)
    go false q = rw (s.0, s.1, l, q) refl

pub sign_last : (c : ℕ) → Solid (c ∷ []) → (letter c && not (eqb c 95)) ≡ false → tokens (c ∷ []) ≡ (c ∷ []) ∷ []
sign_last c s l = go (begins c) refl
  where
    go : (b : Bool) → begins c ≡ b → tokens (c ∷ []) ≡ (c ∷ []) ∷ []
    go true q = rw (s.0, s.1, l, q) refl
    go false q = rw (s.0, s.1, l, q) refl

-- The same by places: the sign or the symbol at the front, and the word.
pub sign_at : (bs : List ℕ) → 1 < length bs → Solid bs → NoLetter (get_or bs 0 0) → joins (get_or bs 0 0) (get_or bs 1 0) ≡ true
    → tokens bs ≡ (get_or bs 0 0 ∷ get_or bs 1 0 ∷ []) ∷ tokens (drop 2 bs)
sign_at [] h s l j = absurd (let z : ⊥ = omega arith in z)
sign_at (c ∷ []) h s l j = absurd (let z : ⊥ = omega arith in z)
sign_at (c ∷ d ∷ cs) h s l j = sign_two c d cs s l j

pub symbol_at : (bs : List ℕ) → 0 < length bs → Solid bs → NoLetter (get_or bs 0 0) → (1 < length bs → joins (get_or bs 0 0) (get_or bs 1 0) ≡ false)
    → tokens bs ≡ (get_or bs 0 0 ∷ []) ∷ tokens (drop 1 bs)
symbol_at [] h s l j = absurd (let z : ⊥ = omega arith in z)
symbol_at (c ∷ []) h s l j = sign_last c s l
symbol_at (c ∷ d ∷ cs) h s l j = sign_one c d cs s l (j (omega arith))

pub word_at : (bs : List ℕ) → 0 < length bs → Solid bs → letter (get_or bs 0 0) ≡ true → (get_or bs 0 0 ≡ 95 → ⊥) → tokens bs ≡ tokens_from (word []) bs
word_at [] h s l u = absurd (let z : ⊥ = omega arith in z)
word_at (c ∷ cs) h s l u = word_begins c cs s l u

-- The bytes from the first one or two on.
pub one_first : (bs : List ℕ) → 0 < length bs → bs ≡ get_or bs 0 0 ∷ drop 1 bs
one_first [] h = absurd (let z : ⊥ = omega arith in z)
one_first (c ∷ cs) h = refl

pub two_first : (bs : List ℕ) → 1 < length bs → bs ≡ get_or bs 0 0 ∷ get_or bs 1 0 ∷ drop 2 bs
two_first [] h = absurd (let z : ⊥ = omega arith in z)
two_first (c ∷ []) h = absurd (let z : ⊥ = omega arith in z)
two_first (c ∷ d ∷ cs) h = refl
