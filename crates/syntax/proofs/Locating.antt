-- Places in a text: the line of the place one byte further, and what stands where a declaration begins.
use Rattle.std.proofs.Common.{◌≡◌, ℕ, ◌+◌, ◌-◌, ◌<◌, ◌≤◌, true, false, cond, eqb, List, [], ◌∷◌, ◌++◌, length, take, drop, sym, refl, ap, ◌∙◌, inl, inr, append_assoc, arith, length-append, take-append-drop, Bor}
use mathlib.Core.Option.{some}
use lib.Seq.{take-append_seam, drop-append_seam}
use Rattle.std.specs.List.{count_by}
use Rattle.std.proofs.lemmas.List.Sums.{sum_by-cons}
use Rattle.std.proofs.lemmas.Bool.{eq-eqb, ne_eqb, cond-true, cond-false}
use Rattle.syntax.specs.Surface.{Name, same}
use Rattle.syntax.specs.Tokens.{tokens}
use Rattle.syntax.specs.Grammar.{is_name, k_def, k_theorem, k_axiom}
use Rattle.syntax.specs.Lines.{line_ends}
use Rattle.syntax.specs.Lexing.{lexeme, CutsOne, WordAt}
use Rattle.syntax.specs.Headers.{begins_decl, nth_decl, HeaderAt, TokenAt}
use Rattle.syntax.specs.declared.lexer.Cut.{Cut}
use Rattle.syntax.specs.declared.scan.Word.{Word as WordRest}
use Rattle.syntax.specs.declared.lexer.Token.{Token}
use Rattle.syntax.specs.declared.lexer.Token.TheVariants.{Word, Becomes, Maps, Arrow, Symbol}
use Rattle.syntax.proofs.Scanning.{same_lengths}

-- How many lines end in the bytes.
pub line_ends_count : (xs : List ℕ) → count_by (λ b. eqb b 10) xs ≡ line_ends xs
line_ends_count [] = refl
line_ends_count (x ∷ xs) = sum_by-cons (λ b. cond (eqb b 10) 1 0) x xs ∙ ap (λ (n : ℕ). cond (eqb x 10) 1 0 + n) (line_ends_count xs)

-- A token that is no word begins no declaration.
one_byte : (b : ℕ) → begins_decl (b ∷ []) ≡ false
one_byte b = rw (short k_def (omega arith), short k_theorem (omega arith), short k_axiom (omega arith)) refl
  where
    short : (k : Name) → 1 < length k → same (b ∷ []) k ≡ false
    short k h = same_lengths (b ∷ []) k (λ e. omega arith)

pub sign_begins-none : (t : Token) → ((w : Bor (List ℕ)) → t ≡ Word w → ⊥) → begins_decl (lexeme t) ≡ false
sign_begins-none (Word w) h = absurd (h w refl)
sign_begins-none Becomes h = refl
sign_begins-none Maps h = refl
sign_begins-none Arrow h = refl
sign_begins-none (Symbol b) h = one_byte b

-- The first token is passed over, counted, or the one that was looked for.
nth_past : (n : ℕ) (w : Name) (ws : List Name) → begins_decl w ≡ false → nth_decl n (w ∷ ws) ≡ nth_decl n ws
nth_past n w ws p = cond-false (begins_decl w) _ _ p

nth_counted : (n : ℕ) (w : Name) (ws : List Name) → begins_decl w ≡ true → (n ≡ 0 → ⊥) → nth_decl n (w ∷ ws) ≡ nth_decl (n - 1) ws
nth_counted n w ws p q = cond-true (begins_decl w) _ _ p ∙ cond-false (eqb n 0) _ _ (ne_eqb _ _ q)

nth_here : (n : ℕ) (w : Name) (ws : List Name) → begins_decl w ≡ true → n ≡ 0 → nth_decl n (w ∷ ws) ≡ some (w ∷ ws)
nth_here n w ws p q = cond-true (begins_decl w) _ _ p ∙ cond-true (eqb n 0) _ _ (eq-eqb _ _ q)

-- What stands behind a front, found by its length.
back_length : (bs front w r : List ℕ) → bs ≡ front ++ (w ++ r) → length front + (length w + length r) ≡ length bs
back_length bs front w r p = sym (ap length p ∙ length-append front (w ++ r) ∙ ap (λ (n : ℕ). length front + n) (length-append w r))

back_at : (bs front w r : List ℕ) → bs ≡ front ++ (w ++ r) → drop (length bs - length w - length r) bs ≡ w ++ r
back_at bs front w r p =
    ap (λ (n : ℕ). drop n bs) (let z : length bs - length w - length r ≡ length front = omega (arith, back_length bs front w r p) in z)
    ∙ ap (drop (length front)) p ∙ drop-append_seam front (w ++ r)

-- Bytes of which a front is cut off, and then a token.
token_place : (bs old front : List ℕ) (t : Cut) → bs ≡ front ++ old → (f : CutsOne old t) → bs ≡ (front ++ f.front) ++ (lexeme t.token ++ t.rest.now)
token_place bs old front t p f = p ∙ ap (λ (x : List ℕ). front ++ x) f.place ∙ sym (append_assoc front f.front _)

-- Looking for the n-th declaration goes on behind a token, which is passed over or counted.
go_on : (bs old front : List ℕ) (n left m : ℕ) (t : Cut) → nth_decl n (tokens bs) ≡ nth_decl left (tokens old) → bs ≡ front ++ old → CutsOne old t
    → nth_decl left (lexeme t.token ∷ tokens t.rest.now) ≡ nth_decl m (tokens t.rest.now)
    → (nth_decl n (tokens bs) ≡ nth_decl m (tokens t.rest.now)) × ((x : List ℕ) × (bs ≡ x ++ t.rest.now))
go_on bs old front n left m t p e f q =
    (p ∙ ap (nth_decl left) f.first ∙ q, ((front ++ f.front) ++ lexeme t.token, token_place bs old front t e f ∙ sym (append_assoc (front ++ f.front) _ _)))

pub go_past : (bs old front : List ℕ) (n left : ℕ) (t : Cut) → nth_decl n (tokens bs) ≡ nth_decl left (tokens old) → bs ≡ front ++ old → CutsOne old t
    → begins_decl (lexeme t.token) ≡ false
    → (nth_decl n (tokens bs) ≡ nth_decl left (tokens t.rest.now)) × ((x : List ℕ) × (bs ≡ x ++ t.rest.now))
go_past bs old front n left t p e f q = go_on bs old front n left left t p e f (nth_past left (lexeme t.token) (tokens t.rest.now) q)

pub go_counted : (bs old front : List ℕ) (n left : ℕ) (t : Cut) → nth_decl n (tokens bs) ≡ nth_decl left (tokens old) → bs ≡ front ++ old → CutsOne old t
    → begins_decl (lexeme t.token) ≡ true → (left ≡ 0 → ⊥)
    → (nth_decl n (tokens bs) ≡ nth_decl (left - 1) (tokens t.rest.now)) × ((x : List ℕ) × (bs ≡ x ++ t.rest.now))
go_counted bs old front n left t p e f q z = go_on bs old front n left (left - 1) t p e f (nth_counted left (lexeme t.token) (tokens t.rest.now) q z)

-- The word at hand begins the declaration that was looked for: bytes are left for it, and this is its header.
pub word_fits : (bs old front : List ℕ) (t : Cut) (k : Bor (List ℕ)) → bs ≡ front ++ old → CutsOne old t → t.token ≡ Word k
    → length k.now + length t.rest.now ≤ length bs
word_fits bs old front t k e f w = omega (arith, ap (λ (x : Token). length (lexeme x)) w, back_length bs (front ++ f.front) (lexeme t.token) t.rest.now (token_place bs old front t e f))

pub header_found : (bs old front : List ℕ) (n left : ℕ) (t : Cut) (k : Bor (List ℕ)) (x : WordRest)
    → nth_decl n (tokens bs) ≡ nth_decl left (tokens old) → bs ≡ front ++ old → CutsOne old t → t.token ≡ Word k → begins_decl k.now ≡ true → left ≡ 0
    → WordAt is_name t.rest.now x
    → HeaderAt bs n (record { keyword = k; name = x.name; at = length bs - length k.now - length t.rest.now })
header_found bs old front n left t k x p e f w b z v =
    let s : lexeme t.token ≡ k.now = ap lexeme w in
    let first : tokens old ≡ k.now ∷ tokens t.rest.now = f.first ∙ ap (λ (y : Name). y ∷ tokens t.rest.now) s in
    let more : k.now ∷ tokens t.rest.now ≡ k.now ∷ x.name.now ∷ tokens x.rest.now = ap (λ (ts : List Name). k.now ∷ ts) v.first in
    let there : drop (length bs - length k.now - length t.rest.now) bs ≡ k.now ++ t.rest.now =
    back_at bs (front ++ f.front) k.now t.rest.now (token_place bs old front t e f ∙ ap (λ (y : Name). (front ++ f.front) ++ (y ++ t.rest.now)) s) in
    record {
      behind = tokens x.rest.now;
      nth = p ∙ ap (nth_decl left) first ∙ nth_here left k.now (tokens t.rest.now) b z ∙ ap some more;
      place = ap tokens there ∙ ap (λ (y : Name). tokens (y ++ t.rest.now)) (sym s) ∙ f.begins ∙ first ∙ more;
      spelled = ap (take (length k.now)) there ∙ take-append_seam k.now t.rest.now;
      begins = b;
      named = v.passes;
      within = omega arith;
    }

-- The first token behind a place: there is none, or this is where it stands.
pub no_token : (bs old : List ℕ) (start : ℕ) → start ≤ length bs → old ≡ drop start bs → tokens old ≡ [] → TokenAt bs start start
no_token bs old start h e p = record { stands = inl (ap tokens (sym e) ∙ p, refl); within = h }

pub token_found : (bs old : List ℕ) (start n : ℕ) (t : Cut) → old ≡ drop start bs → CutsOne old t → n ≡ length (lexeme t.token)
    → TokenAt bs start (length bs - n - length t.rest.now)
token_found bs old start n t e f z =
    let w = lexeme t.token in
    let r = t.rest.now in
    let there : drop (length bs - n - length r) bs ≡ w ++ r =
    ap (λ (k : ℕ). drop (length bs - k - length r) bs) z
    ∙ back_at bs (take start bs ++ f.front) w r (token_place bs old (take start bs) t (sym (take-append-drop start bs) ∙ ap (λ (x : List ℕ). take start bs ++ x) (sym e)) f) in
    record {
      stands = inr (record {
        token = w;
        behind = tokens r;
        first = ap tokens (sym e) ∙ f.first;
        place = ap tokens there ∙ f.begins ∙ f.first;
        spelled = ap (take (length w)) there ∙ take-append_seam w r;
      });
      within = omega arith;
    }
