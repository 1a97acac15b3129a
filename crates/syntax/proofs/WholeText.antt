-- From the reader of declarations to the text: what it finds within the limits is the text's reading, and where it finds nothing,
-- or a limit does not hold, there is none.
use Rattle.std.proofs.Common.{◌≡◌, ℕ, suc, ◌<◌, ◌≤◌, Bool, true, false, ◌&&◌, T, leb, List, length, is_err, Ok, Err, Result, sym, ap, ◌∙◌, subst as tr, arith}
use mathlib.Core.Option.{some}
use Rattle.std.proofs.lemmas.Bool.{false≢true, le-leb, lt-leb, and_from, and_left, and_right}
use Rattle.syntax.specs.Surface.{Decl, names_of, once}
use Rattle.syntax.specs.Tokens.{tokens}
use Rattle.syntax.specs.Grammar.{shallow, Reads}
use Rattle.syntax.specs.Reader.{read_decls}
use Rattle.syntax.specs.Parsing.{FindsNone}
use Rattle.syntax.specs.Declaring.{Parses}
use Rattle.syntax.specs.declared.problem.Stop.{Stop}
use Rattle.syntax.specs.declared.parse.Parsed.{Parsed}
use Rattle.syntax.proofs.ReaderSound.{decls_sound}
use Rattle.syntax.proofs.DeclsFull.{decls_full}
use Rattle.syntax.proofs.OneReading.{no_reading}

from_true : (b : Bool) → b ≡ true → T b
from_true b p = tr T (sym p) tt

no_T : (b : Bool) → b ≡ false → T b → ⊥
no_T b p t = tr T p t

-- A reading.
pub text_reads : (t : List ℕ) (ds : List Decl) → length t ≤ 32768 → shallow 0 (tokens t) ≡ true → read_decls (suc (length (tokens t))) (tokens t) ≡ some ds → once (names_of ds) ≡ true → Reads t ds
text_reads t ds l s e o =
    record {
      said = decls_sound (suc (length (tokens t))) (tokens t) ds e;
      small = from_true (leb (length t) 32768 && shallow 0 (tokens t)) (and_from _ _ (le-leb (length t) 32768 l) s);
      distinct = from_true _ o;
    }

-- No reading: too long, too deep, nothing that the tokens say, a name declared twice.
pub too_long : (t : List ℕ) → 32768 < length t → (ds : List Decl) → Reads t ds → ⊥
too_long t l ds r = no_T _ (and_left _ _ (lt-leb (length t) 32768 l)) r.small

pub too_deep : (t : List ℕ) → shallow 0 (tokens t) ≡ false → (ds : List Decl) → Reads t ds → ⊥
too_deep t s ds r = no_T _ (and_right (leb (length t) 32768) _ s) r.small

pub none_said : (t : List ℕ) → FindsNone read_decls (tokens t) → (ds : List Decl) → Reads t ds → ⊥
none_said t d ds r = no_reading (suc (length (tokens t))) (tokens t) ds (omega arith) (d (suc (length (tokens t))) (omega arith)) r.said

pub declared_twice : (t : List ℕ) (es : List Decl) → read_decls (suc (length (tokens t))) (tokens t) ≡ some es → once (names_of es) ≡ false → (ds : List Decl) → Reads t ds → ⊥
declared_twice t es e o ds r = no_T (once (names_of ds)) (ap (λ xs. once (names_of xs)) (same_list (sym (decls_full (suc (length (tokens t))) (tokens t) ds r.said (omega arith)) ∙ e)) ∙ o) r.distinct
  where
    same_list : some ds ≡ some es → ds ≡ es
    same_list p = cc

pub parse_fail : (t after : List ℕ) (r : Result Parsed Stop) → is_err r ≡ true → ((ds : List Decl) → Reads t ds → ⊥) → Parses t after r
parse_fail t after (Ok p) e d = absurd (false≢true e)
parse_fail t after (Err s) e d = d
