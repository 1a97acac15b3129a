-- A text is at most one row of declarations; and where the reader finds none, the tokens are no declarations.
-- Both follow from the reader finding all that the grammar says.
use Rattle.std.proofs.Common.{◌≡◌, ℕ, suc, ◌<◌, List, length, sym, ◌∙◌, arith}
use mathlib.Core.Option.{none, some-injective}
use Rattle.syntax.specs.Surface.{Name, Decl}
use Rattle.syntax.specs.Tokens.{tokens}
use Rattle.syntax.specs.Grammar.{IsDecls, OneReading}
use Rattle.syntax.specs.Reader.{read_decls}
use Rattle.syntax.proofs.Gives.{no_some}
use Rattle.syntax.proofs.DeclsFull.{decls_full}

one_decls : (ts : List Name) (ds es : List Decl) → IsDecls ts ds → IsDecls ts es → ds ≡ es
one_decls ts ds es p q = some-injective ds es (sym (decls_full (suc (length ts)) ts ds p (omega arith)) ∙ decls_full (suc (length ts)) ts es q (omega arith))

pub one_reading : OneReading
one_reading t ds es p q = one_decls (tokens t) ds es p.said q.said

pub no_reading : (n : ℕ) (ts : List Name) (ds : List Decl) → length ts < n → read_decls n ts ≡ none → IsDecls ts ds → ⊥
no_reading n ts ds l e p = no_some (sym e ∙ decls_full n ts ds p l)
