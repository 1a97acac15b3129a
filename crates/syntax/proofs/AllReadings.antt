-- What the reader of all declarations does, one declaration at a time; and what the words and names of all declarations are.
use Rattle.std.proofs.Common.{◌≡◌, ℕ, suc, ◌≤◌, max, true, false, List, [], ◌∷◌, ◌++◌, length, is_err, Ok, Err, Result, sym, refl, ap, ◌∙◌, arith}
use mathlib.Core.Option.{Option, some, none, some-injective}
use Rattle.std.proofs.lemmas.Bool.{false≢true}
use Rattle.syntax.specs.Surface.{Name, Decl, d_def, d_axiom, d_data, stage, decl_stage, names_of, decl_names}
use Rattle.syntax.specs.Tokens.{tokens}
use Rattle.syntax.specs.Tree.{put_name, put_expr, put_params, put_cons, put_decl, decls_words}
use Rattle.syntax.specs.Reader.{bind, read_decl, read_decls}
use Rattle.syntax.specs.Parsing.{FindsNone}
use Rattle.syntax.specs.Declaring.{read_all, decl_words, DeclaresAll}
use Rattle.syntax.specs.declared.problem.Stop.{Stop}
use Rattle.syntax.specs.declared.write.Writer.{Writer}
use Rattle.syntax.specs.declared.parse.Parsed.{Parsed}
use Rattle.std.specs.Prelude.{None, Some, is_some, Option as Option₁}
use Rattle.syntax.specs.declared.lexer.Cut.{Cut}
use Rattle.syntax.specs.Lexing.{Cuts, lexeme}
use Rattle.syntax.proofs.Gives.{then_is, no_some}
use Rattle.syntax.proofs.TermReadings.{then_not}
use Rattle.syntax.proofs.TreeWords.{expr_apart, name_apart}
use Rattle.syntax.proofs.DeclReadings.{params_then, cons_then}
use Rattle.syntax.proofs.Items.{prepend, all_words, all_names, all_level}

-- One declaration more, one that is not there, and the end.
tail : (d : Decl) (o : Option (List Decl)) → bind (bind o (λ ds. some (d ∷ ds))) (λ ds. some (ds, [])) ≡ prepend (d ∷ []) (bind o (λ ds. some (ds, [])))
tail d none = refl
tail d (some ds) = refl

pub all_next : (k : ℕ) (ts us ws : List Name) (w : Name) (d : Decl) → ts ≡ w ∷ ws → read_decl k ts ≡ some (d, us) → read_all (suc k) ts ≡ prepend (d ∷ []) (read_all k us)
all_next k ts us ws w d e p =
    ap (read_all (suc k)) e ∙ ap (λ o. bind o (λ ds. some (ds, []))) (then_is (read_decl k (w ∷ ws)) _ (sym (ap (read_decl k) e) ∙ p) refl) ∙ tail d (read_decls k us)

pub all_stop : (k : ℕ) (ts ws : List Name) (w : Name) → ts ≡ w ∷ ws → read_decl k ts ≡ none → read_all (suc k) ts ≡ none
all_stop k ts ws w e p = ap (read_all (suc k)) e ∙ ap (λ o. bind o (λ ds. some (ds, []))) (then_not (read_decl k (w ∷ ws)) _ (sym (ap (read_decl k) e) ∙ p))

pub all_end : (k : ℕ) (ts : List Name) → ts ≡ [] → read_all (suc k) ts ≡ some ([], [])
all_end k ts e = ap (read_all (suc k)) e

-- What the reader of all declarations finds is what the reader of declarations finds.
pub all_some : (n : ℕ) (ts : List Name) (ds : List Decl) → read_all n ts ≡ some (ds, []) → read_decls n ts ≡ some ds
all_some n ts ds e = go (read_decls n ts) e
  where
    go : (o : Option (List Decl)) → bind {C = List Decl × List Name} o (λ es. some (es, [])) ≡ some (ds, []) → o ≡ some ds
    go none p = no_some p
    go (some es) p = ap {B = Option (List Decl)} (λ q. some q.0) (some-injective (es, []) (ds, []) p)

pub all_none : (n : ℕ) (ts : List Name) → read_all n ts ≡ none → read_decls n ts ≡ none
all_none n ts e = go (read_decls n ts) e
  where
    go : (o : Option (List Decl)) → bind {C = List Decl × List Name} o (λ es. some (es, [])) ≡ none → o ≡ none
    go none p = refl
    go (some es) p = no_some (sym p)

pub all_fail : (bs : List ℕ) (before after before₂ after₂ : Writer) (r : Result Parsed Stop) → is_err r ≡ true → FindsNone read_decls (tokens bs) → DeclaresAll bs before after before₂ after₂ r
all_fail bs before after before₂ after₂ (Ok q) e d = absurd (false≢true e)
all_fail bs before after before₂ after₂ (Err s) e d = d

-- A declaration has some word.
pub decl_some : (d : Decl) → 1 ≤ length (decl_words d)
decl_some (d_def x h a b) = omega arith
decl_some (d_axiom x h a) = omega arith
decl_some (d_data x h ps l cs) = omega arith

-- The words, names and stage of all declarations.
decl_then : (d : Decl) (s : List ℕ) → decl_words d ++ s ≡ put_decl d s
decl_then (d_def x h a b) s =
    ap (λ (z : List ℕ). 13 ∷ z) (sym (name_apart x _ s) ∙ ap (λ (z : List ℕ). put_name x (h ∷ z)) (sym (expr_apart a (put_expr b []) s) ∙ ap (put_expr a) (sym (expr_apart b [] s))))
decl_then (d_axiom x h a) s = ap (λ (z : List ℕ). 14 ∷ z) (sym (name_apart x _ s) ∙ ap (λ (z : List ℕ). put_name x (h ∷ z)) (sym (expr_apart a [] s)))
decl_then (d_data x h ps l cs) s =
    ap (λ (z : List ℕ). 15 ∷ z) (sym (name_apart x _ s) ∙ ap (λ (z : List ℕ). put_name x (h ∷ z)) (sym (params_then ps (l ∷ put_cons cs []) s) ∙ ap (λ (z : List ℕ). put_params ps (l ∷ z)) (sym (cons_then cs [] s))))

pub decls_apart : (ds : List Decl) → all_words decl_words ds ≡ decls_words ds
decls_apart [] = refl
decls_apart (d ∷ ds) = decl_then d (all_words decl_words ds) ∙ ap (put_decl d) (decls_apart ds)

pub decls_level : (ds : List Decl) → all_level decl_stage ds ≡ stage ds
decls_level [] = refl
decls_level (d ∷ ds) = ap (max (decl_stage d)) (decls_level ds)

pub decls_named : (ds : List Decl) → all_names decl_names ds ≡ names_of ds
decls_named [] = refl
decls_named (d ∷ ds) = ap (λ (r : List Name). decl_names d ++ r) (decls_named ds)

-- Whether a token comes.
pub cuts_some : (bs : List ℕ) (r : Option₁ Cut) → true ≡ is_some r → Cuts bs r → (w : Name) × (ws : List Name) × (tokens bs ≡ w ∷ ws)
cuts_some bs None e d = absurd (false≢true (sym e))
cuts_some bs (Some c) e d = (lexeme c.token, tokens c.rest.now, d.first)

pub cuts_none : (bs : List ℕ) (r : Option₁ Cut) → false ≡ is_some r → Cuts bs r → tokens bs ≡ []
cuts_none bs None e d = d
cuts_none bs (Some c) e d = absurd (false≢true e)
