-- A text that reads has a header for each of its declarations, with its name.
use Rattle.std.proofs.Common.{◌≡◌, ℕ, zero, suc, ◌-◌, ◌<◌, eqb, List, [], ◌∷◌, ◌++◌, length, sym, refl, ap, ◌∙◌, subst as tr, arith, length-append}
use mathlib.Core.Option.{some, none}
use mathlib.Core.Option.{Option as Maybe}
use Rattle.std.proofs.lemmas.Bool.{both_ways, cond-false, ne_eqb}
use Rattle.syntax.proofs.Headed.{headers_right}
use Rattle.syntax.specs.Surface.{Name, Decl}
use Rattle.syntax.specs.Tokens.{tokens}
use Rattle.syntax.specs.Grammar.{Reads}
use Rattle.syntax.specs.Headers.{nth_decl, decl_name, name_at, Declared, NoHeader, HeaderAt}
use Rattle.syntax.specs.declared.locate.Header.{Header}
use Rattle.judge.specs.Promise.{Standing}
use Rattle.checker.specs.Answers.{HasDecl}

-- There is an n-th name, if there are more than n declarations.
some_name : (ds : List Decl) (n : ℕ) → n < length ds → (x : Name) × (name_at ds n ≡ some x)
some_name [] n h = absurd (let z : ⊥ = omega arith in z)
some_name (d ∷ ds) zero h = (decl_name d, refl)
some_name (d ∷ ds) (suc n) h =
    let r = some_name ds n (omega arith) in
    (r.0, cond-false (eqb (suc n) 0) _ _ (ne_eqb (suc n) 0 (λ e. omega arith)) ∙ ap (name_at ds) (let z : suc n - 1 ≡ n = omega arith in z) ∙ r.1)

-- So there is a header, and it has that name.
not_none : (o : Maybe (List Name)) (x : Name) → Declared o (some x) → NoHeader o → ⊥
not_none none x p q = p
not_none (some []) x p q = p
not_none (some (w ∷ [])) x p q = p
not_none (some (w ∷ y ∷ ts)) x p q = both_ways _ q p.1

pub header_there : (bs : List ℕ) (n : ℕ) → HasDecl bs n → NoHeader (nth_decl n (tokens bs)) → ⊥
header_there bs n h q =
    let r = some_name h.0 n h.2 in
    not_none (nth_decl n (tokens bs)) r.0 (tr (Declared (nth_decl n (tokens bs))) r.1 (headers_right bs h.0 h.1 n)) q

same_name : (w y : Name) (ts : List Name) (m : Maybe Name) → Declared (some (w ∷ y ∷ ts)) m → m ≡ some y
same_name w y ts none p = absurd p
same_name w y ts (some x) p = ap some (sym p.0)

pub header_names : (bs : List ℕ) (n : ℕ) (h : Header) → HeaderAt bs n h → (ds : List Decl) → Reads bs ds → name_at ds n ≡ some h.name.now
header_names bs n h f ds r = same_name h.keyword.now h.name.now f.behind (name_at ds n) (tr (λ o. Declared o (name_at ds n)) f.nth (headers_right bs ds r n))

-- Behind n declarations that check there is one more.
pub has_standing : {t : List ℕ} {n : ℕ} {d : Decl} {gs : _} {e : _} → Standing t n d gs e → HasDecl t n
has_standing {d = d} s = (s.done ++ (d ∷ s.rest), s.reads, omega (arith, s.count, length-append s.done (d ∷ s.rest)))
