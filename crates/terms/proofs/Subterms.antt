-- Parts of terms at places, terms in parts of the words, and the bounds that lifting and substituting ask for.
use Rattle.std.proofs.Common.{◌≡◌, ℕ, suc, ◌+◌, ◌*◌, ◌≤◌, List, ◌++◌, length, drop, sym, ap, ◌∙◌, arith}
use lib.Seq.{drop-append-add}
use Rattle.std.proofs.lemmas.List.{take-append-le, drop-append-le}
use Rattle.theory.specs.Terms.{Term, var, const, sort, pi, lam, app, size, subst}
use Rattle.theory.proofs.Closed.{Scoped}
use Rattle.terms.specs.declared.sign.Sign.{Sign}
use Rattle.terms.specs.Words.{put, puts, At, Holds, HoldsSmall, root, parts}
use Rattle.terms.proofs.Nodes.{build, build_is, put_append, scoped_small, size-parts}
use Rattle.terms.proofs.Places.{at_same, at_behind, at_length, at_three}

-- A term by its root: at a sign that was read, the term is built of it.
pub of_root : (t : Term) (s : Sign) → s ≡ root t → t ≡ build s (parts t)
of_root t s e = sym (build_is t) ∙ ap (λ (z : Sign). build z (parts t)) (sym e)

-- The parts of a term stand behind its root, one behind the other.
pub at_next : (ws : List ℕ) (p : ℕ) (t u : Term) (rest : List ℕ) → At ws p t (put u rest) → At ws (p + 3 * size t) u rest
at_next ws p t u rest a = record { stands = at_behind ws p t (put u rest) a }

pub at_row : (ws : List ℕ) (p : ℕ) (t : Term) (rest : List ℕ) → At ws p t rest → drop (p + 3) ws ≡ puts (parts t) rest
at_row ws p t rest a = (at_three ws p t rest a).behind

pub at_pi_domain : (ws : List ℕ) (p : ℕ) (a b : Term) (rest : List ℕ) → At ws p (pi a b) rest → At ws (p + 3) a (put b rest)
at_pi_domain ws p a b rest h = record { stands = at_row ws p (pi a b) rest h }

pub at_lam_domain : (ws : List ℕ) (p : ℕ) (a b : Term) (rest : List ℕ) → At ws p (lam a b) rest → At ws (p + 3) a (put b rest)
at_lam_domain ws p a b rest h = record { stands = at_row ws p (lam a b) rest h }

pub at_function : (ws : List ℕ) (p : ℕ) (f a : Term) (rest : List ℕ) → At ws p (app f a) rest → At ws (p + 3) f (put a rest)
at_function ws p f a rest h = record { stands = at_row ws p (app f a) rest h }

-- Words cut in two: a term within the first part, a term in the second.
pub at_front : (xs ys : List ℕ) (p : ℕ) (t : Term) (rest : List ℕ) → p + 3 * size t ≤ length xs → At (xs ++ ys) p t rest → At xs p t (drop (p + 3 * size t) xs)
at_front xs ys p t rest h a = at_same (xs ++ ys) xs p t rest (take-append-le (p + 3 * size t) xs ys h) a

pub at_back : (xs ys : List ℕ) (p : ℕ) (t : Term) (rest : List ℕ) → At (xs ++ ys) (length xs + p) t rest → At ys p t rest
at_back xs ys p t rest a = record { stands = sym (drop-append-add xs ys p) ∙ a.stands }

pub front_at : (xs ys : List ℕ) (p : ℕ) (t : Term) (rest : List ℕ) → At xs p t rest → At (xs ++ ys) p t (rest ++ ys)
front_at xs ys p t rest a = record { stands = drop-append-le p xs ys (omega (arith, at_length xs p t rest a)) ∙ ap (λ (z : List ℕ). z ++ ys) a.stands ∙ sym (put_append t rest ys) }

pub back_at : (xs ys : List ℕ) (p : ℕ) (t : Term) (rest : List ℕ) → At ys p t rest → At (xs ++ ys) (length xs + p) t rest
back_at xs ys p t rest a = record { stands = drop-append-add xs ys p ∙ a.stands }

-- A term in the scope of n names has small indices.
pub holds : (ws : List ℕ) (p : ℕ) (t : Term) (rest : List ℕ) → At ws p t rest → Holds ws p
holds ws p t rest a = record { term = t; rest = rest; at = a }

pub holds_small : (ws : List ℕ) (p : ℕ) (t : Term) (rest : List ℕ) (n b : ℕ) → At ws p t rest → Scoped n t → n + size t ≤ b → HoldsSmall b ws p
holds_small ws p t rest n b a s h = record { term = t; rest = rest; at = a; small = scoped_small t n b s h }

-- A term does not get smaller by substitution.
pub subst_larger : (t u : Term) (k : ℕ) → size t ≤ size (subst k u t)
subst_larger (var x) u k = omega (arith, size-parts (subst k u (var x)))
subst_larger (const h) u k = omega arith
subst_larger (sort i) u k = omega arith
subst_larger (pi a b) u k = omega (arith, subst_larger a u k, subst_larger b u (suc k))
subst_larger (lam a b) u k = omega (arith, subst_larger a u k, subst_larger b u (suc k))
subst_larger (app f a) u k = omega (arith, subst_larger f u k, subst_larger a u k)
