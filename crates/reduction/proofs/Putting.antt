-- The words of terms, and what follows them.
use Rattle.std.proofs.Common.{◌≡◌, ℕ, ◌*◌, length, arith, List, [], ◌++◌, sym, ap, ◌∙◌, append_assoc}
use Rattle.theory.specs.Terms.{Term, size}
use Rattle.terms.specs.Words.{put}
use Rattle.terms.proofs.Nodes.{put_append, put-length}

pub put_is : (t : Term) (r : List ℕ) → put t r ≡ put t [] ++ r
put_is t r = put_append t [] r

pub length-put_alone : (t : Term) → length (put t []) ≡ 3 * size t
length-put_alone t = omega (arith, put-length t [])

-- Behind what is before a term, and behind the term.
pub behind : (q : List ℕ) (t : Term) (r : List ℕ) → q ++ put t r ≡ (q ++ put t []) ++ r
behind q t r = ap (λ (w : List ℕ). q ++ w) (put_is t r) ∙ sym (append_assoc q (put t []) r)
