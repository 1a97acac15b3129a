-- The parts of a redex in words.
use Rattle.std.proofs.Common.{◌≡◌, ℕ, zero, suc, ◌+◌, ◌*◌, ◌<◌, ◌≤◌, List, [], ◌∷◌, length, drop, sym, refl, ap, ◌∙◌, subst as tr, arith}
use mathlib.Core.Option.{Option, some}
use lib.ListN.{get_elem?}
use Rattle.std.proofs.lemmas.List.{drop-drop}
use Rattle.theory.specs.Terms.{h_def, Term, lam, app, size}
use Rattle.theory.specs.Environment.{Entry, defined, Env, entry_body}
use Rattle.theory.specs.Reduction.{bind, delta}
use Rattle.theory.proofs.Options.{some_inj}
use Rattle.terms.specs.Words.{put, puts, At, Holds}
use Rattle.terms.proofs.Places.{at_behind}
use Rattle.reduction.specs.Stepping.{RowAt}
use Rattle.terms.proofs.Subterms.{at_next}

-- The domain, the body and the argument of a function on an argument.
pub domain_at : (ws : List ℕ) (at : ℕ) (b c a : Term) (rest : List ℕ) → At ws at (app (lam b c) a) rest → At ws (at + 6) b (put c (put a rest))
domain_at ws at b c a rest p = record { stands = sym (drop-drop 6 at ws) ∙ ap (drop 6) p.stands }

pub body_at : (ws : List ℕ) (at : ℕ) (b c a : Term) (rest : List ℕ) (k : ℕ) → At ws at (app (lam b c) a) rest → k ≡ at + 6 + 3 * size b → At ws k c (put a rest)
body_at ws at b c a rest k p e = tr (λ z. At ws z c (put a rest)) (sym e) (at_next ws (at + 6) b c (put a rest) (domain_at ws at b c a rest p))

pub argument_at : (ws : List ℕ) (at : ℕ) (b c a : Term) (rest : List ℕ) (k l : ℕ) → At ws at (app (lam b c) a) rest → k ≡ at + 6 + 3 * size b → l ≡ k + 3 * size c → At ws l a rest
argument_at ws at b c a rest k l p e f = tr (λ z. At ws z a rest) (sym f) (at_next ws k c a rest (body_at ws at b c a rest k p e))

-- The body of a definition.
pub delta_is : (e : Env) (i : ℕ) (t a : Term) {u : Term} → get_elem? e i ≡ some (defined t a) → delta e (h_def i) ≡ some u → u ≡ t
delta_is e i t a p q = some_inj (sym q ∙ ap (λ (o : Option Entry). bind o entry_body) p)

-- A row of terms, one after the other.
pub record Along (ws : List ℕ) (at count i place : ℕ) : Type 0 where
  pub row : (ts : List Term) (rest : List ℕ) → drop at ws ≡ puts ts rest → count ≤ length ts → drop place ws ≡ puts (drop i ts) rest

pub along_start : (ws : List ℕ) (at count : ℕ) → Along ws at count 0 at
along_start ws at count = record { row = λ ts rest p l. p }

split_row : {D : Type 0} (ts : List Term) (i : ℕ) → i < length ts → ((t : Term) (us : List Term) → drop i ts ≡ t ∷ us → drop (i + 1) ts ≡ us → D) → D
split_row [] i l k = absurd (omega arith)
split_row (t ∷ ts) zero l k = k t ts refl refl
split_row (t ∷ ts) (suc i) l k = split_row ts i (omega arith) λ u us p q. k u us p (ap (λ n. drop n (t ∷ ts)) (let z : suc i + 1 ≡ suc (i + 1) = omega arith in z) ∙ q)

pub along_holds : (ws : List ℕ) (at count i place : ℕ) → Along ws at count i place → RowAt ws at count → i < count → Holds ws place
along_holds ws at count i place a r l = split_row r.terms i (omega (arith, r.enough)) λ t us p q.
    record { term = t; rest = puts us r.rest; at = record { stands = a.row r.terms r.rest r.here r.enough ∙ ap (λ ts. puts ts r.rest) p } }

pub along_on : (ws : List ℕ) (at count i place end : ℕ) → Along ws at count i place → i < count → ((t : Term) (rest : List ℕ) → At ws place t rest → end ≡ place + 3 * size t) → Along ws at count (i + 1) end
along_on ws at count i place end a l k = record {
  row = λ ts rest h m. split_row ts i (omega arith) λ t us p q.
      let x : At ws place t (puts us rest) = record { stands = a.row ts rest h m ∙ ap (λ z. puts z rest) p } in
      ap (λ n. drop n ws) (k t (puts us rest) x) ∙ (at_behind ws place t (puts us rest) x ∙ ap (λ z. puts z rest) (sym q));
}
