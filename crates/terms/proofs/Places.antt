-- Terms at places of the words.
use Rattle.std.proofs.Common.{◌≡◌, ℕ, ◌+◌, ◌*◌, ◌≤◌, Bool, true, false, refl, List, [], ◌∷◌, ◌++◌, length, get_or, take, drop, sym, ap, ◌∙◌, ap₂, append_assoc, arith, length-drop, length-take}
use Rattle.std.proofs.lemmas.List.{get_or-drop, drop-drop, take-append-drop, take-take, drop-take, take_at, drop_at, length-take-le}
use Rattle.std.specs.Bool.{Decides as Both}
use Rattle.theory.proofs.Options.{false-true}
use Rattle.theory.specs.Terms.{Term, size}
use Rattle.terms.specs.Words.{Decides, put, puts, At, Holds, root, parts, sign_of}
use Rattle.terms.specs.Writing.{Appends}
use Rattle.terms.proofs.Nodes.{tag, low, high, put_words, row_words, sign_is, put-length, put_one, size-parts, same-root, root-same, put_append}
use Rattle.terms.proofs.Appending.{append_keeps, append_stands}

-- Three words stand at a place, and behind them rest.
pub record Three (ws : List ℕ) (p a b c : ℕ) (rest : List ℕ) : Type 0 where
  pub within : p + 3 ≤ length ws
  pub first : get_or ws p 0 ≡ a
  pub second : get_or ws (p + 1) 0 ≡ b
  pub third : get_or ws (p + 2) 0 ≡ c
  pub behind : drop (p + 3) ws ≡ rest

pub three : (ws : List ℕ) (p a b c : ℕ) (rest : List ℕ) → drop p ws ≡ a ∷ b ∷ c ∷ rest → Three ws p a b c rest
three ws p a b c rest e = record {
  within = omega (arith, length-drop p ws, ap length e);
  first = ap (λ (k : ℕ). get_or ws k 0) (let z : p ≡ p + 0 = omega arith in z) ∙ sym (get_or-drop p ws 0 0) ∙ ap (λ (z : List ℕ). get_or z 0 0) e;
  second = sym (get_or-drop p ws 1 0) ∙ ap (λ (z : List ℕ). get_or z 1 0) e;
  third = sym (get_or-drop p ws 2 0) ∙ ap (λ (z : List ℕ). get_or z 2 0) e;
  behind = sym (drop-drop 3 p ws) ∙ ap (drop 3) e;
}

pub at_three : (ws : List ℕ) (p : ℕ) (t : Term) (rest : List ℕ) → At ws p t rest → Three ws p (tag t) (low t) (high t) (puts (parts t) rest)
at_three ws p t rest a = three ws p _ _ _ _ (a.stands ∙ put_words t rest)

pub row_three : (ws : List ℕ) (p : ℕ) (t : Term) (ts : List Term) (rest : List ℕ) → drop p ws ≡ puts (t ∷ ts) rest → Three ws p (tag t) (low t) (high t) (puts (parts t ++ ts) rest)
row_three ws p t ts rest e = three ws p _ _ _ _ (e ∙ row_words t ts rest)

-- The root is read off the three words.
pub at_root : (ws : List ℕ) (p : ℕ) (t : Term) (rest : List ℕ) → At ws p t rest → sign_of (get_or ws p 0) (get_or ws (p + 1) 0) (get_or ws (p + 2) 0) ≡ root t
at_root ws p t rest a = let h = at_three ws p t rest a in let s = sign_is t in cc (h.first, h.second, h.third)

-- At most one term stands at a place, and it ends within the words.
pub at_one : (ws : List ℕ) (p : ℕ) (t u : Term) (r s : List ℕ) → At ws p t r → At ws p u s → (t ≡ u) × (r ≡ s)
at_one ws p t u r s a b = put_one t u r s (sym a.stands ∙ b.stands)

pub at_length : (ws : List ℕ) (p : ℕ) (t : Term) (rest : List ℕ) → At ws p t rest → p + (3 * size t + length rest) ≡ length ws
at_length ws p t rest a = omega (arith, length-drop p ws, ap length a.stands, put-length t rest, size-parts t)

pub holds_within : (ws : List ℕ) (p : ℕ) → Holds ws p → p + 3 ≤ length ws
holds_within ws p h = (at_three ws p h.term h.rest h.at).within

-- Terms at two places have the same root exactly if the three words are the same.
abbrev pub SameWords : List ℕ → List ℕ → ℕ → ℕ → Type 0
SameWords ws vs i j = ((get_or ws i 0 ≡ get_or vs j 0) × (get_or ws (i + 1) 0 ≡ get_or vs (j + 1) 0)) × (get_or ws (i + 2) 0 ≡ get_or vs (j + 2) 0)

pub decides_root : (ws vs : List ℕ) (i j : ℕ) (r : Bool) → Both r (SameWords ws vs i j)
    → (t u : Term) (x y : List ℕ) → At ws i t x → At vs j u y → Decides (root t ≡ root u) r
decides_root ws vs i j true d t u x y a b =
    let h = at_three ws i t x a in let k = at_three vs j u y b in let s = d.0 refl in
    root-same t u (sym h.first ∙ s.0.0 ∙ k.first) (sym h.second ∙ s.0.1 ∙ k.second) (sym h.third ∙ s.1 ∙ k.third)
decides_root ws vs i j false d t u x y a b = λ e.
    let h = at_three ws i t x a in let k = at_three vs j u y b in let s = same-root t u e in
    false-true (d.1 ((h.first ∙ s.0 ∙ sym k.first, h.second ∙ s.1 ∙ sym k.second), h.third ∙ s.2 ∙ sym k.third))

-- The words of the term, from its place to its end; what stands behind it.
pub at_words : (ws : List ℕ) (p : ℕ) (t : Term) (rest : List ℕ) → At ws p t rest → drop p (take (p + 3 * size t) ws) ≡ put t []
at_words ws p t rest a =
    drop-take p (3 * size t) ws ∙ ap (take (3 * size t)) (a.stands ∙ put_append t [] rest)
    ∙ take_at (put t []) rest (3 * size t) (put-length t [] ∙ (let z : 3 * size t + 0 ≡ 3 * size t = omega arith in z))

pub at_behind : (ws : List ℕ) (p : ℕ) (t : Term) (rest : List ℕ) → At ws p t rest → drop (p + 3 * size t) ws ≡ rest
at_behind ws p t rest a =
    sym (drop-drop (3 * size t) p ws) ∙ ap (drop (3 * size t)) (a.stands ∙ put_append t [] rest)
    ∙ drop_at (put t []) rest (3 * size t) (put-length t [] ∙ (let z : 3 * size t + 0 ≡ 3 * size t = omega arith in z))

-- A term whose words stand from p to its end stands at p.
pub words_at : (ws : List ℕ) (p : ℕ) (t : Term) → p ≤ length ws → take (p + 3 * size t) ws ≡ take p ws ++ put t [] → At ws p t (drop (p + 3 * size t) ws)
words_at ws p t h e = record {
  stands =
      ap (drop p) (sym (take-append-drop (p + 3 * size t) ws) ∙ ap (λ (z : List ℕ). z ++ drop (p + 3 * size t) ws) e ∙ append_assoc (take p ws) (put t []) _)
      ∙ drop_at (take p ws) _ p (length-take-le p ws h) ∙ sym (put_append t [] (drop (p + 3 * size t) ws));
}

-- A term stands if the words up to its end are the same.
pub at_same : (ws vs : List ℕ) (p : ℕ) (t : Term) (rest : List ℕ) → take (p + 3 * size t) ws ≡ take (p + 3 * size t) vs → At ws p t rest → At vs p t (drop (p + 3 * size t) vs)
at_same ws vs p t rest e a =
    let l = at_length ws p t rest a in
    let m = ap length e in
    words_at vs p t (omega (arith, length-take (p + 3 * size t) ws, length-take (p + 3 * size t) vs))
    (sym e ∙ sym (take-append-drop p (take (p + 3 * size t) ws))
    ∙ ap₂ ◌++◌ (take-take p (p + 3 * size t) ws (omega arith) ∙ sym (take-take p (p + 3 * size t) ws (omega arith)) ∙ ap (take p) e ∙ take-take p (p + 3 * size t) vs (omega arith)) (at_words ws p t rest a))

-- A term that was written stands where it was written, and one that stood below stands.
pub at_written : (before after : List ℕ) (start end : ℕ) (t : Term) → start ≤ length before → Appends before start (put t []) after end → At after start t (drop end after)
at_written before after start end t h p = record { stands = append_stands before after start end (put t []) h p ∙ sym (put_append t [] (drop end after)) }

pub written_end : (before after : List ℕ) (start end : ℕ) (t : Term) → Appends before start (put t []) after end → end ≡ start + 3 * size t
written_end before after start end t p = omega (arith, p.ends, put-length t [])

pub at_kept : (before after new : List ℕ) (len end p : ℕ) (t : Term) (rest : List ℕ) → len ≤ length before → p + 3 * size t ≤ len → Appends before len new after end → At before p t rest → At after p t (drop (p + 3 * size t) after)
at_kept before after new len end p t rest g h w a = at_same before after p t rest (sym (append_keeps before after len end (p + 3 * size t) new h g w)) a
