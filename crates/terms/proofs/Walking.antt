-- A walk over terms from left to right: a row of terms is still to come.
use Rattle.std.proofs.Common.{◌≡◌, ℕ, ◌+◌, ◌-◌, ◌*◌, ◌<◌, ◌≤◌, Bool, true, false, List, [], ◌∷◌, ◌++◌, length, drop, sym, refl, ap, ◌∙◌, arith, length-append, length-drop}
use Rattle.std.proofs.lemmas.List.{nil_from_length}
use Rattle.theory.specs.Terms.{Term, size}
use Rattle.terms.specs.Words.{puts, sizes, At, Holds, root, parts, has_parts}
use Rattle.terms.specs.declared.sign.Sign.{Sign}
use Rattle.terms.proofs.Nodes.{parts_two, parts_none, size-parts, sizes_append, puts-length, length-sizes, same_parts, pairs_on, pairs_back}
use Rattle.terms.proofs.Places.{row_three, at_one}

-- From place on, so many terms are still to come of the one that stands at p.
pub record ToCome (ws : List ℕ) (p place count : ℕ) : Type 0 where
  pub whole : Term
  pub rest : List ℕ
  pub row : List Term
  pub here : At ws p whole rest
  pub reads : drop place ws ≡ puts row rest
  pub counts : length row ≡ count
  pub ends : place + 3 * sizes row ≡ p + 3 * size whole

pub come_start : (ws : List ℕ) (p : ℕ) → Holds ws p → ToCome ws p p 1
come_start ws p h = record { whole = h.term; rest = h.rest; row = h.term ∷ []; here = h.at; reads = h.at.stands; counts = refl; ends = omega arith }

-- Has the node at a place parts?
abbrev pub Node : List ℕ → ℕ → Bool → Type 0
Node ws place b = (t : Term) (rest : List ℕ) → At ws place t rest → has_parts (root t) ≡ b

pub node_is : (ws : List ℕ) (place : ℕ) (s : Sign) (r b : Bool) → ((t : Term) (rest : List ℕ) → At ws place t rest → s ≡ root t) → r ≡ has_parts s → r ≡ b → Node ws place b
node_is ws place s r b e f g t rest a = ap has_parts (sym (e t rest a)) ∙ sym f ∙ g

-- There is a node at place, and more words than terms to come.
pub record Turn (ws : List ℕ) (place count : ℕ) : Type 0 where
  pub holds : Holds ws place
  pub within : place + 3 ≤ length ws
  pub few : place + count < length ws

pub come_turn : (ws : List ℕ) (p place count : ℕ) → ToCome ws p place count → 0 < count → Turn ws place count
come_turn ws p place count w h = go w.row w.reads w.counts
  where
    go : (row : List Term) → drop place ws ≡ puts row w.rest → length row ≡ count → Turn ws place count
    go [] e c = absurd (let z : ⊥ = omega arith in z)
    go (t ∷ ts) e c = record {
      holds = record { term = t; rest = puts ts w.rest; at = record { stands = e } };
      within = (row_three ws place t ts w.rest e).within;
      few = omega (arith, length-drop place ws, ap length e, puts-length (t ∷ ts) w.rest, length-sizes (t ∷ ts));
    }

pub come_in : (ws : List ℕ) (p place count : ℕ) → ToCome ws p place count → 0 < count → Node ws place true → ToCome ws p (place + 3) (count + 1)
come_in ws p place count w h l = go w.row w.reads w.counts w.ends
  where
    go : (row : List Term) → drop place ws ≡ puts row w.rest → length row ≡ count → place + 3 * sizes row ≡ p + 3 * size w.whole → ToCome ws p (place + 3) (count + 1)
    go [] e c q = absurd (let z : ⊥ = omega arith in z)
    go (t ∷ ts) e c q =
        let n = row_three ws place t ts w.rest e in
        let two = parts_two t (l t _ (record { stands = e })) in
        record {
          whole = w.whole;
          rest = w.rest;
          row = parts t ++ ts;
          here = w.here;
          reads = n.behind;
          counts = omega (arith, length-append (parts t) ts, two);
          ends = omega (arith, sizes_append (parts t) ts, size-parts t);
        }

pub come_out : (ws : List ℕ) (p place count : ℕ) → ToCome ws p place count → 0 < count → Node ws place false → ToCome ws p (place + 3) (count - 1)
come_out ws p place count w h l = go w.row w.reads w.counts w.ends
  where
    go : (row : List Term) → drop place ws ≡ puts row w.rest → length row ≡ count → place + 3 * sizes row ≡ p + 3 * size w.whole → ToCome ws p (place + 3) (count - 1)
    go [] e c q = absurd (let z : ⊥ = omega arith in z)
    go (t ∷ ts) e c q =
        let n = row_three ws place t ts w.rest e in
        let none = parts_none t (l t _ (record { stands = e })) in
        record {
          whole = w.whole;
          rest = w.rest;
          row = ts;
          here = w.here;
          reads = n.behind ∙ ap (λ (z : List Term). puts (z ++ ts) w.rest) none;
          counts = omega arith;
          ends = omega (arith, size-parts t, ap sizes none);
        }

pub come_end : (ws : List ℕ) (p place count : ℕ) → ToCome ws p place count → count ≤ 0 → (t : Term) (rest : List ℕ) → At ws p t rest → place ≡ p + 3 * size t
come_end ws p place count w h t rest a = go w.row w.counts w.ends
  where
    same : w.whole ≡ t
    same = (at_one ws p w.whole t w.rest rest w.here a).0

    go : (row : List Term) → length row ≡ count → place + 3 * sizes row ≡ p + 3 * size w.whole → place ≡ p + 3 * size t
    go [] c q = omega (arith, ap size same)
    go (u ∷ us) c q = absurd (let z : ⊥ = omega arith in z)

-- Pairs of terms still to be compared: those that come on the two sides, as many on the one as on the other.
pub record Pairs (ws vs : List ℕ) (i j p q count : ℕ) : Type 0 where
  pub left : Term
  pub right : Term
  pub left_rest : List ℕ
  pub right_rest : List ℕ
  pub left_row : List Term
  pub right_row : List Term
  pub left_at : At ws i left left_rest
  pub right_at : At vs j right right_rest
  pub left_reads : drop p ws ≡ puts left_row left_rest
  pub right_reads : drop q vs ≡ puts right_row right_rest
  pub left_counts : length left_row ≡ count
  pub right_counts : length right_row ≡ count
  pub on : left_row ≡ right_row → left ≡ right
  pub back : left ≡ right → left_row ≡ right_row

pub pairs_start : (ws vs : List ℕ) (i j : ℕ) → Holds ws i → Holds vs j → Pairs ws vs i j i j 1
pairs_start ws vs i j g h = record {
  left = g.term;
  right = h.term;
  left_rest = g.rest;
  right_rest = h.rest;
  left_row = g.term ∷ [];
  right_row = h.term ∷ [];
  left_at = g.at;
  right_at = h.at;
  left_reads = g.at.stands;
  right_reads = h.at.stands;
  left_counts = refl;
  right_counts = refl;
  on = λ e. (let z : g.term ≡ h.term = cc in z);
  back = λ e. ap (λ (t : Term). t ∷ []) e;
}

-- There is a first pair.
pub pairs_left : (ws vs : List ℕ) (i j p q count : ℕ) → Pairs ws vs i j p q count → 0 < count → Holds ws p
pairs_left ws vs i j p q count w h = go w.left_row w.left_reads w.left_counts
  where
    go : (ts : List Term) → drop p ws ≡ puts ts w.left_rest → length ts ≡ count → Holds ws p
    go [] e c = absurd (let z : ⊥ = omega arith in z)
    go (t ∷ ts) e c = record { term = t; rest = puts ts w.left_rest; at = record { stands = e } }

pub pairs_right : (ws vs : List ℕ) (i j p q count : ℕ) → Pairs ws vs i j p q count → 0 < count → Holds vs q
pairs_right ws vs i j p q count w h = go w.right_row w.right_reads w.right_counts
  where
    go : (ts : List Term) → drop q vs ≡ puts ts w.right_rest → length ts ≡ count → Holds vs q
    go [] e c = absurd (let z : ⊥ = omega arith in z)
    go (t ∷ ts) e c = record { term = t; rest = puts ts w.right_rest; at = record { stands = e } }

pub pairs_few : (ws vs : List ℕ) (i j p q count : ℕ) → Pairs ws vs i j p q count → 0 < count → p + count < length ws
pairs_few ws vs i j p q count w h =
    omega (arith, length-drop p ws, ap length w.left_reads, puts-length w.left_row w.left_rest, length-sizes w.left_row, w.left_counts)

-- One pair on, whatever its parts.
pub pairs_step : (ws vs : List ℕ) (i j p q count next : ℕ) → Pairs ws vs i j p q count → 0 < count
    → ((t u : Term) (x y : List ℕ) → At ws p t x → At vs q u y → root t ≡ root u)
    → ((t : Term) (x : List ℕ) → At ws p t x → length (parts t) + count ≡ next + 1)
    → Pairs ws vs i j (p + 3) (q + 3) next
pairs_step ws vs i j p q count next w h same nexts = go w.left_row w.right_row w.left_reads w.right_reads w.left_counts w.right_counts w.on w.back
  where
    go : (ts us : List Term) → drop p ws ≡ puts ts w.left_rest → drop q vs ≡ puts us w.right_rest → length ts ≡ count → length us ≡ count
        → (ts ≡ us → w.left ≡ w.right) → (w.left ≡ w.right → ts ≡ us) → Pairs ws vs i j (p + 3) (q + 3) next
    go [] us e f c d on back = absurd (let z : ⊥ = omega arith in z)
    go (t ∷ ts) [] e f c d on back = absurd (let z : ⊥ = omega arith in z)
    go (t ∷ ts) (u ∷ us) e f c d on back =
        let r = same t u _ _ (record { stands = e }) (record { stands = f }) in
        let n = nexts t _ (record { stands = e }) in
        record {
          left = w.left;
          right = w.right;
          left_rest = w.left_rest;
          right_rest = w.right_rest;
          left_row = parts t ++ ts;
          right_row = parts u ++ us;
          left_at = w.left_at;
          right_at = w.right_at;
          left_reads = (row_three ws p t ts w.left_rest e).behind;
          right_reads = (row_three vs q u us w.right_rest f).behind;
          left_counts = omega (arith, length-append (parts t) ts);
          right_counts = omega (arith, length-append (parts u) us, same_parts t u r);
          on = λ z. on (pairs_on t u ts us r z);
          back = λ z. pairs_back t u ts us (back z);
        }

pub pairs_in : (ws vs : List ℕ) (i j p q count : ℕ) → Pairs ws vs i j p q count → 0 < count
    → ((t u : Term) (x y : List ℕ) → At ws p t x → At vs q u y → root t ≡ root u) → Node ws p true → Pairs ws vs i j (p + 3) (q + 3) (count + 1)
pairs_in ws vs i j p q count w h same l = pairs_step ws vs i j p q count (count + 1) w h same (λ t x a. omega (arith, parts_two t (l t x a)))

pub pairs_out : (ws vs : List ℕ) (i j p q count : ℕ) → Pairs ws vs i j p q count → 0 < count
    → ((t u : Term) (x y : List ℕ) → At ws p t x → At vs q u y → root t ≡ root u) → Node ws p false → Pairs ws vs i j (p + 3) (q + 3) (count - 1)
pairs_out ws vs i j p q count w h same l = pairs_step ws vs i j p q count (count - 1) w h same (λ t x a. omega (arith, ap length (parts_none t (l t x a))))

-- A pair that differs, and no pair left.
pub pairs_differ : (ws vs : List ℕ) (i j p q count : ℕ) → Pairs ws vs i j p q count → 0 < count
    → ((t u : Term) (x y : List ℕ) → At ws p t x → At vs q u y → root t ≡ root u → ⊥)
    → (t u : Term) (x y : List ℕ) → At ws i t x → At vs j u y → t ≡ u → ⊥
pairs_differ ws vs i j p q count w h differ t u x y a b e = go w.left_row w.right_row w.left_reads w.right_reads w.left_counts w.right_counts (w.back same)
  where
    same : w.left ≡ w.right
    same = (at_one ws i w.left t w.left_rest x w.left_at a).0 ∙ e ∙ sym (at_one vs j w.right u w.right_rest y w.right_at b).0

    go : (ts us : List Term) → drop p ws ≡ puts ts w.left_rest → drop q vs ≡ puts us w.right_rest → length ts ≡ count → length us ≡ count → ts ≡ us → ⊥
    go [] us f g c d z = omega arith
    go (k ∷ ks) [] f g c d z = omega arith
    go (k ∷ ks) (l ∷ ls) f g c d z = let r : k ≡ l = cc in differ k l _ _ (record { stands = f }) (record { stands = g }) (ap root r)

pub pairs_end : (ws vs : List ℕ) (i j p q count : ℕ) → Pairs ws vs i j p q count → count ≤ 0 → (t u : Term) (x y : List ℕ) → At ws i t x → At vs j u y → t ≡ u
pairs_end ws vs i j p q count w h t u x y a b =
    sym (at_one ws i w.left t w.left_rest x w.left_at a).0
    ∙ w.on (nil_from_length w.left_row (omega (arith, w.left_counts)) ∙ sym (nil_from_length w.right_row (omega (arith, w.right_counts))))
    ∙ (at_one vs j w.right u w.right_rest y w.right_at b).0
