-- A term written anew node by node, from left to right: what is done with a part depends on the number of binders around it.
-- One part is at hand; the second parts of the nodes above wait, and their depths stand on a stack.
use Rattle.std.proofs.Common.{◌≡◌, ℕ, suc, ◌+◌, ◌-◌, ◌*◌, ◌<◌, ◌≤◌, true, false, Err, List, [], ◌∷◌, ◌++◌, length, take, drop, sym, refl, ap, ◌∙◌, subst as tr, append_assoc, append-nil, arith, length-append, length-take}
use Rattle.std.proofs.lemmas.List.{drop-drop, drop_all, nil_from_length}
use borrow.Rule.Slice.PartMut.{post_of}
use Rattle.theory.specs.Terms.{h_def, h_data, h_con, h_rec, h_eq, h_refl, h_along, Term, var, const, sort, pi, lam, app}
use Rattle.theory.proofs.Options.{true-false, false-true}
use Rattle.terms.specs.Words.{put, puts, At, root, parts, has_parts, under, number}
use Rattle.terms.specs.Writing.{Appends, Pushes}
use Rattle.terms.specs.Copying.{Writes}
use Rattle.terms.specs.Rewriting.{rewritten, EachNode, HoldsEach}
use Rattle.terms.specs.declared.sign.Sign.{Sign}
use Rattle.terms.specs.declared.copy.WriteError.{WriteError}
use Rattle.terms.specs.declared.copy.WriteError.TheVariants.{NoRoom, NoStack}
use Rattle.terms.proofs.Places.{row_three, at_one}
use Rattle.terms.proofs.Appending.{append_then, append_as}
use Rattle.terms.proofs.Numbers.{push_as, lent_stands, lent_length}

-- A part and the number of binders around it.
pub record Item : Type 0 where
  pub depth : ℕ
  pub term : Term

abbrev pub item : ℕ → Term → Item
item d t = record { depth = d; term = t }

abbrev pub terms : List Item → List Term
terms [] = []
terms (i ∷ is) = i.term ∷ terms is

abbrev pub depths : List Item → List ℕ
depths [] = []
depths (i ∷ is) = number i.depth (depths is)

abbrev pub items_of : ℕ → Term → List Item
items_of d (pi a b) = item d a ∷ item (suc d) b ∷ []
items_of d (lam a b) = item d a ∷ item (suc d) b ∷ []
items_of d (app f a) = item d f ∷ item d a ∷ []
items_of d (var x) = []
items_of d (sort i) = []
items_of d (const h) = []

-- Each part fits, with the binders around it.
abbrev pub Fit : (ℕ → Sign → Type 0) → List Item → Type 0
Fit F [] = Unit {0}
Fit F (i ∷ is) = EachNode F i.depth i.term × Fit F is

abbrev pub Deep : ℕ → List Item → Type 0
Deep n [] = Unit {0}
Deep n (i ∷ is) = (i.depth ≤ n) × Deep n is

-- The words for parts in a row.
abbrev pub row : (ℕ → Sign → List ℕ) → List Item → List ℕ → List ℕ
row w [] r = r
row w (i ∷ is) r = rewritten w i.depth i.term (row w is r)

pub here_first : (w : ℕ → Sign → List ℕ) (d : ℕ) (t : Term) (r : List ℕ) → rewritten w d t r ≡ w d (root t) ++ row w (items_of d t) r
here_first w d (pi a b) r = refl
here_first w d (lam a b) r = refl
here_first w d (app f a) r = refl
here_first w d (var x) r = refl
here_first w d (sort i) r = refl
here_first w d (const h) r = refl

-- What fits at a node: the node itself, and its parts.
pub fit_node : (F : ℕ → Sign → Type 0) (d : ℕ) (t : Term) → EachNode F d t → F d (root t) × Fit F (items_of d t)
fit_node F d (pi a b) h = (h.0, (h.1, (h.2, tt)))
fit_node F d (lam a b) h = (h.0, (h.1, (h.2, tt)))
fit_node F d (app f a) h = (h.0, (h.1, (h.2, tt)))
fit_node F d (var x) h = (h, tt)
fit_node F d (sort i) h = (h, tt)
fit_node F d (const c) h = (h, tt)

-- A node with parts and one without.
pub record Two (d : ℕ) (t : Term) : Type 0 where
  pub first : Term
  pub second : Term
  pub is : items_of d t ≡ item d first ∷ item (under (root t) d) second ∷ []
  pub are : parts t ≡ first ∷ second ∷ []

pub two : (d : ℕ) (t : Term) → has_parts (root t) ≡ true → Two d t
two d (pi a b) e = record { first = a; second = b; is = refl; are = refl }
two d (lam a b) e = record { first = a; second = b; is = refl; are = refl }
two d (app f a) e = record { first = f; second = a; is = refl; are = refl }
two d (var x) e = false-true e
two d (sort i) e = false-true e
two d (const (h_def i)) e = false-true e
two d (const (h_data i)) e = false-true e
two d (const (h_con i k)) e = false-true e
two d (const (h_rec i j)) e = false-true e
two d (const (h_eq i)) e = false-true e
two d (const (h_refl i)) e = false-true e
two d (const (h_along i j)) e = false-true e

pub none_of : (d : ℕ) (t : Term) → has_parts (root t) ≡ false → (items_of d t ≡ []) × (parts t ≡ [])
none_of d (pi a b) e = true-false e
none_of d (lam a b) e = true-false e
none_of d (app f a) e = true-false e
none_of d (var x) e = (refl, refl)
none_of d (sort i) e = (refl, refl)
none_of d (const h) e = (refl, refl)

pub under_less : (t : Term) (d : ℕ) → under (root t) d ≤ d + 1
under_less (pi a b) d = omega arith
under_less (lam a b) d = omega arith
under_less (app f a) d = omega arith
under_less (var x) d = omega arith
under_less (sort i) d = omega arith
under_less (const (h_def i)) d = omega arith
under_less (const (h_data i)) d = omega arith
under_less (const (h_con i k)) d = omega arith
under_less (const (h_rec i j)) d = omega arith
under_less (const (h_eq i)) d = omega arith
under_less (const (h_refl i)) d = omega arith
under_less (const (h_along i j)) d = omega arith

pub deep_more : (m n : ℕ) (is : List Item) → Deep m is → m ≤ n → Deep n is
deep_more m n [] h p = tt
deep_more m n (i ∷ is) h p = (omega (arith, h.0), deep_more m n is h.1 p)

-- A term takes three words or more, if each node does.
module _ (w : ℕ → Sign → List ℕ) (long : (d : ℕ) (x : Sign) → 3 ≤ length (w d x)) where
  here_long : (d : ℕ) (x : Sign) (r : List ℕ) → 3 + length r ≤ length (w d x ++ r)
  here_long d x r = omega (arith, length-append (w d x) r, long d x)

  pub rewritten_long : (d : ℕ) (t : Term) (r : List ℕ) → 3 + length r ≤ length (rewritten w d t r)
  rewritten_long d (pi a b) r = let x = here_long d (root (pi a b)) (rewritten w d a (rewritten w (suc d) b r)) in omega (arith, x, rewritten_long d a (rewritten w (suc d) b r), rewritten_long (suc d) b r)
  rewritten_long d (lam a b) r = let x = here_long d (root (lam a b)) (rewritten w d a (rewritten w (suc d) b r)) in omega (arith, x, rewritten_long d a (rewritten w (suc d) b r), rewritten_long (suc d) b r)
  rewritten_long d (app f a) r = let x = here_long d (root (app f a)) (rewritten w d f (rewritten w d a r)) in omega (arith, x, rewritten_long d f (rewritten w d a r), rewritten_long d a r)
  rewritten_long d (var x) r = here_long d (root (var x)) r
  rewritten_long d (sort i) r = here_long d (root (sort i)) r
  rewritten_long d (const h) r = here_long d (root (const h)) r

  pub row_long : (is : List Item) (r : List ℕ) → 3 * length is + length r ≤ length (row w is r)
  row_long [] r = omega arith
  row_long (i ∷ is) r = omega (arith, rewritten_long i.depth i.term (row w is r), row_long is r)

-- The words that stand up to the end of what was written.
pub append_within : (o₁ o₂ x : List ℕ) (l n : ℕ) → l ≤ length o₁ → Appends o₁ l x o₂ n → n ≤ length o₂
append_within o₁ o₂ x l n h p = omega (arith, p.ends, length-take n o₂, ap length p.words, length-append (take l o₁) x, length-take l o₁)

pub append_start : (o : List ℕ) (l : ℕ) → Appends o l [] o l
append_start o l = record { ends = omega arith; words = sym (append-nil _) }

-- The state: of the term at p, so many nodes are done.
pub record Doing (F : ℕ → Sign → Type 0) (w : ℕ → Sign → List ℕ) (ws : List ℕ) (p cut : ℕ) (out₀ : List ℕ) (start : ℕ) (place end free depth : ℕ) (out stack : List ℕ) : Type 0 where
  pub whole : Term
  pub rest : List ℕ
  pub stands : At ws p whole rest
  pub term : Term
  pub items : List Item
  pub written : List ℕ
  pub nodes : ℕ
  pub reads : drop place ws ≡ put term (puts (terms items) rest)
  pub waits : drop free stack ≡ depths items
  pub room : free + 2 * length items ≡ length stack
  pub writes : Appends out₀ start written out end
  pub says : written ++ rewritten w depth term (row w items []) ≡ rewritten w cut whole []
  pub places : place ≡ p + 3 * nodes
  pub few : 3 * length items ≤ length written
  pub deep : depth ≤ cut + nodes
  pub deeps : Deep (cut + nodes) items
  pub fits : EachNode F depth term
  pub all_fit : Fit F items

module _ {F : ℕ → Sign → Type 0} {w : ℕ → Sign → List ℕ} {ws : List ℕ} {p cut : ℕ} {out₀ : List ℕ} {start : ℕ} where
  pub doing_start : (stack : List ℕ) → HoldsEach F cut ws p → Doing F w ws p cut out₀ start p start (length stack) cut out₀ stack
  doing_start stack h = record {
    whole = h.term;
    rest = h.rest;
    stands = h.at;
    term = h.term;
    items = [];
    written = [];
    nodes = 0;
    reads = h.at.stands;
    waits = drop_all (length stack) stack (omega arith);
    room = omega arith;
    writes = append_start out₀ start;
    says = refl;
    places = omega arith;
    few = omega arith;
    deep = omega arith;
    deeps = tt;
    fits = h.each;
    all_fit = tt;
  }

  module _ {place end free depth : ℕ} {out stack : List ℕ} (s : Doing F w ws p cut out₀ start place end free depth out stack) where
    pub doing_at : At ws place s.term (puts (terms s.items) s.rest)
    doing_at = record { stands = s.reads }

    pub doing_within : place + 3 ≤ length ws
    doing_within = (row_three ws place s.term (terms s.items) s.rest s.reads).within

    pub doing_inside : start ≤ length out₀ → end ≤ length out
    doing_inside h = append_within out₀ out s.written start end h s.writes

    pub doing_low : free ≤ length stack
    doing_low = omega (arith, s.room)

    pub doing_deep : 3 * depth + p ≤ 3 * cut + place
    doing_deep = omega (arith, s.deep, s.places)

    pub doing_fits : {x : Sign} → x ≡ root s.term → F depth x
    doing_fits e = tr (F depth) (sym e) (fit_node F depth s.term s.fits).0

    -- what stands below the depths may change
    doing_stack : {stack₂ : List ℕ} → length stack₂ ≡ length stack → drop free stack₂ ≡ drop free stack → Doing F w ws p cut out₀ start place end free depth out stack₂
    doing_stack l e = record {
      whole = s.whole;
      rest = s.rest;
      stands = s.stands;
      term = s.term;
      items = s.items;
      written = s.written;
      nodes = s.nodes;
      reads = s.reads;
      waits = e ∙ s.waits;
      room = s.room ∙ sym l;
      writes = s.writes;
      says = s.says;
      places = s.places;
      few = s.few;
      deep = s.deep;
      deeps = s.deeps;
      fits = s.fits;
      all_fit = s.all_fit;
    }

    pub doing_lent : (part : List ℕ) → length part ≡ length (take (free - 0) (drop 0 stack)) → Doing F w ws p cut out₀ start place end free depth out (part ++ post_of 0 (free - 0) stack)
    doing_lent part l = doing_stack (lent_length stack part free doing_low l) (lent_stands stack part free doing_low l)

    -- one node on, in words
    says_on : s.written ++ (w depth (root s.term) ++ row w (items_of depth s.term) (row w s.items [])) ≡ rewritten w cut s.whole []
    says_on = ap (λ (z : List ℕ). s.written ++ z) (sym (here_first w depth s.term _)) ∙ s.says

    says_next : (s.written ++ w depth (root s.term)) ++ row w (items_of depth s.term) (row w s.items []) ≡ rewritten w cut s.whole []
    says_next = append_assoc s.written (w depth (root s.term)) _ ∙ says_on

    -- how much will have been written when all is done
    size_left : length s.written + (length (w depth (root s.term)) + length (row w (items_of depth s.term) (row w s.items []))) ≡ length (rewritten w cut s.whole [])
    size_left =
        omega (
          arith,
          ap length says_on,
          length-append s.written (w depth (root s.term) ++ row w (items_of depth s.term) (row w s.items [])),
          length-append (w depth (root s.term)) (row w (items_of depth s.term) (row w s.items [])),
        )

    size_of : (t : Term) (rest : List ℕ) → At ws p t rest → length (rewritten w cut s.whole []) ≡ length (rewritten w cut t [])
    size_of t rest a = ap (λ (x : Term). length (rewritten w cut x [])) (at_one ws p s.whole t s.rest rest s.stands a).0

    behind : drop (place + 3) ws ≡ puts (parts s.term ++ terms s.items) s.rest
    behind = (row_three ws place s.term (terms s.items) s.rest s.reads).behind

    -- without parts
    reads_none : has_parts (root s.term) ≡ false → drop (place + 3) ws ≡ puts (terms s.items) s.rest
    reads_none e = behind ∙ ap (λ (z : List Term). puts (z ++ terms s.items) s.rest) (none_of depth s.term e).1

    says_none : has_parts (root s.term) ≡ false → (s.written ++ w depth (root s.term)) ++ row w s.items [] ≡ rewritten w cut s.whole []
    says_none e = ap (λ (z : List Item). (s.written ++ w depth (root s.term)) ++ row w z (row w s.items [])) (sym (none_of depth s.term e).0) ∙ says_next

    -- the root does not fit
    doing_no_room : length out₀ ≡ length out → length out < end + length (w depth (root s.term)) → (t : Term) (rest : List ℕ) → At ws p t rest → length out₀ < start + length (rewritten w cut t [])
    doing_no_room e h t rest a = omega (arith, size_of t rest a, size_left, s.writes.ends)

    module _ (long : (d : ℕ) (x : Sign) → 3 ≤ length (w d x)) where
      left_long : 3 * length (items_of depth s.term) + 3 * length s.items ≤ length (row w (items_of depth s.term) (row w s.items []))
      left_long = omega (arith, row_long w long (items_of depth s.term) (row w s.items []), row_long w long s.items [])

      -- the stack does not suffice for the root, or is full at a node with parts
      doing_no_stack : {n : ℕ} → n ≡ length stack → 3 * free < length (w depth (root s.term)) → (t : Term) (rest : List ℕ) → At ws p t rest → 3 * n < length (rewritten w cut t [])
      doing_no_stack {n} m h t rest a = omega (arith, size_of t rest a, size_left, s.room, s.few, left_long)

      pub doing_full : {n : ℕ} → n ≡ length stack → {x : Sign} → x ≡ root s.term → true ≡ has_parts x → free < 2 → (t : Term) (rest : List ℕ) → At ws p t rest → 3 * n < length (rewritten w cut t [])
      doing_full {n} m r e h t rest a = omega (arith, size_of t rest a, size_left, s.room, s.few, left_long, ap length (two depth s.term (ap has_parts (sym r) ∙ sym e)).is, long depth (root s.term))

      -- the words for the root were not written
      pub doing_err : {n : ℕ} → length out₀ ≡ length out → n ≡ length stack → (after : List ℕ) (x : WriteError) → Writes out end after free (w depth (root s.term)) (Err x)
          → (t : Term) (rest : List ℕ) → At ws p t rest → Writes out₀ start after n (rewritten w cut t []) (Err x)
      doing_err e m after NoRoom h = doing_no_room e h
      doing_err e m after NoStack h = doing_no_stack m h

    -- the words for the root x were written
    module _ {x : Sign} (r : x ≡ root s.term) {out₂ : List ℕ} {end₂ : ℕ} (q₀ : Appends out end (w depth x) out₂ end₂) where
      q : Appends out end (w depth (root s.term)) out₂ end₂
      q = append_as _ _ _ _ _ _ (ap (w depth) r) q₀

      -- into the first part; the second waits
      pub doing_in : ((d : ℕ) (x : Sign) → 3 ≤ length (w d x)) → true ≡ has_parts x → {inner : ℕ} → inner ≡ under x depth → {stack₂ : List ℕ} {top : ℕ} → length stack₂ ≡ length stack → Pushes stack free inner stack₂ top
          → Doing F w ws p cut out₀ start (place + 3) end₂ top depth out₂ stack₂
      doing_in long e i {stack₂} {top} l g =
          let h : Pushes stack free (under (root s.term) depth) stack₂ top = push_as _ _ _ _ _ _ (i ∙ ap (λ (y : Sign). under y depth) r) g in
          let v = two depth s.term (ap has_parts (sym r) ∙ sym e) in
          let k = tr (Fit F) v.is (fit_node F depth s.term s.fits).1 in
          record {
            whole = s.whole;
            rest = s.rest;
            stands = s.stands;
            term = v.first;
            items = item (under (root s.term) depth) v.second ∷ s.items;
            written = s.written ++ w depth (root s.term);
            nodes = s.nodes + 1;
            reads = behind ∙ ap (λ (z : List Term). puts (z ++ terms s.items) s.rest) v.are;
            waits = h.words ∙ ap (number (under (root s.term) depth)) s.waits;
            room = omega (arith, h.grows, s.room);
            writes = append_then _ _ _ _ _ _ _ _ s.writes q;
            says = ap (λ (z : List Item). (s.written ++ w depth (root s.term)) ++ row w z (row w s.items [])) (sym v.is) ∙ says_next;
            places = omega (arith, s.places);
            few = omega (arith, s.few, length-append s.written (w depth (root s.term)), long depth (root s.term));
            deep = omega (arith, s.deep);
            deeps = (omega (arith, s.deep, under_less s.term depth), deep_more _ _ s.items s.deeps (omega arith));
            fits = k.0;
            all_fit = (k.1.0, s.all_fit);
          }

      -- at a node without parts the next one that waits comes
      pub doing_out : false ≡ has_parts x → (free ≡ length stack → ⊥) → (next : ℕ) → ((x : ℕ) (r : List ℕ) → drop free stack ≡ number x r → next ≡ x)
          → Doing F w ws p cut out₀ start (place + 3) end₂ (free + 2) next out₂ stack
      doing_out e h next n = go s.items s.waits s.room s.few s.deeps s.all_fit (reads_none (ap has_parts (sym r) ∙ sym e)) (says_none (ap has_parts (sym r) ∙ sym e))
        where
          go : (is : List Item) → drop free stack ≡ depths is → free + 2 * length is ≡ length stack → 3 * length is ≤ length s.written → Deep (cut + s.nodes) is → Fit F is
              → drop (place + 3) ws ≡ puts (terms is) s.rest → (s.written ++ w depth (root s.term)) ++ row w is [] ≡ rewritten w cut s.whole []
              → Doing F w ws p cut out₀ start (place + 3) end₂ (free + 2) next out₂ stack
          go [] waits room few deeps fits reads says = absurd (h (omega arith))
          go (i ∷ is) waits room few deeps fits reads says =
              let f : next ≡ i.depth = n i.depth (depths is) waits in
              record {
                whole = s.whole;
                rest = s.rest;
                stands = s.stands;
                term = i.term;
                items = is;
                written = s.written ++ w depth (root s.term);
                nodes = s.nodes + 1;
                reads = reads;
                waits = sym (drop-drop 2 free stack) ∙ ap (drop 2) waits;
                room = omega arith;
                writes = append_then _ _ _ _ _ _ _ _ s.writes q;
                says = ap (λ (d : ℕ). (s.written ++ w depth (root s.term)) ++ rewritten w d i.term (row w is [])) f ∙ says;
                places = omega (arith, s.places);
                few = omega (arith, length-append s.written (w depth (root s.term)));
                deep = omega (arith, deeps.0);
                deeps = deep_more _ _ is deeps.1 (omega arith);
                fits = tr (λ (d : ℕ). EachNode F d i.term) (sym f) fits.0;
                all_fit = fits.1;
              }

      -- or all is done
      pub doing_done : false ≡ has_parts x → free ≡ length stack → (t : Term) (rest : List ℕ) → At ws p t rest → Appends out₀ start (rewritten w cut t []) out₂ end₂
      doing_done e h t rest a =
          let n : s.items ≡ [] = nil_from_length s.items (omega (arith, s.room)) in
          append_as _ _ _ _ _ _
          (sym (append-nil (s.written ++ w depth (root s.term)))
          ∙ ap (λ (z : List Item). (s.written ++ w depth (root s.term)) ++ row w z []) (sym n) ∙ says_none (ap has_parts (sym r) ∙ sym e)
          ∙ ap (λ (x : Term). rewritten w cut x []) (at_one ws p s.whole t s.rest rest s.stands a).0)
          (append_then _ _ _ _ _ _ _ _ s.writes q)
