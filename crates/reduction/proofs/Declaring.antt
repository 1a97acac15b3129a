-- The environment with one entry more.
use Rattle.std.proofs.Common.{◌≡◌, ℕ, suc, ◌+◌, ◌-◌, ◌*◌, ◌/◌, ◌%◌, ◌≤◌, ltb, List, [], ◌∷◌, ◌++◌, length, get_or, take, drop, sym, refl, ap, ◌∙◌, subst as tr, ap₂, arith, length-append, length-drop, ltb-false, ltb-true}
use mathlib.Core.Option.{some}
use lib.ListN.{get_elem?}
use Rattle.std.proofs.lemmas.List.{get_or_append_left, get_or_at, get_or-append-add, drop-append-le, drop_at, length-take-le, take_at, take-take, take-append-drop, drop-take}
use Rattle.theory.specs.Terms.{Term, size}
use Rattle.theory.specs.Environment.{Constructor, Entry, defined, assumed, inductive, Env}
use Rattle.theory.proofs.Options.{none-some, cases_bool}
use Rattle.theory.proofs.Closed.{get_snoc}
use Rattle.terms.specs.Words.{put, puts, number, At, Holds}
use Rattle.terms.specs.Writing.{Appends}
use Rattle.terms.proofs.Nodes.{join, put_append}
use Rattle.terms.proofs.Places.{at_words, at_length}
use Rattle.terms.proofs.Appending.{append_as, append_then, append_keeps, append_stands}
use Rattle.reduction.specs.Store.{put_counts, put_fields, put_entry, place, EntryAt, EnvAt}
use Rattle.reduction.specs.Lookup.{Declared}
use Rattle.reduction.proofs.Storing.{entry_three, get_past}

-- What follows an entry stands behind it.
puts-behind : (ts : List Term) (r s : List ℕ) → puts ts (r ++ s) ≡ puts ts r ++ s
puts-behind [] r s = refl
puts-behind (t ∷ ts) r s = ap (put t) (puts-behind ts r s) ∙ put_append t (puts ts r) s

counts_behind : (cs : List Constructor) (r s : List ℕ) → put_counts cs (r ++ s) ≡ put_counts cs r ++ s
counts_behind [] r s = refl
counts_behind (c ∷ cs) r s = ap (λ (w : List ℕ). length c.fields ∷ c.recs ∷ w) (counts_behind cs r s)

fields_behind : (cs : List Constructor) (r s : List ℕ) → put_fields cs (r ++ s) ≡ put_fields cs r ++ s
fields_behind [] r s = refl
fields_behind (c ∷ cs) r s = ap (puts c.fields) (fields_behind cs r s) ∙ puts-behind c.fields (put_fields cs r) s

pub entry_behind : (d : Entry) (r s : List ℕ) → put_entry d (r ++ s) ≡ put_entry d r ++ s
entry_behind (defined t a) r s = ap (λ (w : List ℕ). 0 ∷ (3 * size a) % 4294967296 ∷ (3 * size a) / 4294967296 ∷ w) (ap (put a) (put_append t r s) ∙ put_append a (put t r) s)
entry_behind (assumed a) r s = ap (λ (w : List ℕ). 1 ∷ 0 ∷ 0 ∷ w) (put_append a r s)
entry_behind (inductive k) r s =
    ap (λ (w : List ℕ). 2 ∷ length k.params ∷ k.level ∷ length k.cons ∷ w)
    (ap (put_counts k.cons) (ap (puts k.params) (fields_behind k.cons r s) ∙ puts-behind k.params (put_fields k.cons r) s)
    ∙ counts_behind k.cons (puts k.params (put_fields k.cons r)) s)

-- An old entry stands where it stood.
old_entry : (store new : List ℕ) (p : ℕ) (d : Entry) → EntryAt store p d → EntryAt (store ++ new) p d
old_entry store new p d x =
    record {
      rest = x.rest ++ new;
      stands =
          drop-append-le p store new (omega (arith, (entry_three store p d x).within)) ∙ (ap (λ (w : List ℕ). w ++ new) x.stands ∙ sym (entry_behind d x.rest new));
    }

-- The environment stands in a longer store.
pub env_longer : (index store : List ℕ) (used : ℕ) (e : Env) → EnvAt index (take used store) e → EnvAt index store e
env_longer index store used e v =
    record {
      counted = v.counted;
      entries = λ i d q. tr (λ (s : List ℕ). EntryAt s (place index i) d) (take-append-drop used store) (old_entry (take used store) (drop used store) (place index i) d (v.entries i d q));
    }

old_place : (index new : List ℕ) (i : ℕ) → 2 * i + 2 ≤ length index → place (index ++ new) i ≡ place index i
old_place index new i l = ap₂ (λ u v. u + 4294967296 * v) (get_or_append_left index new 0 (2 * i) (omega arith)) (get_or_append_left index new 0 (2 * i + 1) (omega arith))

-- The new one stands at the end.
new_place : (index : List ℕ) (p i : ℕ) → length index ≡ 2 * i → place (index ++ number p []) i ≡ p
new_place index p i l =
    ap₂ (λ u v. u + 4294967296 * v) (get_or_at index (p % 4294967296) (p / 4294967296 ∷ []) 0 (2 * i) l)
    (ap (λ k. get_or (index ++ number p []) k 0) (let z : 2 * i + 1 ≡ length index + 1 = omega arith in z) ∙ get_or-append-add index (number p []) 1 0)
    ∙ join p

length_snoc : {A : Type 0} (xs : List A) (y : A) → length (xs ++ (y ∷ [])) ≡ suc (length xs)
length_snoc xs y = length-append xs (y ∷ []) ∙ omega arith

pub env_snoc : (index store : List ℕ) (e : Env) (d : Entry) (p : ℕ) → EnvAt index store e → length store ≡ p → EnvAt (index ++ number p []) (store ++ put_entry d []) (e ++ (d ∷ []))
env_snoc index store e d p v l =
    record { counted = omega (arith, length-append index (number p []), length_snoc e d, v.counted); entries = entries }
  where
    old_number : (i : ℕ) (x : Entry) → get_elem? e i ≡ some x → 2 * i + 2 ≤ length index
    old_number i x q = cases_bool (ltb i (length e)) (λ z. omega (arith, ltb-true i (length e) z, v.counted)) (λ z. none-some (sym (get_past e i (ltb-false i (length e) z)) ∙ q))

    entries : (i : ℕ) (x : Entry) → get_elem? (e ++ (d ∷ [])) i ≡ some x → EntryAt (store ++ put_entry d []) (place (index ++ number p []) i) x
    entries i x q = get_snoc e d i q
        (λ r. tr (λ k. EntryAt (store ++ put_entry d []) k x) (sym (old_place index (number p []) i (old_number i x r))) (old_entry store (put_entry d []) (place index i) x (v.entries i x r)))
        (λ r s. tr (λ k. EntryAt (store ++ put_entry d []) k x) (sym (new_place index p i (omega (arith, v.counted))))
        (tr (λ z. EntryAt (store ++ put_entry d []) p z) s (record { rest = []; stands = drop_at store (put_entry d []) p l })))

-- After writing behind the table and the store.
pub declared : (index store index' store' : List ℕ) (count used e' end : ℕ) (d : Entry) → used ≤ length store
    → Appends index (2 * count) (number used []) index' e' → Appends store used (put_entry d []) store' end
    → (e : Env) → EnvAt (take (2 * count) index) (take used store) e → EnvAt (take (2 * (count + 1)) index') (take end store') (e ++ (d ∷ []))
declared index store index' store' count used e' end d l p q e v =
    tr (λ w. EnvAt w (take end store') (e ++ (d ∷ []))) (sym p.words ∙ ap (λ k. take k index') (let z : e' ≡ 2 * (count + 1) = omega (arith, p.ends) in z))
    (tr (λ w. EnvAt (take (2 * count) index ++ number used []) w (e ++ (d ∷ []))) (sym q.words)
    (env_snoc (take (2 * count) index) (take used store) e d used v (length-take-le used store l)))

-- The words of a definition and of an axiom, piece by piece.
words_of : (ws : List ℕ) (p q : ℕ) (t : Term) (r : List ℕ) → At ws p t r → q ≡ p + 3 * size t → drop p (take q ws) ≡ put t []
words_of ws p q t r a e = ap (λ k. drop p (take k ws)) e ∙ at_words ws p t r a

-- A term ends within the words.
pub end_within : (ws : List ℕ) (p q : ℕ) (h : Holds ws p) → ((t : Term) (rest : List ℕ) → At ws p t rest → q ≡ p + 3 * size t) → q ≤ length ws
end_within ws p q h k = omega (arith, k h.term h.rest h.at, at_length ws p h.term h.rest h.at)

-- The words of a type and a body, copied one behind the other.
pub copied_two : (o s₁ s₂ ws : List ℕ) (l m n : ℕ) (a t : Term) (x y : List ℕ) (p q p' q' : ℕ) → Appends o l (drop p (take q ws)) s₁ m → Appends s₁ m (drop p' (take q' ws)) s₂ n
    → At ws p a x → At ws p' t y → q ≡ p + 3 * size a → q' ≡ p' + 3 * size t → Appends o l (put a (put t [])) s₂ n
copied_two o s₁ s₂ ws l m n a t x y p q p' q' f g u v i j =
    append_as o s₂ l n _ _ (sym (put_append a [] (put t [])))
    (append_then o s₁ s₂ l m n (put a []) (put t []) (append_as o s₁ l m _ _ (words_of ws p q a x u i) f) (append_as s₁ s₂ m n _ _ (words_of ws p' q' t y v j) g))

pub copied_one : (o s₁ ws : List ℕ) (l m : ℕ) (a : Term) (x : List ℕ) (p q : ℕ) → Appends o l (drop p (take q ws)) s₁ m → At ws p a x → q ≡ p + 3 * size a → Appends o l (put a []) s₁ m
copied_one o s₁ ws l m a x p q f u i = append_as o s₁ l m _ _ (words_of ws p q a x u i) f

-- What was copied behind three words is entered with them.
pub entered_copy : (index store s index' store' : List ℕ) (count used end : ℕ) (d : Entry) (new : List ℕ) → used + 3 ≤ length store → Appends store (used + 3) new s end
    → Declared index s count used index' store' d new → (e : Env) → EnvAt (take (2 * count) index) (take used store) e → EnvAt (take (2 * (count + 1)) index') (take end store') (e ++ (d ∷ []))
entered_copy index store s index' store' count used end d new h a f e v =
    f e end (tr (λ w. EnvAt (take (2 * count) index) w e) (sym (append_keeps store s (used + 3) end used new (omega arith) h a)) v)
    (record { ends = a.ends; words = a.words ∙ ap (λ w. w ++ new) (sym (append_keeps store s (used + 3) end (used + 3) new (omega arith) h a)) })

-- Words put before others that stand there.
pub marked : (s s' : List ℕ) (used m end : ℕ) (head new : List ℕ) → Appends s used head s' m → drop m s' ≡ drop m s → m ≤ length s → Appends s m new s end → Appends s used (head ++ new) s' end
marked s s' used m end head new f k h p =
    append_then s s' s' used m end head new f
    (record {
      ends = p.ends;
      words =
          ap (λ n. take n s') p.ends ∙ take_plus m (length new) s'
          ∙ ap (λ (w : List ℕ). take m s' ++ take (length new) w) (k ∙ append_stands s s m end new h p)
          ∙ ap (λ (w : List ℕ). take m s' ++ w) (take_at new (drop end s) (length new) refl);
    })
  where
    take_plus : (m n : ℕ) (xs : List ℕ) → take (m + n) xs ≡ take m xs ++ take n (drop m xs)
    take_plus m n xs = sym (take-append-drop m (take (m + n) xs)) ∙ ap₂ ◌++◌ (take-take m (m + n) xs (omega arith)) (drop-take m n xs)

pub copied_long : (ws : List ℕ) (p q : ℕ) → p ≤ q → q ≤ length ws → length (drop p (take q ws)) ≡ q - p
copied_long ws p q l h = length-drop p (take q ws) ∙ ap (λ k. k - p) (length-take-le q ws h)
