-- The pass that finds the normal-order step: its state, and what one turn makes of it.
use Rattle.std.proofs.Common.{◌≡◌, ℕ, zero, suc, ◌+◌, ◌*◌, ◌≤◌, true, List, [], ◌∷◌, ◌++◌, length, Some, None, Option as Maybe, sym, refl, ap, ◌∙◌, subst as tr, ap₂, append_assoc, arith, length-append}
use mathlib.Core.Option.{Option, some, none}
use Rattle.theory.specs.Terms.{Term, var, const, sort, pi, lam, app, size}
use Rattle.theory.specs.Environment.{Env}
use Rattle.theory.specs.Reduction.{or_else, normal_step}
use Rattle.theory.proofs.Options.{none-some}
use Rattle.theory.proofs.WeakHead.{needs_arg}
use Rattle.terms.specs.Words.{put}
use Rattle.reduction.specs.Spines.{uses, top_step, strip, CalmTo}
use Rattle.reduction.specs.Stepping.{RedexAt, frame}
use Rattle.terms.proofs.Nodes.{put-length}
use Rattle.reduction.proofs.Putting.{behind}
use Rattle.reduction.proofs.Finding.{Item, plain, last, orelse, words, within, ans, node, expand_pi, expand_lam, expand_need}
use Rattle.reduction.proofs.Spreading.{twos, length_twos, others, unwind, unwind_words, hit_below}

-- The first m items are terms, and the frames say what the others are.
abbrev pub Waiting : Env → List ℕ → List ℕ → ℕ → List ℕ → List Item → Type 0
Waiting e ws r m fs [] = (m ≡ 0) × (fs ≡ [])
Waiting e ws r m fs (plain t ∷ is) = (n : ℕ) × (m ≡ suc n) × Waiting e ws r n fs is
Waiting e ws r m fs (last q f a ∷ is) =
    (n c : ℕ) × (gs : List ℕ) × (m ≡ 0) × (fs ≡ frame 1 c n gs) × (length q ≡ c) × (ws ≡ q ++ put (app f a) (words is r)) × (needs_arg e f a ≡ true) × Waiting e ws r n gs is
Waiting e ws r m fs (orelse o ∷ is) =
    (n c : ℕ) × (gs xs : List ℕ) × (m ≡ 0) × (fs ≡ frame 0 c n gs) × (o ≡ some xs) × RedexAt e ws r c xs × Waiting e ws r n gs is

-- What was found so far.
abbrev pub Candidate : Env → List ℕ → List ℕ → Maybe ℕ → Option (List ℕ) → Type 0
Candidate e ws r None o = o ≡ none
Candidate e ws r (Some c) o = (xs : List ℕ) × (o ≡ some xs) × RedexAt e ws r c xs

-- What is to come, before what stands behind all, are whole nodes.
abbrev pub nodes_to_come : List Item → ℕ
nodes_to_come [] = 0
nodes_to_come (plain t ∷ is) = size t + nodes_to_come is
nodes_to_come (last q f a ∷ is) = size a + nodes_to_come is
nodes_to_come (orelse o ∷ is) = nodes_to_come is

pub words_long : (is : List Item) (r : List ℕ) → length (words is r) ≡ 3 * nodes_to_come is + length r
words_long [] r = omega arith
words_long (plain t ∷ is) r = omega (arith, words_long is r, put-length t (words is r))
words_long (last q f a ∷ is) r = omega (arith, words_long is r, put-length a (words is r))
words_long (orelse o ∷ is) r = words_long is r

-- The state of the pass over t, which stands between the words pre₀ and r: at a place, so many terms before the next frame.
pub record Pass (e : Env) (ws pre₀ r : List ℕ) (t : Term) (place before : ℕ) (hit : Maybe ℕ) (frames : List ℕ) : Type 0 where
  pub pre : List ℕ
  pub items : List Item
  pub found : Option (List ℕ)
  pub reads : ws ≡ pre ++ words items r
  pub placed : length pre ≡ place
  pub waits : Waiting e ws r before frames items
  pub candidate : Candidate e ws r hit found
  pub heart : within pre₀ r (normal_step e t) ≡ ans e r pre found items

pub start : (e : Env) (ws pre₀ r : List ℕ) (t : Term) (at : ℕ) → ws ≡ pre₀ ++ put t r → length pre₀ ≡ at → Pass e ws pre₀ r t at 1 None []
start e ws pre₀ r t at p q =
    record { pre = pre₀; items = plain t ∷ []; found = none; reads = p; placed = q; waits = (0, refl, (refl, refl)); candidate = refl; heart = refl }

-- A term comes next.
pub record Next (e : Env) (ws pre₀ r : List ℕ) (t : Term) (place n : ℕ) (hit : Maybe ℕ) (frames : List ℕ) : Type 0 where
  pub pre : List ℕ
  pub term : Term
  pub items : List Item
  pub found : Option (List ℕ)
  pub reads : ws ≡ pre ++ put term (words items r)
  pub placed : length pre ≡ place
  pub waits : Waiting e ws r n frames items
  pub candidate : Candidate e ws r hit found
  pub heart : within pre₀ r (normal_step e t) ≡ ans e r pre found (plain term ∷ items)

pub next : (e : Env) (ws pre₀ r : List ℕ) (t : Term) (place before n : ℕ) (hit : Maybe ℕ) (frames : List ℕ) → before ≡ suc n → Pass e ws pre₀ r t place before hit frames → Next e ws pre₀ r t place n hit frames
next e ws pre₀ r t place before n hit frames b p = go p.items p.reads p.waits p.heart
  where
    go : (is : List Item) → ws ≡ p.pre ++ words is r → Waiting e ws r before frames is → within pre₀ r (normal_step e t) ≡ ans e r p.pre p.found is → Next e ws pre₀ r t place n hit frames
    go [] x y z = absurd (omega (arith, y.0))
    go (plain s ∷ is) x y z =
        record {
          pre = p.pre;
          term = s;
          items = is;
          found = p.found;
          reads = x;
          placed = p.placed;
          waits = tr (λ k. Waiting e ws r k frames is) (let q : y.0 ≡ n = omega (arith, y.1) in q) y.2;
          candidate = p.candidate;
          heart = z;
        }
    go (last q f a ∷ is) x y z = absurd (omega (arith, y.3))
    go (orelse o ∷ is) x y z = absurd (omega (arith, y.4))

-- The words before and behind a term that is passed by.
passed : (ws pre : List ℕ) (s : Term) (x : List ℕ) → ws ≡ pre ++ put s x → ws ≡ (pre ++ put s []) ++ x
passed ws pre s x p = p ∙ behind pre s x

length_passed : (pre : List ℕ) (s : Term) (place : ℕ) → length pre ≡ place → length (pre ++ put s []) ≡ place + 3 * size s
length_passed pre s place p = omega (arith, length-append pre (put s []), put-length s [])

-- A term without a step is passed by; and any term once something was found.
pub by_normal : (e : Env) (ws pre₀ r : List ℕ) (t : Term) (place n : ℕ) (frames : List ℕ) (x : Next e ws pre₀ r t place n None frames) → normal_step e x.term ≡ none
    → Pass e ws pre₀ r t (place + 3 * size x.term) n None frames
by_normal e ws pre₀ r t place n frames x p =
    record {
      pre = x.pre ++ put x.term [];
      items = x.items;
      found = none;
      reads = passed ws x.pre x.term _ x.reads;
      placed = length_passed x.pre x.term place x.placed;
      waits = x.waits;
      candidate = refl;
      heart = x.heart ∙ ap (λ o. ans e r (x.pre ++ put x.term []) o x.items) (ap₂ or_else x.candidate (ap (within x.pre (words x.items r)) p));
    }

pub by_found : (e : Env) (ws pre₀ r : List ℕ) (t : Term) (place n c : ℕ) (frames : List ℕ) (x : Next e ws pre₀ r t place n (Some c) frames)
    → Pass e ws pre₀ r t (place + 3 * size x.term) n (Some c) frames
by_found e ws pre₀ r t place n c frames x =
    record {
      pre = x.pre ++ put x.term [];
      items = x.items;
      found = x.found;
      reads = passed ws x.pre x.term _ x.reads;
      placed = length_passed x.pre x.term place x.placed;
      waits = x.waits;
      candidate = x.candidate;
      heart = x.heart ∙ ap (λ o. ans e r (x.pre ++ put x.term []) o x.items) (found_stays _ _ x.candidate.1);
    }
  where
    found_stays : {A : Type 0} (o y : Option A) {z : A} → o ≡ some z → or_else o y ≡ o
    found_stays o y p = rw p

-- Its parts come.
nodes : (ws pre x : List ℕ) (w : ℕ) → ws ≡ pre ++ (w ∷ 0 ∷ 0 ∷ x) → ws ≡ (pre ++ node w) ++ x
nodes ws pre x w p = p ∙ sym (append_assoc pre (node w) x)

length_node : (pre : List ℕ) (w place : ℕ) → length pre ≡ place → length (pre ++ node w) ≡ place + 3
length_node pre w place p = omega (arith, length-append pre (node w))

at_none : (e : Env) (r pre : List ℕ) (is : List Item) (o : Option (List ℕ)) → o ≡ none → ans e r pre o is ≡ ans e r pre none is
at_none e r pre is o p = ap (λ z. ans e r pre z is) p

pub in_pi : (e : Env) (ws pre₀ r : List ℕ) (t : Term) (place n : ℕ) (frames : List ℕ) (x : Next e ws pre₀ r t place n None frames) (a b : Term) → x.term ≡ pi a b
    → Pass e ws pre₀ r t (place + 3) (suc (suc n)) None frames
in_pi e ws pre₀ r t place n frames x a b p =
    record {
      pre = x.pre ++ node 0;
      items = plain a ∷ plain b ∷ x.items;
      found = none;
      reads = nodes ws x.pre _ 0 (x.reads ∙ ap (λ s. x.pre ++ put s (words x.items r)) p);
      placed = length_node x.pre 0 place x.placed;
      waits = (suc n, refl, (n, refl, x.waits));
      candidate = refl;
      heart = x.heart ∙ (at_none e r x.pre (plain x.term ∷ x.items) x.found x.candidate ∙ (ap (λ s. ans e r x.pre none (plain s ∷ x.items)) p ∙ expand_pi e r x.pre a b x.items));
    }

pub in_lam : (e : Env) (ws pre₀ r : List ℕ) (t : Term) (place n : ℕ) (frames : List ℕ) (x : Next e ws pre₀ r t place n None frames) (a b : Term) → x.term ≡ lam a b
    → Pass e ws pre₀ r t (place + 3) (suc (suc n)) None frames
in_lam e ws pre₀ r t place n frames x a b p =
    record {
      pre = x.pre ++ node 1;
      items = plain a ∷ plain b ∷ x.items;
      found = none;
      reads = nodes ws x.pre _ 1 (x.reads ∙ ap (λ s. x.pre ++ put s (words x.items r)) p);
      placed = length_node x.pre 1 place x.placed;
      waits = (suc n, refl, (n, refl, x.waits));
      candidate = refl;
      heart = x.heart ∙ (at_none e r x.pre (plain x.term ∷ x.items) x.found x.candidate ∙ (ap (λ s. ans e r x.pre none (plain s ∷ x.items)) p ∙ expand_lam e r x.pre a b x.items));
    }

-- A redex is found below k calm applications.
top_normal : (e : Env) (s : Term) {u : Term} → top_step e s ≡ some u → normal_step e s ≡ some u
top_normal e (var x) p = none-some p
top_normal e (const h) p = p
top_normal e (sort i) p = none-some p
top_normal e (pi a b) p = none-some p
top_normal e (lam a b) p = none-some p
top_normal e (app f a) p = rw p

below : (ws pre x : List ℕ) (r : List ℕ) (k : ℕ) (s : Term) (is : List Item) → k ≤ uses s → ws ≡ pre ++ put s (words is r) → ws ≡ (pre ++ twos k) ++ put (strip k s) (words (others k s is) r)
below ws pre x r k s is l p = p ∙ (ap (λ z. pre ++ z) (unwind_words r k s is l) ∙ sym (append_assoc pre (twos k) _))

length_below : (pre : List ℕ) (k place : ℕ) → length pre ≡ place → length (pre ++ twos k) ≡ place + 3 * k
length_below pre k place p = omega (arith, length-append pre (twos k), length_twos k)

pub hit_at : (e : Env) (ws pre₀ r : List ℕ) (t : Term) (place n : ℕ) (frames : List ℕ) (x : Next e ws pre₀ r t place n None frames) (k : ℕ) (u : Term)
    → k ≤ uses x.term → CalmTo e k x.term → top_step e (strip k x.term) ≡ some u → Pass e ws pre₀ r t place (suc n) (Some (place + 3 * k)) frames
hit_at e ws pre₀ r t place n frames x k u l c p =
    record {
      pre = x.pre;
      items = plain x.term ∷ x.items;
      found = some xs;
      reads = x.reads;
      placed = x.placed;
      waits = (n, refl, x.waits);
      candidate = (xs, refl, redex);
      heart = x.heart ∙ ap (λ o. ans e r (x.pre ++ put x.term []) o x.items) (ap₂ or_else x.candidate value);
    }
  where
    xs : List ℕ
    xs = (x.pre ++ twos k) ++ put u (words (others k x.term x.items) r)

    value : within x.pre (words x.items r) (normal_step e x.term) ≡ some xs
    value = hit_below e r x.pre k x.term x.items l c (ap (within (x.pre ++ twos k) (words (others k x.term x.items) r)) (top_normal e (strip k x.term) p))

    redex : RedexAt e ws r (place + 3 * k) xs
    redex = record {
      before = x.pre ++ twos k;
      rest = words (others k x.term x.items) r;
      redex = strip k x.term;
      result = u;
      placed = length_below x.pre k place x.placed;
      here = below ws x.pre [] r k x.term x.items l x.reads;
      steps = p;
      gives = refl;
      nodes = nodes_to_come (others k x.term x.items);
      inner = words_long (others k x.term x.items) r;
    }

-- A spine comes, its head first.
others_wait : (e : Env) (ws r : List ℕ) (k : ℕ) (s : Term) (is : List Item) (n : ℕ) (fs : List ℕ) → k ≤ uses s → Waiting e ws r n fs is → (m : ℕ) → m ≡ n + k → Waiting e ws r m fs (others k s is)
others_wait e ws r zero s is n fs l w m q = tr (λ z. Waiting e ws r z fs is) (let z : n ≡ m = omega arith in z) w
others_wait e ws r (suc k) (var x) is n fs l w m q = absurd (omega arith)
others_wait e ws r (suc k) (const h) is n fs l w m q = absurd (omega arith)
others_wait e ws r (suc k) (sort i) is n fs l w m q = absurd (omega arith)
others_wait e ws r (suc k) (pi a b) is n fs l w m q = absurd (omega arith)
others_wait e ws r (suc k) (lam a b) is n fs l w m q = absurd (omega arith)
others_wait e ws r (suc k) (app f a) is n fs l w m q = others_wait e ws r k f (plain a ∷ is) (suc n) fs (omega arith) (n, refl, w) m (omega arith)

pub spread : (e : Env) (ws pre₀ r : List ℕ) (t : Term) (place n : ℕ) (frames : List ℕ) (x : Next e ws pre₀ r t place n None frames) (k : ℕ)
    → k ≤ uses x.term → CalmTo e k x.term → Pass e ws pre₀ r t (place + 3 * k) (suc (n + k)) None frames
spread e ws pre₀ r t place n frames x k l c =
    record {
      pre = x.pre ++ twos k;
      items = plain (strip k x.term) ∷ others k x.term x.items;
      found = none;
      reads = below ws x.pre [] r k x.term x.items l x.reads;
      placed = length_below x.pre k place x.placed;
      waits = (n + k, refl, others_wait e ws r k x.term x.items n frames l x.waits (n + k) refl);
      candidate = refl;
      heart = x.heart ∙ (at_none e r x.pre (plain x.term ∷ x.items) x.found x.candidate ∙ unwind e r x.pre k x.term x.items l c);
    }

-- A spine comes whose head has to look at its last argument: the arguments before it, and a frame for the last one.
pub need : (e : Env) (ws pre₀ r : List ℕ) (t : Term) (place n : ℕ) (frames : List ℕ) (x : Next e ws pre₀ r t place n None frames) (k j : ℕ) (f a : Term)
    → k ≤ uses x.term → CalmTo e k x.term → strip k x.term ≡ app f a → needs_arg e f a ≡ true → j ≤ uses f → CalmTo e j f
    → Pass e ws pre₀ r t (place + 3 * k + 3 + 3 * j) (suc j) None (frame 1 (place + 3 * k) (n + k) frames)
need e ws pre₀ r t place n frames x k j f a l c is nd l' c' =
    record {
      pre = (pre₁ ++ node 2) ++ twos j;
      items = plain (strip j f) ∷ others j f (last pre₁ f a ∷ rest);
      found = none;
      reads = below ws (pre₁ ++ node 2) [] r j f (last pre₁ f a ∷ rest) l' (nodes ws pre₁ _ 2 here);
      placed = length_below (pre₁ ++ node 2) j (place + 3 * k + 3) (length_node pre₁ 2 (place + 3 * k) (length_below x.pre k place x.placed));
      waits = (
        j,
        refl,
        others_wait e ws r j f (last pre₁ f a ∷ rest) 0 _ l'
            (n + k, place + 3 * k, frames, refl, refl, length_below x.pre k place x.placed, here, nd, others_wait e ws r k x.term x.items n frames l x.waits (n + k) refl) j (omega arith),
      );
      candidate = refl;
      heart = x.heart ∙ (at_none e r x.pre (plain x.term ∷ x.items) x.found x.candidate ∙ (unwind e r x.pre k x.term x.items l c
          ∙ (ap (λ s. ans e r pre₁ none (plain s ∷ rest)) is ∙ (expand_need e r pre₁ f a rest nd ∙ unwind e r (pre₁ ++ node 2) j f (last pre₁ f a ∷ rest) l' c'))));
    }
  where
    pre₁ : List ℕ
    pre₁ = x.pre ++ twos k

    rest : List Item
    rest = others k x.term x.items

    here : ws ≡ pre₁ ++ put (app f a) (words rest r)
    here = below ws x.pre [] r k x.term x.items l x.reads ∙ ap (λ s. pre₁ ++ put s (words rest r)) is
