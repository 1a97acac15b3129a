-- The pass that finds the normal-order step: what a frame makes of its state, and its end.
use Rattle.std.proofs.Common.{◌≡◌, ℕ, suc, ◌+◌, ◌*◌, ◌<◌, ◌≤◌, true, ◌⊎◌, List, [], ◌∷◌, ◌++◌, length, Some, None, Option as Maybe, sym, refl, ap, ◌∙◌, subst as tr, inl, inr, arith}
use mathlib.Core.Option.{Option, some, none}
use Rattle.theory.specs.Terms.{Term, var, const, sort, pi, lam, app, size}
use Rattle.theory.specs.Environment.{Env}
use Rattle.theory.specs.Reduction.{or_else, contract, normal_step}
use Rattle.theory.proofs.Options.{map-none, map-some}
use Rattle.theory.proofs.WeakHead.{needs_arg}
use Rattle.terms.specs.Words.{put}
use Rattle.reduction.specs.Stepping.{RedexAt, FindsStep, frame}
use Rattle.terms.proofs.Nodes.{put-length}
use Rattle.reduction.proofs.Finding.{Item, plain, last, orelse, words, within, ans}
use Rattle.reduction.proofs.Passing.{Waiting, Candidate, nodes_to_come, words_long, Pass}

-- A frame comes next: a last argument, or an earlier find.
pub record LastNext (e : Env) (ws pre₀ r : List ℕ) (t : Term) (place : ℕ) (hit : Maybe ℕ) (frames : List ℕ) : Type 0 where
  pub pre : List ℕ
  pub fun : Term
  pub arg : Term
  pub items : List Item
  pub found : Option (List ℕ)
  pub front : List ℕ
  pub n : ℕ
  pub c : ℕ
  pub gs : List ℕ
  pub is : frames ≡ frame 1 c n gs
  pub fronted : length front ≡ c
  pub whole : ws ≡ front ++ put (app fun arg) (words items r)
  pub needs : needs_arg e fun arg ≡ true
  pub reads : ws ≡ pre ++ put arg (words items r)
  pub placed : length pre ≡ place
  pub waits : Waiting e ws r n gs items
  pub candidate : Candidate e ws r hit found
  pub heart : within pre₀ r (normal_step e t) ≡ ans e r pre found (last front fun arg ∷ items)

pub record OrNext (e : Env) (ws pre₀ r : List ℕ) (t : Term) (place : ℕ) (hit : Maybe ℕ) (frames : List ℕ) : Type 0 where
  pub pre : List ℕ
  pub items : List Item
  pub found : Option (List ℕ)
  pub n : ℕ
  pub c : ℕ
  pub gs : List ℕ
  pub xs : List ℕ
  pub is : frames ≡ frame 0 c n gs
  pub redex : RedexAt e ws r c xs
  pub reads : ws ≡ pre ++ words items r
  pub placed : length pre ≡ place
  pub waits : Waiting e ws r n gs items
  pub candidate : Candidate e ws r hit found
  pub heart : within pre₀ r (normal_step e t) ≡ ans e r pre found (orelse (some xs) ∷ items)

pub frame_next : (e : Env) (ws pre₀ r : List ℕ) (t : Term) (place before : ℕ) (hit : Maybe ℕ) (frames : List ℕ) → before ≡ 0 → 0 < length frames → Pass e ws pre₀ r t place before hit frames
    → LastNext e ws pre₀ r t place hit frames ⊎ OrNext e ws pre₀ r t place hit frames
frame_next e ws pre₀ r t place before hit frames b l p = go p.items p.reads p.waits p.heart
  where
    go : (is : List Item) → ws ≡ p.pre ++ words is r → Waiting e ws r before frames is → within pre₀ r (normal_step e t) ≡ ans e r p.pre p.found is
        → LastNext e ws pre₀ r t place hit frames ⊎ OrNext e ws pre₀ r t place hit frames
    go [] x y z = absurd (omega (arith, ap length y.1))
    go (plain s ∷ is) x y z = absurd (omega (arith, y.1))
    go (last q f a ∷ is) x y z =
        inl record {
          pre = p.pre;
          fun = f;
          arg = a;
          items = is;
          found = p.found;
          front = q;
          n = y.0;
          c = y.1;
          gs = y.2;
          is = y.4;
          fronted = y.5;
          whole = y.6;
          needs = y.7;
          reads = x;
          placed = p.placed;
          waits = y.8;
          candidate = p.candidate;
          heart = z;
        }
    go (orelse o ∷ is) x y z =
        inr record {
          pre = p.pre;
          items = is;
          found = p.found;
          n = y.0;
          c = y.1;
          gs = y.2;
          xs = y.3;
          is = y.5;
          redex = y.7;
          reads = x;
          placed = p.placed;
          waits = y.8;
          candidate = p.candidate;
          heart = z ∙ ap (λ u. ans e r p.pre (or_else p.found u) is) y.6;
        }

-- The whole fires: that is found, whatever was before.
pub fires : (e : Env) (ws pre₀ r : List ℕ) (t : Term) (place : ℕ) (hit : Maybe ℕ) (frames : List ℕ) (x : LastNext e ws pre₀ r t place hit frames) (u : Term) → contract e x.fun x.arg ≡ some u
    → Pass e ws pre₀ r t place (suc x.n) (Some x.c) x.gs
fires e ws pre₀ r t place hit frames x u p =
    record {
      pre = x.pre;
      items = plain x.arg ∷ x.items;
      found = some xs;
      reads = x.reads;
      placed = x.placed;
      waits = (x.n, refl, x.waits);
      candidate = (xs, refl, record { before = x.front; rest = words x.items r; redex = app x.fun x.arg; result = u; placed = x.fronted; here = x.whole; steps = p; gives = refl; nodes = nodes_to_come x.items; inner = words_long x.items r });
      heart = x.heart ∙ ap (λ o. ans e r (x.pre ++ put x.arg []) (or_else (within x.front (words x.items r) o) (or_else (within x.pre (words x.items r) (normal_step e x.arg)) x.found)) x.items) p;
    }
  where
    xs : List ℕ
    xs = x.front ++ put u (words x.items r)

-- It does not fire: the last argument comes; what was found before counts again behind it.
or_none : {A : Type 0} (x : Option A) → or_else x none ≡ x
or_none none = refl
or_none (some y) = refl

unfired : (e : Env) (ws pre₀ r : List ℕ) (t : Term) (place : ℕ) (hit : Maybe ℕ) (frames : List ℕ) (x : LastNext e ws pre₀ r t place hit frames) → contract e x.fun x.arg ≡ none
    → within pre₀ r (normal_step e t) ≡ ans e r (x.pre ++ put x.arg []) (or_else (within x.pre (words x.items r) (normal_step e x.arg)) x.found) x.items
unfired e ws pre₀ r t place hit frames x p =
    x.heart ∙ ap (λ o. ans e r (x.pre ++ put x.arg []) (or_else (within x.front (words x.items r) o) (or_else (within x.pre (words x.items r) (normal_step e x.arg)) x.found)) x.items) p

pub stays : (e : Env) (ws pre₀ r : List ℕ) (t : Term) (place : ℕ) (frames : List ℕ) (x : LastNext e ws pre₀ r t place None frames) → contract e x.fun x.arg ≡ none
    → Pass e ws pre₀ r t place (suc x.n) None x.gs
stays e ws pre₀ r t place frames x p =
    record {
      pre = x.pre;
      items = plain x.arg ∷ x.items;
      found = none;
      reads = x.reads;
      placed = x.placed;
      waits = (x.n, refl, x.waits);
      candidate = refl;
      heart = unfired e ws pre₀ r t place None frames x p
          ∙ ap (λ o. ans e r (x.pre ++ put x.arg []) o x.items) (ap (or_else (within x.pre (words x.items r) (normal_step e x.arg))) x.candidate ∙ or_none _);
    }

pub keeps : (e : Env) (ws pre₀ r : List ℕ) (t : Term) (place c : ℕ) (frames : List ℕ) (x : LastNext e ws pre₀ r t place (Some c) frames) → contract e x.fun x.arg ≡ none
    → Pass e ws pre₀ r t place 1 None (frame 0 c x.n x.gs)
keeps e ws pre₀ r t place c frames x p =
    record {
      pre = x.pre;
      items = plain x.arg ∷ orelse x.found ∷ x.items;
      found = none;
      reads = x.reads;
      placed = x.placed;
      waits = (0, refl, (x.n, c, x.gs, x.candidate.0, refl, refl, x.candidate.1, x.candidate.2, x.waits));
      candidate = refl;
      heart = unfired e ws pre₀ r t place (Some c) frames x p;
    }

-- An earlier find counts again, unless something was found since.
pub again_none : (e : Env) (ws pre₀ r : List ℕ) (t : Term) (place : ℕ) (frames : List ℕ) (x : OrNext e ws pre₀ r t place None frames) → Pass e ws pre₀ r t place x.n (Some x.c) x.gs
again_none e ws pre₀ r t place frames x =
    record {
      pre = x.pre;
      items = x.items;
      found = some x.xs;
      reads = x.reads;
      placed = x.placed;
      waits = x.waits;
      candidate = (x.xs, refl, x.redex);
      heart = x.heart ∙ ap (λ o. ans e r x.pre (or_else o (some x.xs)) x.items) x.candidate;
    }

pub again_some : (e : Env) (ws pre₀ r : List ℕ) (t : Term) (place c : ℕ) (frames : List ℕ) (x : OrNext e ws pre₀ r t place (Some c) frames) → Pass e ws pre₀ r t place x.n (Some c) x.gs
again_some e ws pre₀ r t place c frames x =
    record {
      pre = x.pre;
      items = x.items;
      found = x.found;
      reads = x.reads;
      placed = x.placed;
      waits = x.waits;
      candidate = x.candidate;
      heart = x.heart ∙ ap (λ o. ans e r x.pre o x.items) (found_stays _ _ x.candidate.1);
    }
  where
    found_stays : {A : Type 0} (o y : Option A) {z : A} → o ≡ some z → or_else o y ≡ o
    found_stays o y p = rw p

-- The end of the pass: nothing more is to come, or something was found and no frame waits.
settled : (e : Env) (ws r pre : List ℕ) (xs : List ℕ) (m : ℕ) (is : List Item) → Waiting e ws r m [] is → ans e r pre (some xs) is ≡ some xs
settled e ws r pre xs m [] w = refl
settled e ws r pre xs m (plain t ∷ is) w = settled e ws r (pre ++ put t []) xs w.0 is w.2
settled e ws r pre xs m (last q f a ∷ is) w = absurd (omega (arith, ap length w.4))
settled e ws r pre xs m (orelse o ∷ is) w = absurd (omega (arith, ap length w.5))

stepped : (e : Env) (ws pre₀ r xs : List ℕ) (t : Term) (c : ℕ) → within pre₀ r (normal_step e t) ≡ some xs → RedexAt e ws r c xs → FindsStep e ws pre₀ t r (Some c)
stepped e ws pre₀ r xs t c p x =
    map-some (λ u. pre₀ ++ put u r) (normal_step e t) p λ u was is. (u, was, tr (RedexAt e ws r c) (sym is) x)

pub end_found : (e : Env) (ws pre₀ r : List ℕ) (t : Term) (place before c : ℕ) → Pass e ws pre₀ r t place before (Some c) [] → FindsStep e ws pre₀ t r (Some c)
end_found e ws pre₀ r t place before c p =
    stepped e ws pre₀ r p.candidate.0 t c
    (p.heart ∙ (ap (λ o. ans e r p.pre o p.items) p.candidate.1 ∙ settled e ws r p.pre p.candidate.0 before p.items p.waits)) p.candidate.2

pub end_none : (e : Env) (ws pre₀ r : List ℕ) (t : Term) (place before : ℕ) → before ≡ 0 → Pass e ws pre₀ r t place before None [] → FindsStep e ws pre₀ t r None
end_none e ws pre₀ r t place before b p = map-none (λ u. pre₀ ++ put u r) (normal_step e t) (p.heart ∙ (ap (λ o. ans e r p.pre o p.items) p.candidate ∙ go p.items p.waits))
  where
    go : (is : List Item) → Waiting e ws r before [] is → ans e r p.pre none is ≡ none
    go [] w = refl
    go (plain s ∷ is) w = absurd (omega (arith, w.1))
    go (last q f a ∷ is) w = absurd (omega (arith, ap length w.4))
    go (orelse o ∷ is) w = absurd (omega (arith, ap length w.5))

-- There are no more terms before a frame than words to come.
pub few : (e : Env) (ws r : List ℕ) (m : ℕ) (fs : List ℕ) (is : List Item) → Waiting e ws r m fs is → 3 * m + length r ≤ length (words is r)
few e ws r m fs [] w = omega (arith, w.0)
few e ws r m fs (plain t ∷ is) w = omega (arith, w.1, few e ws r w.0 fs is w.2, put-length t (words is r), size_some t)
  where
    size_some : (t : Term) → 1 ≤ size t
    size_some (var x) = omega arith
    size_some (const h) = omega arith
    size_some (sort i) = omega arith
    size_some (pi a b) = omega arith
    size_some (lam a b) = omega arith
    size_some (app f a) = omega arith
few e ws r m fs (last q f a ∷ is) w = omega (arith, w.3, few e ws r w.0 w.2 is w.8, put-length a (words is r))
few e ws r m fs (orelse o ∷ is) w = omega (arith, w.4, few e ws r w.0 w.2 is w.8)
