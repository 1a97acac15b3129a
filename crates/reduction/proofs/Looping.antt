-- The state of the loop that finds the step after each of its turns, and that its measure falls.
use Rattle.std.proofs.Common.{◌≡◌, ℕ, ◌+◌, ◌-◌, ◌<◌, ◌≤◌, Bool, true, false, is_some, refl, ◌∙◌, List, [], ◌++◌, length, drop, Some, None, Option as Maybe, sym, ap, subst as tr, arith, length-drop}
use Rattle.std.proofs.lemmas.List.{drop-drop, drop_all}
use Rattle.theory.specs.Terms.{Term}
use Rattle.theory.proofs.Options.{true-false, false-true}
use Rattle.theory.specs.Environment.{Env}
use Rattle.terms.specs.Words.{put}
use Rattle.reduction.specs.Store.{EnvAt}
use Rattle.reduction.specs.Stepping.{FindsStep, frame, FramePushed}
use Rattle.reduction.proofs.Passing.{Pass}
use Rattle.reduction.proofs.Resuming.{end_found, end_none}
use Rattle.reduction.proofs.Turning.{Passes, State, weight, open_hit}

-- The measure.
abbrev pub left : (heap : List ℕ) (place : ℕ) (stack : List ℕ) (free : ℕ) → Maybe ℕ → ℕ
left heap place stack free hit = (length heap - place) + (weight (drop free stack) + open_hit hit)

pub positive : (stack : List ℕ) (free : ℕ) → free ≤ length stack → (free ≡ length stack → ⊥) → 0 < length (drop free stack)
positive stack free l n = omega (arith, length-drop free stack, below)
  where
    below : free < length stack
    below = omega (arith, n)

-- The same stack; one frame less; one frame more.
pub moved_state : (index store heap : List ℕ) (at place before place' before' : ℕ) (hit hit' : Maybe ℕ) (stack : List ℕ) (free : ℕ) → State index store heap at place before hit stack free → place ≤ place'
    → Passes index store heap at place' before' hit' (drop free stack) → State index store heap at place' before' hit' stack free
moved_state index store heap at place before place' before' hit hit' stack free s l p =
    record { low = omega (arith, s.low); bounded = s.bounded; used = omega (arith, s.used); pass = p }

pub popped_state : (index store heap : List ℕ) (at place before before' : ℕ) (hit hit' : Maybe ℕ) (stack : List ℕ) (free : ℕ) → State index store heap at place before hit stack free → 6 ≤ length (drop free stack)
    → Passes index store heap at place before' hit' (drop 6 (drop free stack)) → State index store heap at place before' hit' stack (free + 6)
popped_state index store heap at place before before' hit hit' stack free s l p =
    record { low = s.low; bounded = omega (arith, length-drop free stack, s.bounded); used = omega (arith, s.used); pass = tr (Passes index store heap at place before' hit') (drop-drop 6 free stack) p }

pub pushed_state : (index store heap : List ℕ) (at place before : ℕ) (hit : Maybe ℕ) (stack stack' : List ℕ) (free top m c n : ℕ) → FramePushed stack free m c n stack' top → length stack' ≡ length stack → free ≤ length stack
    → at ≤ place → length stack + at ≤ top + place → Passes index store heap at place before hit (frame m c n (drop free stack)) → State index store heap at place before hit stack' top
pushed_state index store heap at place before hit stack stack' free top m c n w k b l u p =
    record { low = l; bounded = omega (arith, w.grows); used = omega arith; pass = tr (Passes index store heap at place before hit) (sym w.words) p }

-- The measure falls.
pub less_pop : (heap stack : List ℕ) (place free : ℕ) (hit hit' : Maybe ℕ) (d : ℕ) → weight (drop 6 (drop free stack)) + d ≤ weight (drop free stack) → open_hit hit' < d + open_hit hit
    → left heap place stack (free + 6) hit' < left heap place stack free hit
less_pop heap stack place free hit hit' d w o = omega (arith, ap weight (drop-drop 6 free stack))

pub less_keep : (heap stack stack' : List ℕ) (place free top c n : ℕ) (hit : Maybe ℕ) → weight (drop 6 (drop free stack)) + 3 ≤ weight (drop free stack) → FramePushed stack (free + 6) 0 c n stack' top
    → left heap place stack' top None < left heap place stack free hit
less_keep heap stack stack' place free top c n hit w p = omega (arith, ap weight (drop-drop 6 free stack), ap weight p.words)

pub less_need : (heap stack stack' : List ℕ) (place place' free top c n : ℕ) (hit : Maybe ℕ) → place + 6 ≤ place' → place' ≤ length heap → FramePushed stack free 1 c n stack' top
    → left heap place' stack' top hit < left heap place stack free hit
less_need heap stack stack' place place' free top c n hit l h p = omega (arith, ap weight p.words)

pub less_move : (heap stack : List ℕ) (place place' free : ℕ) (hit : Maybe ℕ) → place < place' → place' ≤ length heap → left heap place' stack free hit < left heap place stack free hit
less_move heap stack place place' free hit l h = omega arith

-- The end of the loop.
pub ends_early : (index store heap : List ℕ) (at place before : ℕ) (hit : Maybe ℕ) (stack : List ℕ) (free c : ℕ) → State index store heap at place before hit stack free → free ≡ length stack → hit ≡ Some c
    → (e : Env) (front rest : List ℕ) (t : Term) → EnvAt index store e → heap ≡ front ++ put t rest → length front ≡ at → FindsStep e heap front t rest hit
ends_early index store heap at place before hit stack free c s f h e front rest t v p q =
    tr (FindsStep e heap front t rest) (sym h)
    (end_found e heap front rest t place before c
    (tr (λ z. Pass e heap front rest t place before z []) h (tr (Pass e heap front rest t place before hit) (drop_all free stack (omega arith)) (s.pass e front rest t v p q))))

pub ends : (index store heap : List ℕ) (at place before : ℕ) (hit : Maybe ℕ) (stack : List ℕ) (free : ℕ) → State index store heap at place before hit stack free → free ≡ length stack → before ≡ 0
    → (e : Env) (front rest : List ℕ) (t : Term) → EnvAt index store e → heap ≡ front ++ put t rest → length front ≡ at → FindsStep e heap front t rest hit
ends index store heap at place before hit stack free s f b e front rest t v p q = go hit (tr (Pass e heap front rest t place before hit) (drop_all free stack (omega arith)) (s.pass e front rest t v p q))
  where
    go : (h : Maybe ℕ) → Pass e heap front rest t place before h [] → FindsStep e heap front t rest h
    go None x = end_none e heap front rest t place before b x
    go (Some c) x = end_found e heap front rest t place before c x

-- There is a find, or there is none.
pub is_closed : (o : Maybe ℕ) (r : Bool) → r ≡ is_some o → r ≡ true → (c : ℕ) × (o ≡ Some c)
is_closed None r p q = false-true (sym p ∙ q)
is_closed (Some c) r p q = (c, refl)

pub is_open : (o : Maybe ℕ) (r : Bool) → r ≡ is_some o → r ≡ false → o ≡ None
is_open None r p q = refl
is_open (Some c) r p q = true-false (sym p ∙ q)
