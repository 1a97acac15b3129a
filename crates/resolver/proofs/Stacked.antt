-- Frames on a stack: pushed, passed over, taken up.
use Rattle.std.proofs.Common.{◌≡◌, ℕ, suc, ◌+◌, ◌-◌, ◌*◌, ◌<◌, ◌≤◌, Bool, true, false, cond, not, eqb, ltb, List, [], ◌∷◌, ◌++◌, length, get_or, take, drop, set, Option, Some, None, Bor, sym, refl, ap, ap₂, ◌∙◌, subst as tr, arith}
use Rattle.std.proofs.lemmas.List.{drop-drop, drop-set, drop-set-add, drop_more}
use Rattle.std.specs.Slice.Iter.{chunks_exact_steps}
use Rattle.std.specs.List.{position_or_len}
use Rattle.std.specs.declared.slice.ChunksExact.{ChunksExact}
use Rattle.std.proofs.lemmas.Bool.Decides.{nat_tests}
use Rattle.std.proofs.lemmas.Iterator.{YieldsList}
use Rattle.std.proofs.lemmas.Iterator.Splits.{YieldsList-from_shown_while}
use denote.Enum.Declared.{tag_of}
use Rattle.resolver.specs.contracts.walk.FrameKind.{the_type}
use Rattle.resolver.specs.declared.walk.FrameKind.{FrameKind}
use Rattle.resolver.specs.declared.walk.FrameKind.TheVariants.{Argument, Body, Bound}
use Rattle.resolver.specs.Frames.{Frame, waits, body, under, put_frames, opened, entered, FramesAt, PushesTwo, kind_word}
use Rattle.resolver.proofs.Naming.{read_first}

pub pushed_two : (s : List ℕ) (free v w : ℕ) → 2 ≤ free → free ≤ length s → PushesTwo s free v w (set (set s (free - 2) v) (free - 1) w) (free - 2)
pushed_two s free v w h k = record {
  grows = omega arith;
  words =
      ap (λ (j : ℕ). drop (free - 2) (set (set s (free - 2) v) j w)) (let z : free - 1 ≡ free - 2 + 1 = omega arith in z)
      ∙ drop-set-add (free - 2) (set s (free - 2) v) 1 w
      ∙ ap (λ (z : List ℕ). set z 1 w) (drop-set s (free - 2) v (omega arith) ∙ ap (λ (z : List ℕ). v ∷ z) (drop_more s (free - 2 + 1) 0 (omega arith)))
      ∙ ap (λ (j : ℕ). v ∷ w ∷ drop j s) (let z : free - 2 + 1 + 1 ≡ free = omega arith in z);
}

-- The word of a kind of frame is its place among the kinds.
pub frame_tag : (k : FrameKind) → tag_of the_type k ≡ kind_word k
frame_tag Argument = refl
frame_tag Body = refl
frame_tag Bound = refl

twice : (n : ℕ) → 2 * suc n ≡ suc (suc (2 * n))
twice n = omega arith

tail_two : (stack : List ℕ) (place v w : ℕ) (ws : List ℕ) → drop place stack ≡ v ∷ w ∷ ws → drop (place + 2) stack ≡ ws
tail_two stack place v w ws e = sym (drop-drop 2 place stack) ∙ ap (drop 2) e

-- The words two by two.
abbrev pub pairs : List ℕ → List (List ℕ)
pairs [] = []
pairs (k ∷ []) = []
pairs (k ∷ p ∷ ws) = (k ∷ p ∷ []) ∷ pairs ws

pairs_none : (ws : List ℕ) → length ws < 2 → length (pairs ws) ≡ 0
pairs_none [] h = refl
pairs_none (k ∷ []) h = refl
pairs_none (k ∷ p ∷ ws) h = absurd (let z : ⊥ = omega arith in z)

pairs_more : (f ws : List ℕ) → length f ≡ 2 → pairs (f ++ ws) ≡ f ∷ pairs ws
pairs_more [] ws l = absurd (let z : ⊥ = omega arith in z)
pairs_more (k ∷ []) ws l = absurd (let z : ⊥ = omega arith in z)
pairs_more (k ∷ p ∷ []) ws l = refl
pairs_more (k ∷ p ∷ q ∷ r) ws l = absurd (let z : ⊥ = omega arith in z)

-- What an iterator over them gives.
pub pairs_yield : (s : ChunksExact ℕ) → s.size ≡ 2 → YieldsList chunks_exact_steps (λ x. x.now) s (pairs s.rest.now)
pairs_yield s e = YieldsList-from_shown_while chunks_exact_steps (λ x. x.now) (λ (t : ChunksExact ℕ). pairs t.rest.now) (λ (t : ChunksExact ℕ). t.size ≡ 2) none some s e
  where
    none : (s t : ChunksExact ℕ) → s.size ≡ 2 → chunks_exact_steps s None t → length (pairs s.rest.now) ≡ 0
    none s t e h = pairs_none s.rest.now (omega (arith, h.1.0, e))

    some : (s : ChunksExact ℕ) (x : Bor (List ℕ)) (t : ChunksExact ℕ) → s.size ≡ 2 → chunks_exact_steps s (Some x) t → (t.size ≡ 2) × (pairs s.rest.now ≡ x.now ∷ pairs t.rest.now)
    some s x t e h = (h.0 ∙ e, ap pairs h.1.0 ∙ pairs_more x.now t.rest.now (h.1.1 ∙ e))

-- Is it a frame that waits?
abbrev pub waiting : List ℕ → Bool
waiting f = not (eqb (get_or f 0 0) 2)

-- The frames before the first that waits.
abbrev bound_count : List Frame → ℕ
bound_count [] = 0
bound_count (waits p a ∷ fs) = 0
bound_count (body p x b ∷ fs) = 0
bound_count (under p x ∷ fs) = 1 + bound_count fs

own_words : (fs : List Frame) (r : List ℕ) → take (2 * length fs) (put_frames fs r) ≡ put_frames fs []
own_words [] r = refl
own_words (waits p a ∷ fs) r = ap (λ (k : ℕ). take k (put_frames (waits p a ∷ fs) r)) (twice (length fs)) ∙ ap (λ (z : List ℕ). 0 ∷ p ∷ z) (own_words fs r)
own_words (body p x b ∷ fs) r = ap (λ (k : ℕ). take k (put_frames (body p x b ∷ fs) r)) (twice (length fs)) ∙ ap (λ (z : List ℕ). 1 ∷ p ∷ z) (own_words fs r)
own_words (under p x ∷ fs) r = ap (λ (k : ℕ). take k (put_frames (under p x ∷ fs) r)) (twice (length fs)) ∙ ap (λ (z : List ℕ). 2 ∷ p ∷ z) (own_words fs r)

count_pairs : (fs : List Frame) → length (pairs (put_frames fs [])) ≡ length fs
count_pairs [] = refl
count_pairs (waits p a ∷ fs) = ap suc (count_pairs fs)
count_pairs (body p x b ∷ fs) = ap suc (count_pairs fs)
count_pairs (under p x ∷ fs) = ap suc (count_pairs fs)

first_waiting : (fs : List Frame) → position_or_len waiting (pairs (put_frames fs [])) ≡ bound_count fs
first_waiting [] = refl
first_waiting (waits p a ∷ fs) = refl
first_waiting (body p x b ∷ fs) = refl
first_waiting (under p x ∷ fs) = ap (λ (k : ℕ). 1 + k) (first_waiting fs)

bound_few : (fs : List Frame) → bound_count fs ≤ length fs
bound_few [] = omega arith
bound_few (waits p a ∷ fs) = omega arith
bound_few (body p x b ∷ fs) = omega arith
bound_few (under p x ∷ fs) = omega (arith, bound_few fs)

open_at : {stack : List ℕ} {top : ℕ} {base : List ℕ} (fs : List Frame) (free : ℕ) → FramesAt stack free top fs base → FramesAt stack (free + 2 * bound_count fs) top (opened fs) base
open_at {stack} {top} {base} [] free a = tr (λ (k : ℕ). FramesAt stack k top [] base) (let z : free ≡ free + 2 * 0 = omega arith in z) a
open_at {stack} {top} {base} (waits p b ∷ fs) free a = tr (λ (k : ℕ). FramesAt stack k top (waits p b ∷ fs) base) (let z : free ≡ free + 2 * 0 = omega arith in z) a
open_at {stack} {top} {base} (body p x b ∷ fs) free a = tr (λ (k : ℕ). FramesAt stack k top (body p x b ∷ fs) base) (let z : free ≡ free + 2 * 0 = omega arith in z) a
open_at {stack} {top} {base} (under p x ∷ fs) free a =
    tr (λ (k : ℕ). FramesAt stack k top (opened fs) base) (let z : free + 2 + 2 * bound_count fs ≡ free + 2 * (1 + bound_count fs) = omega arith in z)
    (open_at fs (free + 2) (record { words = tail_two stack free _ _ _ a.words; count = omega (arith, a.count) }))

-- The first frame that waits, if one does.
pub first_open : (stack : List ℕ) (free top : ℕ) (words : List ℕ) (fs : List Frame) (base : List ℕ) → words ≡ take (top - free) (drop free stack) → FramesAt stack free top fs base
    → (found : Option ℕ) (place : ℕ) → found ≡ cond (ltb (position_or_len waiting (pairs words)) (length (pairs words))) (Some (position_or_len waiting (pairs words))) None
    → (found ≡ None → place ≡ top) → ((n : ℕ) → found ≡ Some n → place ≡ free + 2 * n) → FramesAt stack place top (opened fs) base
first_open stack free top words fs base e a found place f none some =
    tr (λ (k : ℕ). FramesAt stack k top (opened fs) base) (sym (go (ltb (bound_count fs) (length fs)) refl)) (open_at fs free a)
  where
    own : words ≡ put_frames fs []
    own = e ∙ ap (λ (k : ℕ). take k (drop free stack)) (let z : top - free ≡ 2 * length fs = omega (arith, a.count) in z) ∙ ap (take (2 * length fs)) a.words ∙ own_words fs base

    says : found ≡ cond (ltb (bound_count fs) (length fs)) (Some (bound_count fs)) None
    says =
        f ∙ ap (λ (z : List ℕ). cond (ltb (position_or_len waiting (pairs z)) (length (pairs z))) (Some (position_or_len waiting (pairs z))) None) own
        ∙ ap₂ (λ (m n : ℕ). cond (ltb m n) (Some m) None) (first_waiting fs) (count_pairs fs)

    go : (b : Bool) → ltb (bound_count fs) (length fs) ≡ b → place ≡ free + 2 * bound_count fs
    go true t = some _ (says ∙ ap (λ (b : Bool). cond b (Some (bound_count fs)) None) t)
    go false t =
        none (says ∙ ap (λ (b : Bool). cond b (Some (bound_count fs)) None) t)
        ∙ (let h : length fs ≤ bound_count fs = grind (arith, nat_tests) in let z : top ≡ free + 2 * bound_count fs = omega (arith, a.count, bound_few fs) in z)

module _ (stack : List ℕ) (place top : ℕ) where
  -- The top frame taken up.
  pub enter_waits : (fs : List Frame) (base : List ℕ) → FramesAt stack place top fs base → place < top → get_or stack place 0 ≡ 0 → FramesAt stack (place + 2) top (entered fs) base
  enter_waits [] base a h t = absurd (let z : ⊥ = omega (arith, a.count) in z)
  enter_waits (waits p b ∷ fs) base a h t = record { words = tail_two stack place _ _ _ a.words; count = omega (arith, a.count) }
  enter_waits (body p x b ∷ fs) base a h t = absurd (let z : ⊥ = omega (arith, t, read_first stack place _ _ a.words) in z)
  enter_waits (under p x ∷ fs) base a h t = absurd (let z : ⊥ = omega (arith, t, read_first stack place _ _ a.words) in z)

  set_two : (v w : ℕ) (ws : List ℕ) → place < length stack → drop place stack ≡ v ∷ w ∷ ws → drop place (set stack place 2) ≡ 2 ∷ w ∷ ws
  set_two v w ws h e = drop-set stack place 2 h ∙ ap (λ (z : List ℕ). 2 ∷ z) (sym (drop-drop 1 place stack) ∙ ap (drop 1) e)

  pub enter_body : (fs : List Frame) (base : List ℕ) → FramesAt stack place top fs base → place < top → top ≤ length stack → (get_or stack place 0 ≡ 0 → ⊥) → FramesAt (set stack place 2) place top (entered fs) base
  enter_body [] base a h k t = absurd (let z : ⊥ = omega (arith, a.count) in z)
  enter_body (waits p b ∷ fs) base a h k t = absurd (t (read_first stack place _ _ a.words))
  enter_body (body p x b ∷ fs) base a h k t = record { words = set_two _ _ _ (omega arith) a.words; count = a.count }
  enter_body (under p x ∷ fs) base a h k t = record { words = set_two _ _ _ (omega arith) a.words; count = a.count }
