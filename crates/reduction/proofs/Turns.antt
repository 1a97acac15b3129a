-- The turns of the loop that finds the step, each told by the loop's state.
use Rattle.std.proofs.Common.{◌≡◌, ℕ, ◌+◌, ◌-◌, ◌*◌, ◌<◌, ◌≤◌, true, false, List, length, drop, Some, None, Option as Maybe, sym, subst as tr, arith, length-drop}
use Rattle.std.proofs.lemmas.List.{drop-drop}
use Rattle.std.specs.Option.{option_or}
use Rattle.theory.specs.Terms.{Term, size}
use Rattle.terms.specs.Words.{At, Holds}
use Rattle.reduction.specs.Stepping.{frame, FramePushed, Findable}
use Rattle.reduction.specs.declared.find.Kind.TheVariants.{Find}
use Rattle.reduction.specs.declared.find.Frame.{Frame}
use Rattle.reduction.specs.declared.spine.Look.TheVariants.{Leaf, Pair, Redex, Spread, Needs}
use Rattle.reduction.proofs.Turning.{Passes, State, Bound, Looked, bounds, holds_next, skips, skipped, leafs, pairs, hits, spreads, spread_some, needs_one, needs_order, positive_before}
use Rattle.reduction.proofs.Popping.{Reads, Fired, Popped, popped, frame_long, or_keeps, or_closed, last_fires, last_stays, last_keeps}
use Rattle.reduction.proofs.Looping.{left, positive, moved_state, popped_state, pushed_state, less_pop, less_keep, less_need}

module _ {index store heap : List ℕ} {at n place before : ℕ} {hit : Maybe ℕ} {stack : List ℕ} {free : ℕ} (g : Findable index store heap at n) (s : State index store heap at place before hit stack free) where
  pub state_bound : Bound heap at place before n
  state_bound = bounds index store heap at place before hit (drop free stack) n g s.pass

  -- The state at what the hit is.
  pass_at : {h : Maybe ℕ} → hit ≡ h → Passes index store heap at place before h (drop free stack)
  pass_at e = tr (λ z. Passes index store heap at place before z (drop free stack)) e s.pass

  -- A frame comes off the stack.
  module _ (b : before ≡ 0) (k : free ≡ length stack → ⊥) where
    some_left : 0 < length (drop free stack)
    some_left = positive stack free s.bounded k

    pub frame_whole : free + 6 ≤ length stack
    frame_whole = omega (arith, frame_long index store heap at place before hit (drop free stack) n g b some_left s.pass, length-drop free stack, s.bounded)

    module _ {f : Frame} (rd : Reads (drop free stack) f) where
      pub frame_says : Popped heap place (drop free stack) f
      frame_says = popped index store heap at place before hit (drop free stack) n f g b some_left rd s.pass

      pub turn_find : f.kind ≡ Find → State index store heap at place f.behind (option_or hit (Some f.place)) stack (free + 6)
      turn_find m = popped_state index store heap at place before f.behind hit _ stack free s frame_says.long (or_keeps index store heap at place before hit (drop free stack) f b some_left rd m s.pass)

      pub less_find : left heap place stack (free + 6) (option_or hit (Some f.place)) < left heap place stack free hit
      less_find = less_pop heap stack place free hit _ 1 frame_says.light (omega (arith, or_closed hit f.place))

      module _ (m : f.kind ≡ Find → ⊥) where
        pub turn_fires : Fired index store heap f.place place true → State index store heap at place (f.behind + 1) (Some f.place) stack (free + 6)
        turn_fires y = popped_state index store heap at place before (f.behind + 1) hit _ stack free s frame_says.long (last_fires index store heap at place before hit (drop free stack) f b some_left rd m s.pass y)

        pub less_last : (h : Maybe ℕ) → left heap place stack (free + 6) h < left heap place stack free hit
        less_last None = less_pop heap stack place free hit None 3 (frame_says.heavy m) (omega arith)
        less_last (Some c) = less_pop heap stack place free hit (Some c) 3 (frame_says.heavy m) (omega arith)

        pub turn_stays : hit ≡ None → Fired index store heap f.place place false → State index store heap at place (f.behind + 1) hit stack (free + 6)
        turn_stays e y = popped_state index store heap at place before (f.behind + 1) hit hit stack free s frame_says.long
            (tr (λ z. Passes index store heap at place (f.behind + 1) z (drop 6 (drop free stack))) (sym e) (last_stays index store heap at place before (drop free stack) f b some_left rd m (pass_at e) y))

        pub turn_keeps : {c top : ℕ} {stack' : List ℕ} → hit ≡ Some c → FramePushed stack (free + 6) 0 c f.behind stack' top → length stack' ≡ length stack → Fired index store heap f.place place false
            → State index store heap at place 1 None stack' top
        turn_keeps {c} {top} {stack'} e w l y = pushed_state index store heap at place 1 None stack stack' (free + 6) top 0 c f.behind w l frame_whole s.low (omega (arith, s.used, w.grows))
            (tr (λ z. Passes index store heap at place 1 None (frame 0 c f.behind z)) (drop-drop 6 free stack) (last_keeps index store heap at place before c (drop free stack) f b some_left rd m (pass_at e) y))

        pub less_kept : {c top : ℕ} {stack' : List ℕ} → FramePushed stack (free + 6) 0 c f.behind stack' top → left heap place stack' top None < left heap place stack free hit
        less_kept {c} {top} {stack'} w = less_keep heap stack stack' place free top c f.behind hit (frame_says.heavy m) w

  -- A term comes.
  module _ (b : before ≡ 0 → ⊥) where
    pub term_holds : Holds heap place
    term_holds = holds_next index store heap at place before hit (drop free stack) n g s.pass (positive_before b)

    -- skipped, since there is a find
    module _ {end : ℕ} (k : (t : Term) (rest : List ℕ) → At heap place t rest → end ≡ place + 3 * size t) where
      pub end_later : place < end
      end_later = skipped index store heap at place before hit (drop free stack) n end g s.pass (positive_before b) k

      pub turn_skips : {c : ℕ} → hit ≡ Some c → State index store heap at end (before - 1) hit stack free
      turn_skips {c} e = moved_state index store heap at place before end (before - 1) hit hit stack free s (omega (arith, end_later))
          (tr (λ z. Passes index store heap at end (before - 1) z (drop free stack)) (sym e) (skips index store heap at place before c (drop free stack) end (positive_before b) (pass_at e) k))

    -- looked at, since there is none
    module _ (e : hit ≡ None) where
      -- the state behind, and that it is nearer to the end
      again : (place' before' : ℕ) → place ≤ place' → Passes index store heap at place' before' None (drop free stack) → State index store heap at place' before' hit stack free
      again place' before' l p = moved_state index store heap at place before place' before' hit hit stack free s l (tr (λ z. Passes index store heap at place' before' z (drop free stack)) (sym e) p)

      pub turn_leaf : Looked index store heap place Leaf → State index store heap at (place + 3) (before - 1) hit stack free
      turn_leaf y = again _ _ (omega arith) (leafs index store heap at place before (drop free stack) (positive_before b) (pass_at e) y)

      pub turn_pair : Looked index store heap place Pair → State index store heap at (place + 3) (before + 1) hit stack free
      turn_pair y = again _ _ (omega arith) (pairs index store heap at place before (drop free stack) (positive_before b) (pass_at e) y)

      pub turn_redex : {c : ℕ} → Looked index store heap place (Redex c) → State index store heap at place before (Some c) stack free
      turn_redex {c} y = moved_state index store heap at place before place before hit (Some c) stack free s (omega arith) (hits index store heap at place before c (drop free stack) (positive_before b) (pass_at e) y)

      pub turn_spread : {m : ℕ} → Looked index store heap place (Spread m) → State index store heap at (place + 3 * m) (before + m) hit stack free
      turn_spread {m} y = again _ _ (omega arith) (spreads index store heap at place before m (drop free stack) (positive_before b) (pass_at e) y)

      pub spread_one : {m : ℕ} → Looked index store heap place (Spread m) → 0 < m
      spread_one {m} y = spread_some index store heap at place before m (drop free stack) n g (positive_before b) (pass_at e) y

      module _ {l m : ℕ} (y : Looked index store heap place (Needs l m)) where
        pub need_order : (2 ≤ m) × (m ≤ l)
        need_order = needs_order index store heap at place before l m (drop free stack) n g (positive_before b) (pass_at e) y

        pub need_pass : Passes index store heap at (place + 3 * l) m None (frame 1 (place + 3 * (l - m)) (before - 1 + (l - m)) (drop free stack))
        need_pass = needs_one index store heap at place before l m (drop free stack) (positive_before b) (pass_at e) y need_order.0 need_order.1

        pub need_bound : Bound heap at (place + 3 * l) m n
        need_bound = bounds index store heap at (place + 3 * l) m None _ n g need_pass

        module _ {top : ℕ} {stack' : List ℕ} (w : FramePushed stack free 1 (place + 3 * (l - m)) (before - 1 + (l - m)) stack' top) where
          pub turn_need : length stack' ≡ length stack → State index store heap at (place + 3 * l) m hit stack' top
          turn_need k = pushed_state index store heap at (place + 3 * l) m hit stack stack' free top 1 (place + 3 * (l - m)) (before - 1 + (l - m)) w k s.bounded (omega (arith, s.low))
              (omega (arith, s.used, w.grows, need_order.0, need_order.1))
              (tr (λ z. Passes index store heap at (place + 3 * l) m z (frame 1 (place + 3 * (l - m)) (before - 1 + (l - m)) (drop free stack))) (sym e) need_pass)

          pub less_needed : left heap (place + 3 * l) stack' top hit < left heap place stack free hit
          less_needed = less_need heap stack stack' place (place + 3 * l) free top (place + 3 * (l - m)) (before - 1 + (l - m)) hit (omega (arith, need_order.0, need_order.1)) (omega (arith, need_bound.inside, need_bound.heaped)) w
