-- A term that stands from a place to its end.
use Rattle.std.proofs.Common.{◌≡◌, ℕ, ◌-◌, ◌≤◌, List, [], ◌++◌, length, take, drop, Some, None, Option, is_some, sym, ap, ◌∙◌, append_assoc, arith, length-append, length-take}
use Rattle.std.proofs.lemmas.List.{take-append-drop, length-take-le}
use Rattle.theory.specs.Terms.{Term}
use Rattle.theory.specs.Environment.{Env}
use Rattle.terms.specs.Words.{put}
use Rattle.terms.proofs.Nodes.{put_append, put-length, size-parts}
use Rattle.reduction.specs.Stepping.{Stands, Ready, Findable, FindsStep, HasStep}

pub stands_in : (ws : List ℕ) (at : ℕ) (t : Term) (end : ℕ) → Stands ws at t end → end ≤ length ws
stands_in ws at t end s = omega (arith, s.ends, ap length s.words, length-take end ws, length-take at ws, length-append (take at ws) (put t []), put-length t [], size-parts t)

pub stands_here : (ws : List ℕ) (at : ℕ) (t : Term) (end : ℕ) → Stands ws at t end → ws ≡ take at ws ++ put t (drop end ws)
stands_here ws at t end s =
    sym (take-append-drop end ws) ∙ (ap (λ (w : List ℕ). w ++ drop end ws) s.words ∙ (append_assoc (take at ws) (put t []) (drop end ws) ∙ ap (λ (w : List ℕ). take at ws ++ w) (sym (put_append t [] (drop end ws)))))

pub stands_front : (ws : List ℕ) (at : ℕ) (t : Term) (end : ℕ) → Stands ws at t end → length (take at ws) ≡ at
stands_front ws at t end s = length-take-le at ws (omega (arith, stands_in ws at t end s, s.ends))

pub findable : (index store heap : List ℕ) (at end stack : ℕ) → Ready index store heap at end → end - at ≤ stack → Findable index store heap at stack
findable index store heap at end stack r l =
    record {
      env = r.env;
      term = r.term;
      front = take at heap;
      rest = drop end heap;
      env_at = r.env_at;
      here = stands_here heap at r.term end r.stands;
      placed = stands_front heap at r.term end r.stands;
      room = omega (arith, r.stands.ends);
    }

-- There is a step if its place was found.
pub step_found : (e : Env) (ws pre : List ℕ) (t : Term) (rest : List ℕ) (n : ℕ) (o : Option ℕ) → FindsStep e ws pre t rest o → HasStep e n t (Some (is_some o))
step_found e ws pre t rest n None x = x
step_found e ws pre t rest n (Some c) (u, is, _) = (u, is)

-- What is ready ends within the heap.
pub ready_within : {index store heap : List ℕ} {at end : ℕ} → Ready index store heap at end → (at ≤ end) × (end ≤ length heap)
ready_within {heap} {at} {end} r = (omega (arith, r.stands.ends), stands_in heap at r.term end r.stands)
