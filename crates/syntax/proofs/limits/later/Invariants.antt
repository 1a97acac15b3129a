use Rattle.std.proofs.Common.{◌≡◌, List, length}
use Rattle.syntax.specs.Surface.{listed}
use Rattle.syntax.specs.Declaring.{Note, note_words, note_names}
use Rattle.syntax.proofs.limits.later.Given as goal

abbrev pub invariant-loop-note : goal.invariant-loop-note
invariant-loop-note l =
    (ns : List Note) → l.notes ≡ note_words ns → (ms : List Note) × (l.rest ≡ note_words ms) × (listed l.name (note_names ns) ≡ listed l.name (note_names ms))

abbrev pub decreases-loop-note : goal.decreases-loop-note
decreases-loop-note l = length l.rest
