use Rattle.std.proofs.Common.{◌≡◌, List, length}
use Rattle.syntax.specs.Surface.{once}
use Rattle.syntax.specs.Declaring.{Note, note_words, note_names}
use Rattle.syntax.proofs.limits.first_repeated.Given as goal

abbrev pub invariant-loop-note : goal.invariant-loop-note
invariant-loop-note l = (ns : List Note) → l.notes ≡ note_words ns → (ms : List Note) × (l.rest ≡ note_words ms) × (once (note_names ns) ≡ once (note_names ms))

abbrev pub decreases-loop-note : goal.decreases-loop-note
decreases-loop-note l = length l.rest
