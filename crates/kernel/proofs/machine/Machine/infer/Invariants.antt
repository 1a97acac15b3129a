use Rattle.std.proofs.Common.{◌≡◌, length}
use Rattle.std.specs.Prelude.{Ok}
use Rattle.kernel.specs.Machine.{Task}
use Rattle.kernel.specs.Turns.{Given, Keeps, Turned, weight}
use Rattle.kernel.specs.Answers.{Begins}
use Rattle.kernel.proofs.machine.Machine.infer.Given as goal

abbrev pub invariant-loop-turn : goal.invariant-loop-turn
invariant-loop-turn l =
    let m = l.initial.self in
    let n = l.self in
    ((k : Task) → Given k m.env.index.now m.env.store.now m.heap.now m.stack.now → Begins k m.terms.now m.context.now m.frames.now l.at l.names → k.most ≡ m.most
    → Turned k m.terms.now n.context.now n.frames.now n.heap.now (Ok l.turn))
    × Keeps m n

abbrev pub decreases-loop-turn : goal.decreases-loop-turn
decreases-loop-turn l = weight (length l.initial.self.terms.now) (length l.initial.self.frames.now) (Ok l.turn)
