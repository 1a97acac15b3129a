use Rattle.std.proofs.Common.{refl, subst as tr, arith}
use Rattle.std.specs.Prelude.{Ok}
use Rattle.kernel.specs.Turns.{Turned}
use Rattle.kernel.proofs.Beginning.{begins_before, behind_end}
use Rattle.kernel.proofs.machine.Machine.infer.Goals as goal

pub loop-turn-init : goal.loop-turn-init
loop-turn-init c = (λ k n b e. begins_before b (omega arith), record { read = refl; context = refl; frames = refl; heap = refl; stack = refl; context_same = refl; frames_same = refl; heap_same = refl; stack_same = refl })

pub returns-then-spot-self-clause-answers : goal.returns-then-spot-self-clause-answers
returns-then-spot-self-clause-answers c k n b e =
    let m = c.args.self.now in
    let l = c.loop-turn.self in
    behind_end (tr (λ t. Turned k m.terms.now l.context.now l.frames.now l.heap.now (Ok t)) c.in-Back.is (c.loop-turn.invariant.0 k n b e)) (omega arith)
