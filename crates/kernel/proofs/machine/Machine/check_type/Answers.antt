use Rattle.std.proofs.Common.{◌∙◌, length, sym, arith}
use Rattle.theory.proofs.Decisions.{sort_yes}
use Rattle.kernel.specs.Inference.{z_end}
use Rattle.kernel.proofs.Backs.{type_scoped, closed_env}
use Rattle.kernel.proofs.Checks.{kept_stored, kept_most, level_failed}
use Rattle.kernel.proofs.machine.Machine.check_type.Goals as goal

pub to_level-requires : goal.to_level-requires
to_level-requires c =
    let k = c.requires.task in
    let n = c.requires.given in
    let (x, h, s, l) = c.in_ok-end.ensures.answers k n c.requires.begins c.requires.steps in
    record {
      ready = record {
        env = k.env;
        term = x;
        scope = length k.context;
        env_at = (kept_stored c.in_ok-end.ensures.keeps n.stored).at;
        closed = closed_env n.sensible;
        stands = s;
        scoped = type_scoped {k = k} z_end n.sensible h;
        few = omega (arith, n.sensible.few);
      };
    }

pub returns-clause-sorted : goal.returns-clause-sorted
returns-clause-sorted c k n b e =
    let (x, h, s, l) = c.in_ok-end.ensures.answers k n b e in
    let (w, v) = c.in_ok-to_level.ensures k.env x (kept_stored c.in_ok-end.ensures.keeps n.stored) s in
    (_, sort_yes n.sensible.wf n.sensible.ctx h.of w.first)

pub returns-in_err-to_level-clause-sorted : goal.returns-in_err-to_level-clause-sorted
returns-in_err-to_level-clause-sorted c k n b e =
    let p = c.in_ok-end.ensures.keeps in
    let (x, h, s, l) = c.in_ok-end.ensures.answers k n b e in
    level_failed {k = k} c.infer.new.self.most c.infer.new.self.heap.now c.to_level.new.heap _ (length c.infer.new.self.stack.now) n.sensible h (e ∙ sym (kept_most p)) (omega arith) (omega (arith, n.stack_room, p.heap, p.stack))
    _ c.from_residual-in_err-to_level.result c.from_residual-in_err-to_level.ensures.1 (c.in_err-to_level.ensures k.env x (kept_stored p n.stored) s)
