use Rattle.std.proofs.Common.{length, refl, arith}
use Rattle.theory.specs.Environment.{defined}
use Rattle.theory.specs.Typing.{ctx_end}
use Rattle.reduction.proofs.Staying.{typed_stays}
use Rattle.kernel.specs.Inference.{z_end}
use Rattle.kernel.proofs.Backs.{type_scoped, closed_env}
use Rattle.kernel.proofs.Checks.{task, definition_body, task_sensible, task_given, task_begins, body_holds, body_differs, body_limited, body_failed, kept_stored, kept_term, kept_most}
use Rattle.kernel.proofs.Applying.{agrees_yes, agrees_no}
use Rattle.kernel.proofs.machine.Machine.check_body.Goals as goal

pub infer-requires : goal.infer-requires
infer-requires c =
    let d = c.requires.definition in
    let b = definition_body d.fits.core.0 in
    record {
      task = task d.env (defined d.body d.type) c.args.self.now.most d.body c.args.body d.body_rest;
      given = task_given b d.fits _ _ _;
      begins = task_begins b d.fits _ _ _ d.body_stands;
      steps = refl;
    }

pub same_type-requires : goal.same_type-requires
same_type-requires c =
    let d = c.requires.definition in
    let b = definition_body d.fits.core.0 in
    let p = c.in_ok-top.ensures.keeps in
    let k = task d.env (defined d.body d.type) c.args.self.now.most d.body c.args.body d.body_rest in
    let n = task_sensible b d.fits c.args.self.now.most c.args.body d.body_rest in
    let (x, h, s, l) = c.in_ok-top.ensures.answers k (task_given b d.fits _ _ _) (task_begins b d.fits _ _ _ d.body_stands) refl in
    record {
      env = d.env;
      env_at = kept_stored p d.fits.stored;
      closed = closed_env n;
      left = x;
      right = d.type;
      rest = d.type_rest;
      left_at = s;
      right_at = kept_term p d.type_stands;
      left_scoped = type_scoped {k = k} z_end n h;
      right_scoped = typed_stays _ _ _ _ d.fits.wf ctx_end c.requires.sorted;
    }

pub returns-in_err-top-clause-checks : goal.returns-in_err-top-clause-checks
returns-in_err-top-clause-checks c e t a x y i at bt f q =
    let b = definition_body f.core.0 in
    body_failed e t a c.args.body y c.args.self.now.most c.infer.new.self.heap.now _ c.from_residual.result c.from_residual.ensures.1
    (c.in_err-top.ensures.answers (task e (defined t a) c.args.self.now.most t c.args.body y) (task_given b f _ _ _) (task_begins b f _ _ _ bt) refl)

pub returns-then-branch-clause-checks : goal.returns-then-branch-clause-checks
returns-then-branch-clause-checks c e t a x y i at bt f q =
    let b = definition_body f.core.0 in
    let p = c.in_ok-top.ensures.keeps in
    let n = c.infer.new.self in
    let (v, h, s, l) = c.in_ok-top.ensures.answers (task e (defined t a) c.args.self.now.most t c.args.body y) (task_given b f _ _ _) (task_begins b f _ _ _ bt) refl in
    body_holds f q h
    (agrees_yes e 0 n.most n.heap.now c.in_ok-top.top (length n.stack.now) v a c.same_type.new.self.heap.now _ (grind arith) (c.in_ok-same_type.ensures.agrees e v a x (kept_stored p f.stored) s (kept_term p at))).0

pub returns-else-branch-clause-checks : goal.returns-else-branch-clause-checks
returns-else-branch-clause-checks c e t a x y i at bt f q =
    let b = definition_body f.core.0 in
    let p = c.in_ok-top.ensures.keeps in
    let n = c.infer.new.self in
    let (v, h, s, l) = c.in_ok-top.ensures.answers (task e (defined t a) c.args.self.now.most t c.args.body y) (task_given b f _ _ _) (task_begins b f _ _ _ bt) refl in
    body_differs f q h
    (agrees_no e 0 n.most n.heap.now c.in_ok-top.top (length n.stack.now) v a c.same_type.new.self.heap.now _ (grind arith) (c.in_ok-same_type.ensures.agrees e v a x (kept_stored p f.stored) s (kept_term p at)))

pub returns-in_err-same_type-clause-checks : goal.returns-in_err-same_type-clause-checks
returns-in_err-same_type-clause-checks c e t a x y i at bt f q =
    let b = definition_body f.core.0 in
    let p = c.in_ok-top.ensures.keeps in
    let n = c.infer.new.self in
    let (v, h, s, l) = c.in_ok-top.ensures.answers (task e (defined t a) c.args.self.now.most t c.args.body y) (task_given b f _ _ _) (task_begins b f _ _ _ bt) refl in
    body_limited f q h c.args.self.now.most n.most n.heap.now c.same_type.new.self.heap.now _ c.in_ok-top.top (length n.stack.now) (kept_most p) (omega (arith, c.in_err-same_type.ensures.keeps.heap)) (omega (arith, f.stack_room, p.heap, p.stack)) (omega (arith, s.ends))
    _ c.from_residual-in_err-same_type.result c.from_residual-in_err-same_type.ensures.1 (c.in_err-same_type.ensures.agrees e v a x (kept_stored p f.stored) s (kept_term p at))
