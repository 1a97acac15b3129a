use Rattle.std.proofs.Common.{length, refl}
use Rattle.theory.specs.Environment.{assumed}
use Rattle.kernel.proofs.Checks.{task, axiom_type, task_given, task_begins, axiom_checks}
use Rattle.kernel.proofs.machine.Machine.check_axiom.Goals as goal

pub check_type-requires : goal.check_type-requires
check_type-requires c =
    let d = c.requires in
    let p = axiom_type d.fits.core in
    record {
      task = task d.env (assumed d.type) c.args.self.now.most d.type c.args.declared d.rest;
      given = task_given p d.fits _ _ _;
      begins = task_begins p d.fits _ _ _ d.stands;
      steps = refl;
    }

pub returns-clause-checks : goal.returns-clause-checks
returns-clause-checks c e a x at f =
    let p = axiom_type f.core in
    axiom_checks e a c.args.self.now.most (length c.check_type.new.self.heap.now) c.args.declared x c.check_type.result (c.check_type.ensures.sorted (task e (assumed a) c.args.self.now.most a c.args.declared x) (task_given p f _ _ _) (task_begins p f _ _ _ at) refl)
