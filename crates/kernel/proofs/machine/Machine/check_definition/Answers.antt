use Rattle.std.proofs.Common.{ℕ, length, subst as tr, refl}
use Rattle.theory.specs.Environment.{defined}
use Rattle.kernel.specs.Checking.{Checks}
use Rattle.kernel.proofs.Checks.{task, definition_type, task_given, task_begins, kept_term, kept_most, kept_fits, type_failed}
use Rattle.kernel.proofs.machine.Machine.check_definition.Goals as goal

pub check_type-requires : goal.check_type-requires
check_type-requires c =
    let d = c.requires in
    let p = definition_type d.fits.core.1 in
    record {
      task = task d.env (defined d.body d.type) c.args.self.now.most d.type c.args.declared d.type_rest;
      given = task_given p d.fits _ _ _;
      begins = task_begins p d.fits _ _ _ d.type_stands;
      steps = refl;
    }

pub check_body-requires : goal.check_body-requires
check_body-requires c =
    let d = c.requires in
    let p = definition_type d.fits.core.1 in
    let l = c.in_ok-check_type.ensures.keeps in
    let (i, s) = c.in_ok-check_type.ensures.sorted (task d.env (defined d.body d.type) c.args.self.now.most d.type c.args.declared d.type_rest) (task_given p d.fits _ _ _) (task_begins p d.fits _ _ _ d.type_stands) refl in
    record {
      definition = record {
        env = d.env;
        type = d.type;
        body = d.body;
        type_rest = d.type_rest;
        body_rest = d.body_rest;
        type_stands = kept_term l d.type_stands;
        body_stands = kept_term l d.body_stands;
        fits = kept_fits l d.fits;
      };
      level = i;
      sorted = s;
    }

pub returns-clause-checks : goal.returns-clause-checks
returns-clause-checks c e t a x y at bt f =
    let p = definition_type f.core.1 in
    let l = c.in_ok-check_type.ensures.keeps in
    let (i, s) = c.in_ok-check_type.ensures.sorted (task e (defined t a) c.args.self.now.most a c.args.declared x) (task_given p f _ _ _) (task_begins p f _ _ _ at) refl in
    tr (λ (n : ℕ). Checks e (defined t a) n (length c.check_body.new.self.heap.now) c.check_body.result) (kept_most l)
    (c.check_body.ensures.checks e t a x y i (kept_term l at) (kept_term l bt) (kept_fits l f) s)

pub returns-in_err-check_type-clause-checks : goal.returns-in_err-check_type-clause-checks
returns-in_err-check_type-clause-checks c e t a x y at bt f =
    let p = definition_type f.core.1 in
    type_failed e t a c.args.declared x c.args.self.now.most (length c.check_type.new.self.heap.now) _ c.from_residual.result c.from_residual.ensures.1
    (c.in_err-check_type.ensures.sorted (task e (defined t a) c.args.self.now.most a c.args.declared x) (task_given p f _ _ _) (task_begins p f _ _ _ at) refl)
