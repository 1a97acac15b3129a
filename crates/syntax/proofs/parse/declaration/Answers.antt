use Rattle.std.proofs.Common.{refl}
use Rattle.syntax.specs.Reader.{read_decl, read_def, read_axiom, read_data}
use Rattle.syntax.proofs.DeclReadings.{declares_by}
use Rattle.syntax.proofs.parse.declaration.Goals as goal

pub returns-in-Some : goal.returns-in-Some
returns-in-Some c = let e = c.in-Some.ensures in declares_by read_decl read_def _ _ _ c.args.bytes.now _ _ _ _ _ c.definition.result (λ n. rw e.0 refl) e.1 c.definition.ensures

pub returns-in-Some-eat : goal.returns-in-Some-eat
returns-in-Some-eat c =
    let e = c.in-Some-eat.ensures in
    declares_by read_decl read_def _ _ _ c.args.bytes.now _ _ _ _ _ c.definition-in-Some-eat.result (λ n. rw (c.in_default.ensures, e.0) refl) e.1 c.definition-in-Some-eat.ensures

pub returns-in-Some-eat-2 : goal.returns-in-Some-eat-2
returns-in-Some-eat-2 c =
    let e = c.in-Some-eat-2.ensures in
    declares_by read_decl read_axiom _ _ _ c.args.bytes.now _ _ _ _ _ c.assumption.result (λ n. rw (c.in_default.ensures, c.in_default-eat.ensures, e.0) refl) e.1 c.assumption.ensures

pub returns-in-Some-eat-3 : goal.returns-in-Some-eat-3
returns-in-Some-eat-3 c =
    let e = c.in-Some-eat-3.ensures in
    declares_by read_decl read_data _ _ _ c.args.bytes.now _ _ _ _ _ c.data_type.result (λ n. rw (c.in_default.ensures, c.in_default-eat.ensures, c.in_default-eat-2.ensures, e.0) refl) e.1 c.data_type.ensures
