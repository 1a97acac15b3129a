use Rattle.syntax.proofs.DeclReadings.{hides_by}
use Rattle.syntax.proofs.declarations.hide.Goals as goal

pub returns : goal.returns
returns c = hides_by c.args.bytes.now _ c.expect_number.result c.in-Some.ensures.0 c.in-Some.ensures.1 c.expect_number.ensures
