use Rattle.syntax.proofs.Headed.{headers_right}
use Rattle.syntax.proofs.locate.headers_stand.Goals as goal

pub returns : goal.returns
returns c = headers_right
