use Rattle.theory.proofs.validity_stands.Goals as goal
use Rattle.theory.proofs.Validity.{validity}

pub returns : goal.returns
returns c = validity
