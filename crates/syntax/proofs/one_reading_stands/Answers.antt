use Rattle.syntax.proofs.one_reading_stands.Goals as goal
use Rattle.syntax.proofs.OneReading.{one_reading}

pub returns : goal.returns
returns c = one_reading
