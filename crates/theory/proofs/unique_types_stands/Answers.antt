use Rattle.theory.proofs.unique_types_stands.Goals as goal
use Rattle.theory.proofs.Uniqueness.{unique_types}

pub returns : goal.returns
returns c = unique_types
