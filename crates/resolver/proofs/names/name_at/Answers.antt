use Rattle.resolver.proofs.Naming.{name_bytes}
use Rattle.resolver.proofs.names.name_at.Goals as goal

pub returns : goal.returns
returns c = name_bytes _ _
