use Rattle.theory.proofs.confluence_stands.Goals as goal
use Rattle.theory.proofs.Confluence.{confluence}

pub returns : goal.returns
returns c = confluence
