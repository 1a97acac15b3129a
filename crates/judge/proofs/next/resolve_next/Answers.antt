use Rattle.judge.proofs.Going.{entry_written}
use Rattle.judge.proofs.next.resolve_next.Goals as goal

pub returns : goal.returns
returns c gs d rest s = rw c.ok.ensures.value (entry_written _ _ _ _ _ _ _ c.resolve_declaration.result (c.resolve_declaration.ensures gs d rest s))
