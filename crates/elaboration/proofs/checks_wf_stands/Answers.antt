use Rattle.elaboration.proofs.checks_wf_stands.Goals as goal
use Rattle.elaboration.proofs.ChecksWf.{checks_wf}

pub returns : goal.returns
returns c = checks_wf
