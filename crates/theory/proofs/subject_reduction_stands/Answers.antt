use Rattle.theory.proofs.subject_reduction_stands.Goals as goal
use Rattle.theory.proofs.SubjectReduction.{subject_reduction}

pub returns : goal.returns
returns c = subject_reduction
