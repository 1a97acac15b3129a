use Rattle.theory.proofs.inference_complete_stands.Goals as goal
use Rattle.theory.proofs.InferenceComplete.{inference_complete}

pub returns : goal.returns
returns c = inference_complete
