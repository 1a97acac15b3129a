use Rattle.theory.proofs.inference_sound_stands.Goals as goal
use Rattle.theory.proofs.Uniqueness.{inference_sound}

pub returns : goal.returns
returns c = inference_sound
