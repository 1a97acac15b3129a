use Rattle.theory.proofs.env_weakening_stands.Goals as goal
use Rattle.theory.proofs.EnvWeakening.{env_weakening}

pub returns : goal.returns
returns c = env_weakening
