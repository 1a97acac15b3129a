-- The environment in words.
use Rattle.std.specs.Prelude.{ℕ, List, ◌≢◌}
use Rattle.std.proofs.Math.Option.{some}
use Rattle.theory.specs.Environment.{DataType, Env, data_at}
use Rattle.reduction.specs.Store.{EnvAt}

-- The words hold the environment, which has definitions and axioms only.
pub record PlainAt (index store : List ℕ) (e : Env) : Type 0 where
  pub at : EnvAt index store e
  pub plain : (i : ℕ) (k : DataType) → data_at e i ≢ some k
