-- The failure that a limit is, and the limit that reduction met.
use Rattle.kernel.specs.declared.failure.Failure.{Failure}
use Rattle.kernel.specs.declared.failure.Failure.TheVariants as failure
use Rattle.kernel.specs.declared.failure.Limit.{Limit}
use Rattle.kernel.specs.declared.failure.Limit.TheVariants as limit
use Rattle.reduction.specs.declared.reduce.ReduceError.{ReduceError}
use Rattle.reduction.specs.declared.reduce.ReduceError.TheVariants.{UsedUp, NoRoom, NotYet}

abbrev pub failure_of : Limit → Failure
failure_of limit.Spent = failure.Spent
failure_of limit.NoRoom = failure.NoRoom

abbrev pub limit_of : ReduceError → Limit
limit_of UsedUp = limit.Spent
limit_of NoRoom = limit.NoRoom
limit_of NotYet = limit.NoRoom
