-- Counting what came of texts.
use Rattle.std.specs.Prelude.{ℕ, ◌+◌, ◌-◌, ◌^◌, min, Bool, List, ◌++◌, take, fold, codes, decimal, ◌==◌, slice_index, slice_set}
use Rattle.std.specs.List.{list_all}
use Rattle.checker.specs.declared.answer.Said.{Said}
use Rattle.checker.specs.declared.answer.Said.TheVariants as said
use Rattle.checker.specs.declared.answer.Reason.{Reason}
use Rattle.checker.specs.declared.answer.Reason.TheVariants as reason
use Rattle.checker.specs.declared.tally.Outcome.{Outcome}
use Rattle.checker.specs.declared.tally.Outcome.TheVariants.{All, Refused, Open, Spent, NoRoom, NotYet, NoText, Few, Unread}

-- What came of a text of which something is said.
abbrev pub stop_outcome : Reason → Outcome
stop_outcome reason.Refused = Refused
stop_outcome reason.Open = Open
stop_outcome reason.Spent = Spent
stop_outcome reason.NoRoom = NoRoom

abbrev pub outcome_of : Said → Outcome
outcome_of (said.All n) = All
outcome_of (said.Stopped r n p) = stop_outcome r
outcome_of (said.NotYet n) = NotYet
outcome_of (said.NoText f) = NoText
outcome_of (said.Few m n) = Few

-- The place of an outcome among the counts; the last is that of texts that could not be read.
abbrev pub rank_of : Outcome → ℕ
rank_of All = 0
rank_of Refused = 1
rank_of Open = 2
rank_of Spent = 3
rank_of NoRoom = 4
rank_of NotYet = 5
rank_of NoText = 6
rank_of Few = 7
rank_of Unread = 8

-- Sums stop at the largest number that fits.
abbrev pub add_up : ℕ → ℕ → ℕ
add_up m n = min (m + n) (2 ^ 64 - 1)

abbrev pub sum_from : ℕ → List ℕ → ℕ
sum_from m ns = fold add_up m ns

-- The counts with one more of an outcome.
abbrev pub counted : Outcome → List ℕ → List ℕ
counted o cs = slice_set cs (rank_of o) (add_up (slice_index cs (rank_of o)) 1)

-- Is each number 0?
abbrev pub all_zero : List ℕ → Bool
all_zero ns = list_all (λ n. n == 0) ns

-- The summary: how many texts there are, and then each count.
abbrev pub summary_of : ℕ → List ℕ → List ℕ
summary_of n cs =
    (decimal n ++ (codes " texts: " ++ (decimal (slice_index cs 0) ++ (codes " all, " ++ (decimal (slice_index cs 1) ++ (codes " refused, "
    ++ (decimal (slice_index cs 2) ++ (codes " open, " ++ (decimal (slice_index cs 3) ++ (codes " spent, " ++ (decimal (slice_index cs 4) ++ codes " no room, ")))))))))))
    ++ (decimal (slice_index cs 5) ++ (codes " not yet, " ++ (decimal (slice_index cs 6) ++ (codes " no text, " ++ (decimal (slice_index cs 7) ++ (codes " few; " ++ (decimal (slice_index cs 8) ++ codes " not read")))))))

abbrev pub summary : List ℕ → List ℕ
summary cs = summary_of (sum_from 0 (take 8 cs)) cs
