use Rattle.checker.proofs.Named.{has_standing}
use Rattle.checker.proofs.answer.judge_text.Goals as goal

pub stopped-requires : goal.stopped-requires
stopped-requires c = record { short = c.requires; some = has_standing c.in-Refused.ensures.says.3 }

pub stopped-requires-in-Open : goal.stopped-requires-in-Open
stopped-requires-in-Open c = record { short = c.requires; some = has_standing c.in-Open.ensures.says.3 }

pub stopped-requires-in-Spent : goal.stopped-requires-in-Spent
stopped-requires-in-Spent c = record { short = c.requires; some = has_standing c.in-Spent.ensures.says.4 }

pub stopped-requires-in-NoRoom : goal.stopped-requires-in-NoRoom
stopped-requires-in-NoRoom c = record { short = c.requires; some = has_standing c.in-NoRoom.ensures.says.4 }
