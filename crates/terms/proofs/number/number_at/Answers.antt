use Rattle.std.proofs.Common.{◌∙◌}
use Rattle.terms.proofs.Numbers.{number_read}
use Rattle.terms.proofs.number.number_at.Goals as goal

pub returns : goal.returns
returns c x rest e = c.number_of.ensures ∙ number_read c.args.words.now c.args.at x rest e
