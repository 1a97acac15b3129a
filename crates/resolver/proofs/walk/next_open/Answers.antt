use Rattle.std.proofs.Common.{rules, tests}
use Rattle.std.proofs.lemmas.Iterator.Search.{position_from_yields_List}
use Rattle.resolver.proofs.Stacked.{pairs_yield, waiting, first_open}
use Rattle.resolver.proofs.walk.next_open.Goals as goal

pub returns : goal.returns
returns c fs base a =
    first_open _ _ _ _ fs base c.chunks_exact.ensures.rest a c.position.result c.map_or.result
    (position_from_yields_List waiting _ _ _ c.position.ensures.ran (pairs_yield c.chunks_exact.result c.chunks_exact.ensures.size) (λ x b q k. search (rules, tests))) (λ e. search rules) (λ n e. search rules)
