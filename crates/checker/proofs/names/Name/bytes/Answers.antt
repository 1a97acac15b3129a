use Rattle.std.proofs.lemmas.List.{take_min}
use Rattle.checker.proofs.names.Name.bytes.Goals as goal

pub returns : goal.returns
returns c = rw (c.min.ensures, c.self.view_is) (take_min 4096 c.args.self.now)
