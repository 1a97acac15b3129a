use Rattle.reduction.proofs.Storing.{room}
use Rattle.reduction.proofs.store.Environment.entry_place.Goals as goal

pub returns-clause-within : goal.returns-clause-within
returns-clause-within c = room c.args.self.index.now c.args.self.store.now c.args.number c.number_of.result c.args.self.stored c.if-self-i.false c.number_of.ensures
