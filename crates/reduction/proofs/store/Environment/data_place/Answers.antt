use Rattle.theory.specs.Environment.{data_at}
use Rattle.reduction.proofs.Storing.{some_data, data_room}
use Rattle.reduction.proofs.store.Environment.data_place.Goals as goal

pub returns-in-Inductive : goal.returns-in-Inductive
returns-in-Inductive c = record {
  finds = λ e v. some_data e c.args.number c.args.self.store.now c.in-Inductive.place (rw c.in-Inductive.is at (c.in_ok-place.ensures e v));
  within = data_room c.args.self.index.now c.args.self.store.now c.in-Inductive.place (λ e. data_at e c.args.number) c.args.self.stored (λ e v. some_data e c.args.number c.args.self.store.now c.in-Inductive.place (rw c.in-Inductive.is at (c.in_ok-place.ensures e v)));
}
