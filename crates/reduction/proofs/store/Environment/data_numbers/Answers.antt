use Rattle.reduction.proofs.Storing.{data_words}
use Rattle.reduction.proofs.store.Environment.data_numbers.Goals as goal

pub returns : goal.returns
returns c = λ e v.
    let (k, p, x) = c.in_ok-place.ensures.finds e v in
    let w = data_words c.args.self.store.now c.in_ok-place.place k x in
    (k, p, record { params = w.params; level = w.level; cons = w.cons })
