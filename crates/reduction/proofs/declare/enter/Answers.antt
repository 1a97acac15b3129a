use Rattle.std.proofs.Common.{◌≡◌, ◌+◌, drop, set, ap, sym, ◌∙◌, arith}
use Rattle.std.proofs.lemmas.List.{drop-set-lt}
use Rattle.terms.proofs.Appending.{append_as, append_one, append_then, append_to}
use Rattle.reduction.proofs.Declaring.{declared, marked}
use Rattle.reduction.proofs.declare.enter.Goals as goal

pub returns : goal.returns
returns c = λ d new q e end v p.
    let w = c.put_number.ensures.written in
    let m : c.put_number.result ≡ c.args.used + 3 = omega (arith, w.ends) in
    let f = append_to _ _ _ _ _ _ m (append_then _ _ _ _ _ _ _ _ (append_one c.args.store.now c.args.used c.args.mark (omega (arith, c.requires.entry))) w) in
    let k = ap (λ n. drop n c.put_number.new.words) (sym m) ∙ c.put_number.ensures.kept ∙ ap (λ n. drop n (set c.args.store.now c.args.used c.args.mark)) m ∙ drop-set-lt (c.args.used + 3) c.args.store.now c.args.used c.args.mark (omega arith) in
    declared c.args.index.now c.args.store.now _ _ c.args.count c.args.used c.put_number-2.result end d (omega (arith, c.requires.entry)) c.put_number-2.ensures.written
    (append_as _ _ _ _ _ _ (sym q) (marked _ _ _ _ _ _ _ f k c.requires.entry p)) e v
