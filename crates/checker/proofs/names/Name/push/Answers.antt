use Rattle.std.proofs.Common.{◌≡◌, [], ◌∷◌, length, sym, ap, ◌∙◌, arith, add-one, length-append, length-take-le, take-suc-set, take_all}
use Rattle.std.proofs.lemmas.List.{take-append-le}
use Rattle.checker.proofs.names.Name.push.Goals as goal

pub returns-then-self-lt-FULL_BYTES : goal.returns-then-self-lt-FULL_BYTES
returns-then-self-lt-FULL_BYTES c =
    let n = c.self.inside in
    let old : length c.args.self.now ≡ n.len = sym (ap length c.self.view_is) ∙ length-take-le n.len n.buf (omega arith) in
    rw (add-one, take-suc-set n.buf n.len c.args.b (omega arith), c.self.view_is) (sym (take_all 4097 _ (omega (arith, old, length-append c.args.self.now (c.args.b ∷ [])))))

pub returns-else-self-lt-FULL_BYTES : goal.returns-else-self-lt-FULL_BYTES
returns-else-self-lt-FULL_BYTES c =
    let n = c.self.inside in
    let full : length c.args.self.now ≡ 4097 = sym (ap length c.self.view_is) ∙ length-take-le n.len n.buf (omega arith) ∙ (omega arith) in
    sym (take-append-le 4097 c.args.self.now _ (omega (arith, full)) ∙ take_all 4097 c.args.self.now (omega (arith, full)))
