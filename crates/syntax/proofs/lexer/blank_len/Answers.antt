use Rattle.std.proofs.Common.{◌≡◌, ℕ, not, List, length, drop, eqb, ap, ◌∙◌, arith, length-drop}
use Rattle.std.proofs.lemmas.List.{take_rest}
use Rattle.std.specs.List.{take_while}
use Rattle.syntax.proofs.Cutting.{hash_at, cut_within}
use Rattle.syntax.proofs.lexer.blank_len.Goals as goal

pub loop-n-preserved-then-bytes-n-eq35 : goal.loop-n-preserved-then-bytes-n-eq35
loop-n-preserved-then-bytes-n-eq35 c =
    let bs = c.args.bytes.now in
    let n = c.loop-n.n in
    let e : c.line_len-n.result ≡ length (take_while (λ b. not (eqb b 10)) (drop n bs)) = c.line_len-n.ensures ∙ ap (λ (ds : List ℕ). length (take_while (λ b. not (eqb b 10)) ds)) (take_rest bs n) in (
      omega (arith, e, cut_within (λ b. not (eqb b 10)) (drop n bs), length-drop n bs, c.loop-n.invariant.0),
      c.loop-n.invariant.1 ∙ hash_at bs n _ c.loop-n-test.true c.if-bytes-n-eq35.true e,
    )
