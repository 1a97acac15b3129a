use Rattle.std.proofs.Common.{◌≡◌, ℕ, ◌-◌, min, List, [], ◌∷◌, ◌++◌, length, take, drop, sym, ap, ◌∙◌, arith, length-drop, take-append-drop, length-take}
use Rattle.std.proofs.lemmas.List.{take_rest}
use Rattle.syntax.specs.Tokens.{letter, tokens}
use Rattle.syntax.proofs.Cutting.{word_at, word_front, word_letters, cut_within, cut_some}
use Rattle.syntax.proofs.lexer.first_token.Goals as goal

pub returns : goal.returns
returns c =
    let bs = c.args.bytes.now in
    let n = c.word_len-n.result in
    let w = c.word_len-n.ensures in
    let l = sym c.if-not-is_letter.ensures in
    let r : length (take (length bs - n) (drop n bs)) ≡ length bs - n = ap length (take_rest bs n) ∙ length-drop n bs in
    let t : length (take n bs) ≡ min n (length bs) = length-take n bs in
    let p : bs ≡ take n bs ++ take (length bs - n) (drop n bs) = sym (take-append-drop n bs) ∙ ap (λ (r : List ℕ). take n bs ++ r) (sym (take_rest bs n)) in
    record {
      first = word_at bs c.requires.some c.requires.solid l c.if-bytes-eq95.false ∙ word_front bs n w ∙ ap (λ (r : List ℕ). take n bs ∷ tokens r) (sym (take_rest bs n));
      front = [];
      place = p;
      begins = ap tokens (sym p);
      shorter = omega (arith, r, t, w, cut_within letter bs);
      some_bytes = omega (arith, t, w, cut_within letter bs, cut_some letter bs l c.requires.some);
      formed = word_letters bs n w;
    }
