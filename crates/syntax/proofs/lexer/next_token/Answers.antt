use Rattle.std.proofs.Common.{◌≡◌, ℕ, ◌-◌, List, ◌++◌, length, take, drop, sym, ap, ◌∙◌, append_assoc, arith, length-drop, take-append-drop, drop_of_length-le}
use Rattle.std.proofs.lemmas.List.{take_rest}
use Rattle.syntax.specs.Tokens.{tokens}
use Rattle.syntax.proofs.lexer.next_token.Goals as goal

pub returns-then-start-bytes : goal.returns-then-start-bytes
returns-then-start-bytes c = c.blank_len-start.ensures.keeps ∙ ap tokens (drop_of_length-le c.args.bytes.now (omega (arith, c.if-start-bytes.true)))

pub returns : goal.returns
returns c =
    let bs = c.args.bytes.now in
    let n = c.blank_len-start.result in
    let f = c.first_token.ensures in
    let r : length (take (length bs - n) (drop n bs)) ≡ length bs - n = ap length (take_rest bs n) ∙ length-drop n bs in
    let k : tokens bs ≡ tokens (take (length bs - n) (drop n bs)) = c.blank_len-start.ensures.keeps ∙ ap tokens (sym (take_rest bs n)) in
    record {
      first = k ∙ f.first;
      front = take n bs ++ f.front;
      place = sym (take-append-drop n bs) ∙ ap (λ (r : List ℕ). take n bs ++ r) (sym (take_rest bs n) ∙ f.place) ∙ sym (append_assoc (take n bs) f.front _);
      begins = f.begins ∙ sym k;
      shorter = omega (arith, f.shorter, r);
      some_bytes = f.some_bytes;
      formed = f.formed;
    }
