use Rattle.std.proofs.Common.{◌≡◌, ℕ, ◌-◌, List, [], ◌∷◌, ◌++◌, length, get_or, take, drop, sym, ap, ◌∙◌, ap₂, arith, length-drop}
use Rattle.std.proofs.lemmas.List.{take_rest}
use Rattle.syntax.specs.Tokens.{tokens}
use Rattle.syntax.specs.Lexing.{lexeme}
use Rattle.syntax.proofs.Cutting.{sign_at, symbol_at, one_first, two_first}
use Rattle.syntax.proofs.lexer.first_sign.Goals as goal
use Rattle.syntax.proofs.lexer.first_sign.Goals.{then-bytes-gt1+in_default, else-bytes-gt1}

pub returns-in-Some : goal.returns-in-Some
returns-in-Some c =
    let bs = c.args.bytes.now in
    let j = c.in-Some.ensures in
    let e : length (lexeme c.in-Some.token) ≡ 2 = ap length j.1 in
    let r : length (take (length bs - 2) (drop 2 bs)) ≡ length bs - 2 = ap length (take_rest bs 2) ∙ length-drop 2 bs in
    let p : bs ≡ lexeme c.in-Some.token ++ take (length bs - 2) (drop 2 bs) = two_first bs c.if-bytes-gt1.true ∙ ap₂ (λ (w r : List ℕ). w ++ r) (sym j.1) (sym (take_rest bs 2)) in
    record {
      first = sign_at bs c.if-bytes-gt1.true c.requires.solid c.requires.symbol j.0 ∙ ap₂ (λ w (r : List ℕ). w ∷ tokens r) (sym j.1) (sym (take_rest bs 2));
      front = [];
      place = p;
      begins = ap tokens (sym p);
      shorter = omega (arith, r, e, c.if-bytes-gt1.true);
      some_bytes = omega (arith, e);
      formed = j.2;
    }

pub returns : goal.returns
returns c =
    let bs = c.args.bytes.now in
    let r : length (take (length bs - 1) (drop 1 bs)) ≡ length bs - 1 = ap length (take_rest bs 1) ∙ length-drop 1 bs in
    let p : bs ≡ get_or bs 0 0 ∷ take (length bs - 1) (drop 1 bs) = one_first bs c.requires.some ∙ ap (λ (r : List ℕ). get_or bs 0 0 ∷ r) (sym (take_rest bs 1)) in
    record {
      first = symbol_at bs c.requires.some c.requires.solid c.requires.symbol
          (λ h. elim c.if-bytes-gt1.branch [ then-bytes-gt1+in_default w ↦ w.in_default.ensures | else-bytes-gt1 w ↦ absurd (let z : ⊥ = omega (arith, w.if-bytes-gt1.false) in z) ])
          ∙ ap (λ (r : List ℕ). (get_or bs 0 0 ∷ []) ∷ tokens r) (sym (take_rest bs 1));
      front = [];
      place = p;
      begins = ap tokens (sym p);
      shorter = omega (arith, r, c.requires.some);
      some_bytes = omega arith;
      formed = c.requires.symbol;
    }
