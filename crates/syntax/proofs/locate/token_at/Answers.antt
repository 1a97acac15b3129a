use Rattle.std.proofs.Common.{◌-◌, length, arith}
use Rattle.std.proofs.lemmas.List.{take_rest}
use Rattle.syntax.proofs.Locating.{no_token, token_found}
use Rattle.syntax.proofs.locate.token_at.Goals as goal

pub returns-in_default : goal.returns-in_default
returns-in_default c =
    let bs = c.args.text.now in
    no_token bs _ (length bs - c.args.left) (omega arith) (take_rest bs (length bs - c.args.left)) c.in_default.ensures

pub returns : goal.returns
returns c =
    let bs = c.args.text.now in
    token_found bs _ (length bs - c.args.left) _ c.in-Some.cut (take_rest bs (length bs - c.args.left)) c.in-Some.ensures c.token_len.ensures
