use Rattle.std.proofs.Common.{drop, sym, ap, ◌∙◌}
use Rattle.std.proofs.lemmas.List.{drop-drop}
use Rattle.reduction.specs.Stepping.{kind_of}
use Rattle.reduction.proofs.find.frame_at.Goals as goal

pub returns : goal.returns
returns c = λ m p n fs is. record {
  kind = c.of_mark.ensures ∙ ap kind_of (c.number_at.ensures m _ is);
  place = c.number_at-2.ensures p _ (sym (drop-drop 2 c.args.free c.args.stack.now) ∙ ap (drop 2) is);
  behind = c.number_at-3.ensures n _ (sym (drop-drop 4 c.args.free c.args.stack.now) ∙ ap (drop 4) is);
}
