use Rattle.std.proofs.Common.{◌≡◌, sym, refl, ap, ◌∙◌}
use mathlib.Core.Option.{some}
use Rattle.checker.proofs.Named.{header_there, header_names}
use Rattle.checker.proofs.Spelling.{name_text, keyword_text}
use Rattle.checker.proofs.answer.stopped.Goals as goal

pub unreachable-requires : goal.unreachable-requires
unreachable-requires c = header_there c.args.text.now c.args.after c.requires.some c.in_default.ensures

pub returns : goal.returns
returns c =
    let f = c.in-Some.ensures in
    let e : c.as_text-name.result.now ≡ c.in-Some.header.name.now = c.as_text-name.ensures.text (name_text _ f.named) in
    record {
      place = _;
      says = refl;
      begins = record {
        header = c.in-Some.header;
        found = f;
        line = c.line_at-line.ensures;
        keyword = c.as_text-keyword.ensures.text (keyword_text _ f.begins);
        name = e;
        declared = λ ds r. header_names c.args.text.now c.args.after c.in-Some.header f ds r ∙ ap some (sym e);
      };
    }
