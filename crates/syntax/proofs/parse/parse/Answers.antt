use Rattle.std.proofs.Common.{ℕ, suc, length, take, sym, ap, ◌∙◌, arith, rules}
use Rattle.syntax.specs.Tokens.{tokens}
use Rattle.syntax.specs.Surface.{once}
use Rattle.syntax.proofs.Appending.{from_start}
use Rattle.syntax.proofs.WholeText.{text_reads, none_said, declared_twice, parse_fail}
use Rattle.syntax.proofs.parse.parse.Goals as goal

pub returns-in_err-parsed : goal.returns-in_err-parsed
returns-in_err-parsed c = parse_fail _ _ c.from_residual.result c.from_residual.ensures.0 (none_said c.args.text.now c.in_err-parsed.ensures)

pub returns-in-Some-first_repeated : goal.returns-in-Some-first_repeated
returns-in-Some-first_repeated c =
    let d = c.in_ok-parsed.ensures in
    declared_twice c.args.text.now d.decls (d.reads (suc (length (tokens c.args.text.now))) (omega arith)) (ap once (sym d.named) ∙ c.in-Some-first_repeated.ensures d.notes (c.written.ensures ∙ from_start c.new-names.ensures.empty d.noted))

pub returns : goal.returns
returns c =
    let d = c.in_ok-parsed.ensures in
    let w = from_start c.new-tree.ensures.empty d.wrote in
    let s = sym (d.wrote.same ∙ c.new-tree.ensures.same) in
    record {
      decls = d.decls;
      reads = text_reads c.args.text.now d.decls c.if-text-gt-TEXT_LEN.false c.in_default.ensures
          (d.reads (suc (length (tokens c.args.text.now))) (omega arith)) (ap once (sym d.named) ∙ c.in_default-first_repeated.ensures d.notes (c.written.ensures ∙ from_start c.new-names.ensures.empty d.noted));
      words = search (rules, ap (λ (k : ℕ). take k c.declarations.new.tree.words.now) d.words ∙ w);
      fits = search rules;
      count = d.counts;
      stage = d.stages;
    }
