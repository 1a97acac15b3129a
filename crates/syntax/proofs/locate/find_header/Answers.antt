use Rattle.std.proofs.Common.{sym, ap, ◌∙◌, arith}
use Rattle.syntax.specs.Lexing.{lexeme}
use Rattle.syntax.specs.Headers.{begins_decl}
use Rattle.syntax.proofs.Locating.{go_past, go_counted, word_fits, header_found, sign_begins-none}
use Rattle.syntax.proofs.locate.find_header.Goals as goal

pub overflow_sub-at : goal.overflow_sub-at
overflow_sub-at c =
    omega (arith, word_fits c.args.text.now c.loop-cut.rest.now c.loop-cut.invariant.1.0 c.in-Some.cut c.in-Word.keyword c.loop-cut.invariant.1.1 c.in-Some.ensures c.in-Word.is)

pub overflow_sub-at-then-left-eq0 : goal.overflow_sub-at-then-left-eq0
overflow_sub-at-then-left-eq0 c =
    omega (arith, word_fits c.args.text.now c.loop-cut.rest.now c.loop-cut.invariant.1.0 c.in-Some.cut c.in-Word.keyword c.loop-cut.invariant.1.1 c.in-Some.ensures c.in-Word.is)

pub returns-then-left-eq0 : goal.returns-then-left-eq0
returns-then-left-eq0 c =
    header_found _ c.loop-cut.rest.now c.loop-cut.invariant.1.0 _ c.loop-cut.left c.in-Some.cut c.in-Word.keyword c.in_ok-word.word
    c.loop-cut.invariant.0 c.loop-cut.invariant.1.1 c.in-Some.ensures c.in-Word.is
    (sym c.begins_declaration.ensures ∙ c.if-begins_declaration.true) c.if-left-eq0.true c.in_ok-word.ensures

pub loop-cut-preserved-then-begins_declaration : goal.loop-cut-preserved-then-begins_declaration
loop-cut-preserved-then-begins_declaration c =
    go_counted _ c.loop-cut.rest.now c.loop-cut.invariant.1.0 _ c.loop-cut.left c.in-Some.cut c.loop-cut.invariant.0 c.loop-cut.invariant.1.1 c.in-Some.ensures
    (ap begins_decl (ap lexeme c.in-Word.is) ∙ sym c.begins_declaration.ensures ∙ c.if-begins_declaration.true) c.if-left-eq0.false

pub loop-cut-preserved-else-begins_declaration : goal.loop-cut-preserved-else-begins_declaration
loop-cut-preserved-else-begins_declaration c =
    go_past _ c.loop-cut.rest.now c.loop-cut.invariant.1.0 _ c.loop-cut.left c.in-Some.cut c.loop-cut.invariant.0 c.loop-cut.invariant.1.1 c.in-Some.ensures
    (ap begins_decl (ap lexeme c.in-Word.is) ∙ sym c.begins_declaration.ensures ∙ c.if-begins_declaration.false)

pub loop-cut-preserved : goal.loop-cut-preserved
loop-cut-preserved c =
    go_past _ c.loop-cut.rest.now c.loop-cut.invariant.1.0 _ c.loop-cut.left c.in-Some.cut c.loop-cut.invariant.0 c.loop-cut.invariant.1.1 c.in-Some.ensures
    (sign_begins-none c.in-Some.cut.token c.in_default-token.not-Word)
