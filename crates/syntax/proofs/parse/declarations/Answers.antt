use Rattle.std.proofs.Common.{[], ◌∷◌, refl, ◌∙◌, arith, length-append}
use Rattle.syntax.specs.Tokens.{tokens}
use Rattle.syntax.specs.Surface.{decl_names, decl_stage}
use Rattle.syntax.specs.Declaring.{read_all, decl_words}
use Rattle.syntax.proofs.Appending.{append_as}
use Rattle.syntax.proofs.Items.{items_start, items_more, items_as, items_none, items_end}
use Rattle.syntax.proofs.AllReadings.{all_next, all_stop, all_end, all_some, all_none, all_fail, decl_some, decls_apart, decls_level, decls_named, cuts_some, cuts_none}
use Rattle.syntax.proofs.parse.declarations.Goals as goal

pub loop-tree-init : goal.loop-tree-init
loop-tree-init c = (items_start read_all decl_words decl_names decl_stage _ _ _, refl, omega arith)

pub returns-in_err-read : goal.returns-in_err-read
returns-in_err-read c =
    let e = cuts_some c.loop-tree.all.rest.now _ c.loop-tree-test.ensures c.next_token.ensures in
    all_fail _ _ _ _ _ c.from_residual.result c.from_residual.ensures.0
    (λ n h. all_none n _ (items_none read_all decl_words decl_names decl_stage _ _ _ _ _ _ _ c.loop-tree.invariant.0
    (λ k l. all_stop k (tokens c.loop-tree.all.rest.now) _ _ e.2 (c.in_err-read.ensures k (omega (arith, l)))) n h))

pub loop-tree-preserved : goal.loop-tree-preserved
loop-tree-preserved c =
    let e = cuts_some c.loop-tree.all.rest.now _ c.loop-tree-test.ensures c.next_token.ensures in
    let d = c.in_ok-read.ensures in (
      items_as read_all decl_words decl_names decl_stage _ _ _ _ _ _ _ _ c.then-all.ensures.rest (items_more read_all decl_words decl_names decl_stage _ _ _ _ _ _ _ _ _ _ _ _ d.value d.notes c.loop-tree.invariant.0
          (λ k l. all_next k (tokens c.loop-tree.all.rest.now) _ _ _ d.value e.2 (d.reads k (omega (arith, l))))
          d.wrote d.named d.noted d.stage c.then-all.ensures.stage d.fewer d.room d.note_room),
      omega (arith, c.loop-tree.invariant.1, length-append c.loop-tree.invariant.0.items (d.value ∷ [])),
      omega (arith, c.loop-tree.invariant.2, d.wrote.ends, decl_some d.value),
    )

pub returns : goal.returns
returns c =
    let v = c.loop-tree.invariant.0 in
    record {
      decls = v.items;
      reads = λ n h. all_some n _ _ (items_end read_all decl_words decl_names decl_stage _ _ _ _ _ _ _ [] v
          (λ k l. all_end k _ (cuts_none c.loop-tree.all.rest.now _ c.loop-tree-test.ensures c.next_token.ensures)) n h);
      wrote = append_as (decls_apart v.items) v.wrote;
      notes = v.notes;
      named = v.named ∙ decls_named v.items;
      noted = v.noted;
      words = refl;
      stages = v.stages ∙ decls_level v.items;
      counts = c.loop-tree.invariant.1;
      fits = omega (arith, v.room, v.wrote.room, c.requires.room);
      note_fits = omega (arith, v.note_room, v.noted.room, c.requires.notes);
    }
