use Rattle.std.proofs.Common.{length, length-append, arith, ap, ◌∙◌}
use Rattle.judge.proofs.Sizes.{decls_few}
use Rattle.judge.proofs.Rows.{along_first, can_judge, along_next, stops, ends}
use Rattle.judge.proofs.row.judge_row.Goals as goal

pub split_at_mut-table-requires : goal.split_at_mut-table-requires
split_at_mut-table-requires c = omega (arith, c.requires.begins.env_room, c.requires.begins.counts, ap length c.requires.begins.stands, decls_few c.requires.decls)

pub overflow_sub-tree : goal.overflow_sub-tree
overflow_sub-tree c = omega (arith, c.requires.begins.counts, ap length c.requires.begins.stands, decls_few c.requires.decls)

pub loop-after-init : goal.loop-after-init
loop-after-init c t ds b = along_first b _ _ _ (omega arith) (omega arith) (omega (arith, b.counts, ap length b.stands, decls_few ds))

pub judge_next-requires : goal.judge_next-requires
judge_next-requires c = can_judge (c.loop-after.invariant _ _ c.requires.begins) (omega (arith, c.requires.begins.counts))

pub returns-in-Err-clause-says : goal.returns-in-Err-clause-says
returns-in-Err-clause-says c t ds w b m =
    let i = ap length c.split_at_mut-index.ensures.value ∙ length-append c.split_at_mut-index.result.0.now c.split_at_mut-index.result.1.now in
    let j = ap length c.split_at_mut-table.ensures.value ∙ length-append c.split_at_mut-table.result.0.now c.split_at_mut-table.result.1.now in
    let k = ap length c.split_at_mut-store.ensures.value ∙ length-append c.split_at_mut-store.result.0.now c.split_at_mut-store.result.1.now in
    rw c.stopped.ensures
    (stops c.judge_next.new.index c.judge_next.new.table c.judge_next.new.store (length c.judge_next.new.names) c.args.most (length c.loop-after.work) (c.loop-after.invariant t ds b)
    (omega (arith, b.counts)) c.in-Err.why w (omega (arith, m, b.counts, b.env_room, ap length b.stands, decls_few ds, i, j, k)) (c.in-Err.ensures t))

pub loop-after-preserved : goal.loop-after-preserved
loop-after-preserved c t ds b = along_next c.args.most (length c.loop-after.work) (c.loop-after.invariant t ds b) (omega (arith, b.counts)) (c.in-Ok.ensures t)

pub returns-clause-says : goal.returns-clause-says
returns-clause-says c t ds w b m = ends (c.loop-after.invariant t ds b) (omega (arith, b.counts)) c.args.most w _ b.counts
