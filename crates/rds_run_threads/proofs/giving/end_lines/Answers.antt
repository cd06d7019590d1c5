use Rattle.std.proofs.Common.{arith}
use Rattle.rds_run_threads.proofs.Held.{rows_more}
use Rattle.rds_run_threads.proofs.giving.end_lines.Goals as goal

pub loop-row-preserved : goal.loop-row-preserved
loop-row-preserved g c =
    let more = rows_more c.loop-row.yielded c.in-Some.row in
    let past = c.loop-row.invariant.0 in (
      omega (arith, more, past, c.end_row.ensures.out),
      λ before fits risen. c.end_row.ensures.risen before fits (c.loop-row.invariant.1 before fits risen),
    )
