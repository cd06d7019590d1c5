use Rattle.std.proofs.Common.{arith}
use Rattle.rds_run_hosts.proofs.Held.{prepared_more}
use Rattle.rds_run_hosts.proofs.returning.give_back_rows.Goals as goal

pub loop-row-preserved : goal.loop-row-preserved
loop-row-preserved g c =
    let more = prepared_more c.loop-row.yielded c.in-Some.row in
    let past = c.loop-row.invariant in
    (omega (arith, more, past.0, c.give_back_row.ensures.out), omega (arith, past.1, c.give_back_row.ensures.faults))
