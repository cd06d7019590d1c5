use Rattle.std.proofs.Common.{arith}
use Rattle.rds_run_rounds.specs.Causes.{AreClosed}
use Rattle.rds_run_rounds.proofs.Halves.{rows_all}
use Rattle.rds_run_rounds.proofs.counting.are_closed.Goals as goal

pub returns : goal.returns
returns g c =
    let count = c.len-host-end.ensures in
    let test = c.loop-host-test.false in
    λ closed. rows_all AreClosed c.loop-host.host c.args.lines.now.items (omega (arith, count, test)) c.loop-host.invariant
