use Rattle.std.proofs.Common.{arith}
use Rattle.std.proofs.lemmas.List.Sums.{sum_by_push}
use Rattle.rds_host.specs.Held.{ends_of}
use Rattle.rds_run_threads.proofs.giving.end_row.Goals as goal

pub loop-line-preserved : goal.loop-line-preserved
loop-line-preserved g c =
    let more = sum_by_push ends_of c.loop-line.yielded c.in-Some.line in
    let past = c.loop-line.invariant.0 in (
      omega (arith, more, past, c.end_line.ensures.out),
      λ before fits risen. c.end_line.ensures.risen before fits (c.loop-line.invariant.1 before fits risen),
    )
