use Rattle.std.proofs.Common.{ℕ, Vec, length, arith}
use Rattle.std.specs.Global.{Global}
use Rattle.std.proofs.lemmas.List.Sums.{sum_by_push}
use Rattle.rds_run_hosts.proofs.returning.give_back_row.Goals as goal

pub loop-ends-preserved : goal.loop-ends-preserved
loop-ends-preserved g c =
    let more = sum_by_push (λ (list : Vec (ℕ × g.row.W-End.Denot) Global). length list.items) c.loop-ends.yielded c.in-Some.ends in
    let past = c.loop-ends.invariant in
    (omega (arith, more, past.0, c.give_back_ends.ensures.out), omega (arith, past.1, c.give_back_ends.ensures.faults))
