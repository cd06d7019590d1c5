use Rattle.std.proofs.Common.{◌≤◌, ◌+◌, sym, subst, arith}
use Rattle.rds_meter.specs.Places.{part, put_word}
use Rattle.rds_meter.specs.Seats.{MeterSeat}
use Rattle.rds_test_hosts.proofs.Amounts.{part-most}
use Rattle.rds_test_hosts.proofs.counts.LineCounts.count_put.Goals as goal

pub invariant_of-self-clause-bounded : goal.invariant_of-self-clause-bounded
invariant_of-self-clause-bounded c =
    λ word.
    let old = c.args.self.now in
    let grown = part-most old.seat.view word (put_word 0) c.args.bytes c.put_add.result old.added (old.bounded word) in
    let most = subst (λ (h : MeterSeat). part word h.view.steps ≤ old.added + c.args.bytes) (sym c.put_add.ensures.seat) grown in
    let same = c.from.ensures in
    omega arith
