use Rattle.std.proofs.Common.{◌<◌, ◌≤◌, length, arith}
use Rattle.rds_run_rounds.specs.Causes.{alive_in_row}
use Rattle.rds_run_rounds.proofs.Alive.{counted_more, row_small}
use Rattle.rds_run_rounds.proofs.Halves.{rows_count}
use Rattle.rds_run_rounds.proofs.counting.unacked.Goals as goal
use Rattle.rds_run_rounds.proofs.counting.unacked.Goals.{After-index}

below : (g : _) (c : After-index g) → c.loop-host.host < length c.args.lines.now.items
below g c = let test = c.loop-host-test.true in let count = c.len-host-end.ensures in omega (arith, test, count)

small : (g : _) (c : After-index g) → length c.index.result.now.items < 8
small g c = row_small c.args.lines.now.items c.loop-host.host c.index.result.now (below g c) c.index.ensures c.requires.0 c.requires.1 c.requires.2

-- there are at most eight hosts
rows_within : (g : _) (c : After-index g) → length c.args.lines.now.items ≤ 8
rows_within g c = let count = rows_count c.args.lines.now.items in let all = c.requires.2.count in let few = c.requires.1 in omega (arith, count, all, few)

pub unacked_of-count-requires : goal.unacked_of-count-requires
unacked_of-count-requires g c = small g c

pub overflow_add-count : goal.overflow_add-count
overflow_add-count g c =
    let d = (goal.at.overflow_add-count g c).After-index in
    let few = small g d in
    let within = below g d in
    let rows = rows_within g d in
    let so_far = c.loop-host.invariant.most in
    let most = c.unacked_of-count.ensures.most in
    omega (arith, few, within, rows, so_far, most)

pub loop-host-preserved : goal.loop-host-preserved
loop-host-preserved g c =
    let d = (goal.at.loop-host-preserved g c).After-index in
    let few = small g d in
    let more = counted_more c.args.lines.now.items c.loop-host.host c.index.result.now (below g d) c.index.ensures alive_in_row in
    let so_far = c.loop-host.invariant.count in
    let one = c.unacked_of-count.ensures.count in
    let was = c.loop-host.invariant.most in
    let most = c.unacked_of-count.ensures.most in
    record { count = omega (arith, more, so_far, one); most = omega (arith, few, was, most) }
