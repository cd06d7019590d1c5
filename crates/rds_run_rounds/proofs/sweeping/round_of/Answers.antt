use Rattle.std.proofs.Common.{slice_index_or, sym, subst, arith}
use Rattle.rds_run_rounds.specs.Grid.{rows_of}
use Rattle.rds_run_rounds.specs.Sweep.{AreSwept, IsPair}
use Rattle.rds_run_rounds.proofs.Halves.{back_part, both_rows, front_part, higher_row, lower_row, rows_count}
use Rattle.rds_run_rounds.proofs.OnePair.{swept_pair}
use Rattle.rds_run_rounds.proofs.Swept.{connected_rows}
use Rattle.rds_run_rounds.proofs.sweeping.round_of.Goals as goal

pub round_between-requires-clause-connected : goal.round_between-requires-clause-connected
round_between-requires-clause-connected g c =
    let hosts = c.requires.hosts in
    let xs = c.args.lines.now.items in
    let front = c.split_at_mut-lower.result.0.now in
    let back = c.split_at_mut-lower.result.1.now in
    let front_is = front_part xs c.deref_mut.result.now front c.from.result c.args.high c.split_at_mut-lower.ensures.front c.from.ensures c.deref_mut.ensures.value in
    let back_is = back_part xs c.deref_mut.result.now back c.from.result c.args.high c.split_at_mut-lower.ensures.back c.from.ensures c.deref_mut.ensures.value in
    let count = rows_count xs in (
      hosts.0,
      connected_rows g.W.End.End.means hosts.0 hosts.1 (rows_of xs) hosts.2 c.args.low c.args.high
          (slice_index_or front c.from-2.result c.index-lower-from.result).items (slice_index_or back 0 c.index-higher-0.result).items
          c.requires.less (omega (arith, c.requires.within, count))
          (lower_row xs front back c.args.low c.args.high c.from-2.result c.requires.less c.requires.within c.from-2.ensures front_is back_is c.index-lower-from.result)
          (higher_row xs front back c.args.low c.args.high c.from-2.result c.requires.less c.requires.within c.from-2.ensures front_is back_is c.index-higher-0.result),
    )

pub returns : goal.returns
returns g c =
    let xs = c.args.lines.now.items in
    let front = c.split_at_mut-lower.result.0.now in
    let back = c.split_at_mut-lower.result.1.now in
    let front_is = front_part xs c.deref_mut.result.now front c.from.result c.args.high c.split_at_mut-lower.ensures.front c.from.ensures c.deref_mut.ensures.value in
    let back_is = back_part xs c.deref_mut.result.now back c.from.result c.args.high c.split_at_mut-lower.ensures.back c.from.ensures c.deref_mut.ensures.value in
    subst (AreSwept g.W.End.End.means (rows_of c.args.wanted.now) (IsPair c.args.low c.args.high) c.round_between.result (rows_of xs))
    (sym
    (both_rows xs front back c.args.low c.args.high c.from-2.result c.requires.less c.requires.within c.from-2.ensures front_is back_is c.args.lines.now.len
    c.round_between.new.lower c.round_between.new.higher c.args.lines.now.ok.0))
    (swept_pair g.W.End.End.means (rows_of c.args.wanted.now) c.args.low c.args.high c.round_between.result (rows_of xs)
    (slice_index_or front c.from-2.result c.index-lower-from.result).items (slice_index_or back 0 c.index-higher-0.result).items c.requires.less
    (lower_row xs front back c.args.low c.args.high c.from-2.result c.requires.less c.requires.within c.from-2.ensures front_is back_is c.index-lower-from.result)
    (higher_row xs front back c.args.low c.args.high c.from-2.result c.requires.less c.requires.within c.from-2.ensures front_is back_is c.index-higher-0.result)
    c.round_between.new.lower.items c.round_between.new.higher.items c.wanted_of-wanted.result c.wanted_of-wanted.ensures c.round_between.ensures)
