use Rattle.std.proofs.Common.{◌+◌, length, refl, sym, arith}
use Rattle.rds_run_rounds.specs.Grid.{rows_of}
use Rattle.rds_run_rounds.specs.Sweep.{IsPairOf}
use Rattle.rds_run_rounds.proofs.Halves.{rows_count}
use Rattle.rds_run_rounds.proofs.Sweeps.{next_pair, none_of, whole_host}
use Rattle.rds_run_rounds.proofs.Swept.{hosts_swept}
use Rattle.rds_run_rounds.proofs.sweeping.round_of_host.Goals as goal

pub loop-high-init : goal.loop-high-init
loop-high-init g c = none_of g.W.End.End.means (rows_of c.args.wanted.now) c.args.low (c.args.low + 1) (rows_of c.args.lines.now.items) refl

pub round_of-of_pair-requires-clause-hosts : goal.round_of-of_pair-requires-clause-hosts
round_of-of_pair-requires-clause-hosts g c =
    let hosts = c.requires.hosts in (
      hosts.0,
      hosts.1,
      hosts_swept g.W.End.End.means (rows_of c.args.wanted.now) (IsPairOf c.args.low c.loop-high.high) c.loop-high.came (rows_of c.args.lines.now.items) (rows_of c.loop-high.lines.items)
          c.loop-high.invariant hosts.0 hosts.1 hosts.2,
    )

pub loop-high-preserved : goal.loop-high-preserved
loop-high-preserved g c =
    next_pair g.W.End.End.means (rows_of c.args.wanted.now) c.loop-high.came c.round_of-of_pair.result c.either-came.result (rows_of c.args.lines.now.items) (rows_of c.loop-high.lines.items)
    (rows_of c.round_of-of_pair.new.lines.items) c.either-came.ensures.idle c.either-came.ensures.exact c.args.low c.loop-high.high c.loop-high.invariant
    c.round_of-of_pair.ensures

pub returns : goal.returns
returns g c =
    let count = c.hosts_of-hosts.ensures in
    let test = c.loop-high-test.false in
    whole_host g.W.End.End.means (rows_of c.args.wanted.now) c.args.low c.loop-high.high (length c.args.lines.now.items) c.loop-high.came (rows_of c.args.lines.now.items)
    (rows_of c.loop-high.lines.items) (omega (arith, count, test)) (sym (rows_count c.args.lines.now.items)) c.loop-high.invariant
