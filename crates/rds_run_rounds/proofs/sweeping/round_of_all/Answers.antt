use Rattle.std.proofs.Common.{ℕ, length, subst, arith}
use Rattle.rds_run_rounds.specs.Grid.{rows_of}
use Rattle.rds_run_rounds.specs.Sweep.{AreSwept, IsPairBelow, IsPairOf}
use Rattle.rds_run_rounds.proofs.Halves.{rows_count}
use Rattle.rds_run_rounds.proofs.Sweeps.{next_host, none_below, whole_run}
use Rattle.rds_run_rounds.proofs.Swept.{hosts_swept}
use Rattle.rds_run_rounds.proofs.sweeping.round_of_all.Goals as goal

pub loop-low-init : goal.loop-low-init
loop-low-init g c = none_below g.W.End.End.means (rows_of c.args.wanted.now) (length c.args.lines.now.items) (rows_of c.args.lines.now.items)

pub round_of_host-of_host-requires-clause-hosts : goal.round_of_host-of_host-requires-clause-hosts
round_of_host-of_host-requires-clause-hosts g c = (
  c.requires.0,
  c.requires.1,
  hosts_swept g.W.End.End.means (rows_of c.args.wanted.now) (IsPairBelow c.loop-low.low (length c.args.lines.now.items)) c.loop-low.came (rows_of c.args.lines.now.items)
      (rows_of c.loop-low.lines.items) c.loop-low.invariant c.requires.0 c.requires.1 c.requires.2,
)

pub loop-low-preserved : goal.loop-low-preserved
loop-low-preserved g c =
    let m = g.W.End.End.means in
    let now = rows_of c.loop-low.lines.items in
    let new = rows_of c.round_of_host-of_host.new.lines.items in
    let came = c.round_of_host-of_host.result in
    let count = rows_count c.loop-low.lines.items in
    let first_count = rows_count c.args.lines.now.items in
    next_host m (rows_of c.args.wanted.now) c.loop-low.came came c.either-came.result (rows_of c.args.lines.now.items) now new c.either-came.ensures.idle c.either-came.ensures.exact
    c.loop-low.low (length c.args.lines.now.items) c.loop-low.invariant
    (subst (λ (n : ℕ). AreSwept m (rows_of c.args.wanted.now) (IsPairOf c.loop-low.low n) came now new) (omega (arith, c.loop-low.invariant.lengths.count, count, first_count))
    c.round_of_host-of_host.ensures)

pub returns : goal.returns
returns g c =
    let count = c.hosts_of-hosts.ensures in
    let test = c.loop-low-test.false in
    whole_run g.W.End.End.means (rows_of c.args.wanted.now) c.loop-low.low (length c.args.lines.now.items) c.loop-low.came (rows_of c.args.lines.now.items) (rows_of c.loop-low.lines.items)
    (omega (arith, count, test)) c.loop-low.invariant
