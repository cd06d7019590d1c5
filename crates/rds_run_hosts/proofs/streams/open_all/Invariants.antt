use Rattle.std.proofs.Common.{◌≤◌, ◌+◌, ◌-◌, length}
use Rattle.rds_link.specs.Streaming.{HasRisenBy}
use Rattle.rds_line_channel.specs.Streams.{numbers}
use Rattle.rds_run_hosts.specs.Growing.{IsCount}
use Rattle.rds_run_hosts.specs.Preparing.{ArePrepared}
use Rattle.rds_run_hosts.specs.Streams.{AreAllUnlessLacking, AreAllUnlessRisen}
use Rattle.rds_run_hosts.proofs.streams.open_all.Given as goal

abbrev pub invariant-loop-before : goal.invariant-loop-before
invariant-loop-before g l = record {
  prepared : ArePrepared g.W.End.End.means l.before l.opened.low.items l.opened.high.items;
  lacks : AreAllUnlessLacking l.before l.opened.lacks (numbers l.opened.low.items);
  whole : AreAllUnlessRisen l.before (g.W.Wire.counted l.fn.wire).faults (g.W.Wire.counted l.wire).faults (numbers l.opened.low.items);
  missing : IsCount (g.W.Wire.counted l.wire).faults → HasRisenBy (l.before - length (numbers l.opened.low.items)) (g.W.Wire.counted l.fn.wire).faults (g.W.Wire.counted l.wire).faults;
  grows : (g.W.Wire.counted l.fn.wire).faults ≤ (g.W.Wire.counted l.wire).faults;
  out : g.W.Wire.out l.wire ≤ g.W.Wire.out l.fn.wire + (length l.opened.low.items + length l.opened.high.items);
}
