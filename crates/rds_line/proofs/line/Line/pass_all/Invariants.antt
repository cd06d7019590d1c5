use Rattle.std.proofs.Common.{◌≡◌, ◌≢◌, ℕ, suc, ◌<◌, IsSome, None, List, [], length}
use Rattle.rds_conn.specs.Connection.{IsReady}
use Rattle.rds_line_channel.specs.declared.channel.Taken.{Taken}
use Rattle.rds_line_channel.specs.declared.channel.Taken.TheVariants as taken
use Rattle.rds_line.specs.Line.{line_past}
use Rattle.rds_line.specs.Steps.{KeepsArrived, KeepsOut, KeepsUnwritten, StaysQuiet}
use Rattle.rds_line.proofs.line.Line.pass_all.Given as goal

-- how much is left of what came, where a frame is to be passed
abbrev left_after : Taken → List ℕ → ℕ
left_after taken.Frame piece = suc (length piece)
left_after taken.Part piece = 0
left_after taken.Refused piece = 0

abbrev pub invariant-loop-taken : goal.invariant-loop-taken
invariant-loop-taken g l = record {
  quiet : StaysQuiet g.E.End.means g.M.MapWriter.pair l.fn.self l.self;
  streams : l.taken ≢ taken.Refused → l.self.channel.streams ≡ l.fn.self.channel.streams;
  ready : l.taken ≡ taken.Frame → IsReady l.self.channel.conn;
  frame : l.taken ≡ taken.Frame → IsSome l.self.channel.conn.waiting;
  part : l.taken ≡ taken.Part → (l.self.channel.conn.waiting ≡ None) × (l.self.channel.piece ≡ []);
  arrived : KeepsArrived l.fn.self.channel l.self.channel;
  unwritten : KeepsUnwritten l.fn.self.channel l.self.channel;
  out : KeepsOut l.fn.self.channel l.self.channel;
  refused : l.taken ≡ taken.Refused → length (line_past l.fn.self) < length (line_past l.self);
}

abbrev pub decreases-loop-taken : goal.decreases-loop-taken
decreases-loop-taken g l = left_after l.taken l.self.channel.piece
