use Rattle.std.proofs.Common.{◌≡◌, ◌++◌, length}
use Rattle.std.specs.List.{All}
use Rattle.rds_frame.specs.Splitting.{frames_bytes, IsSound}
use Rattle.rds_frame.proofs.plain.frames_in.Given as goal

abbrev pub invariant-loop-frames : goal.invariant-loop-frames
invariant-loop-frames l = (l.bytes ≡ frames_bytes l.frames.items ++ l.rest) × All (IsSound l.highest l.known) l.frames.items

abbrev pub decreases-loop-frames : goal.decreases-loop-frames
decreases-loop-frames l = length l.rest
