use Rattle.std.proofs.Common.{length}
use Rattle.rds_frame.proofs.Feeding.{IsFeeding}
use Rattle.rds_frame.proofs.stream.feed.Given as goal

abbrev pub invariant-loop-took : goal.invariant-loop-took
invariant-loop-took g l = IsFeeding l.highest l.known g.bytes l.piece l.left l.frames.items l.splitter

abbrev pub decreases-loop-took : goal.decreases-loop-took
decreases-loop-took g l = length l.left
