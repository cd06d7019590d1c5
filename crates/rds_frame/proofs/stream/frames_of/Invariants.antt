use Rattle.std.proofs.Common.{◌≡◌, ◌++◌, take, None}
use Rattle.std.specs.List.{flat_map}
use Rattle.rds_frame.specs.Splitting.{frames_bytes}
use Rattle.rds_frame.specs.Holding.{held_bytes, IsFed}
use Rattle.rds_frame.proofs.stream.frames_of.Given as goal

abbrev pub ghost-feed : goal.ghost-feed
ghost-feed a = frames_bytes a.frames.now.items ++ held_bytes a.splitter.now

abbrev pub invariant-loop-piece : goal.invariant-loop-piece
invariant-loop-piece l =
    (l.splitter.waiting ≡ None) × IsFed l.highest l.known (flat_map (λ piece. piece.items) (take l.piece-index l.pieces)) l.frames.items l.splitter
