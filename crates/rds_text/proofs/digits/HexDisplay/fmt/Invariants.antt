use Rattle.std.proofs.Common.{◌≡◌, ℕ, List, ◌++◌, flat_map}
use Rattle.std.specs.Fmt.{HasWritten, IsPlainFormatter}
use Rattle.std.specs.Slice.Iter.{chunks_rest, chunks_size}
use Rattle.rds_text.specs.Words.{hex_byte}
use Rattle.rds_text.proofs.digits.HexDisplay.fmt.Given as goal

abbrev pub invariant-loop-piece : goal.invariant-loop-piece
invariant-loop-piece g l =
    let pieces = l.piece-iterator in
    (goal.iterator-loop-piece g).can_next pieces
    × (goal.iterator-loop-piece g).is_finite pieces
    × (chunks_size pieces ≡ 64)
    × (IsPlainFormatter l.initial.f → (done : List ℕ) × HasWritten g.W.Write.write_str_gives l.initial.f done l.f
    × (done ++ flat_map hex_byte (chunks_rest pieces) ≡ flat_map hex_byte l.fn.self.0.now))
