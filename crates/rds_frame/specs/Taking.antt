-- What one piece does to a splitter.
use Rattle.std.specs.Prelude.{◌≡◌, ℕ, ◌-◌, ◌<◌, ◌≤◌, ◌++◌, true, false, List, length, take, Some, None, is_some}
use Rattle.rds_wire.specs.declared.header.Header.{Header}
use Rattle.rds_wire.specs.declared.kind.Malformed.{Malformed}
use Rattle.rds_wire.specs.Bytes.{header_bytes, IsHeader}
use Rattle.rds_wire.specs.Kinds.{cause}
use Rattle.rds_frame.specs.declared.took.Took.{Took}
use Rattle.rds_frame.specs.Splitting.{IsClear}
use Rattle.rds_frame.specs.Holding.{SplitterView, held_bytes, refusing}

-- it took the front of the piece: all of it, or as much as makes a frame whole
pub record TakesPiece (highest known : ℕ) (old : SplitterView) (piece : List ℕ) (took : Took) (new : SplitterView) : Type 0 where
  pub used : took.used ≤ length piece
  pub bytes : held_bytes new ≡ held_bytes old ++ take took.used piece
  pub ready : took.ready ≡ is_some new.waiting
  pub all : took.ready ≡ false → took.used ≡ length piece
  pub progress : old.waiting ≡ None → took.ready ≡ true → 0 < took.used
  pub clear : length (held_bytes old) < 48 → IsClear highest known (held_bytes new)
  pub still_open : new.refused ≡ None

-- with this piece a header became whole that has this fault, and it was refused
pub record RefusesPiece (highest known : ℕ) (old : SplitterView) (piece : List ℕ) (fault : Malformed) (new : SplitterView) : Type 0 where
  pub header : Header
  pub fits : IsHeader header
  pub cause : cause header highest known ≡ Some fault
  pub short : length (held_bytes old) < 48
  pub bytes : header_bytes header ≡ held_bytes old ++ take (48 - length (held_bytes old)) piece
  pub after : new ≡ refusing header
