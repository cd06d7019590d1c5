-- Which frames a list of bytes is. Whole lists alone are spoken of here, and no pieces. The rule of what a header may
-- not have, and where it is refused, is this project's own.
use Rattle.std.specs.Prelude.{◌≡◌, ℕ, ◌<◌, ◌⊎◌, List, ◌++◌, length, All, Some, None}
use Rattle.std.specs.List.{flat_map}
use Rattle.rds_wire.specs.declared.header.Header.{Header}
use Rattle.rds_wire.specs.declared.frame.Frame.{Frame}
use Rattle.rds_wire.specs.declared.kind.Malformed.{Malformed}
use Rattle.rds_wire.specs.Bytes.{header_bytes, frame_bytes, IsHeader}
use Rattle.rds_wire.specs.Kinds.{cause}

-- a frame on the wire: its payload is as long as its header says
pub record IsFrame (f : Frame) : Type 0 where
  pub header : IsHeader f.header
  pub payload : length f.payload ≡ f.header.len

-- a header, and fewer bytes after it than it announces
pub record IsUnfinished (bytes : List ℕ) : Type 0 where
  pub header : Header
  pub body : List ℕ
  pub fits : IsHeader header
  pub bytes_are : bytes ≡ header_bytes header ++ body
  pub short : length body < header.len

-- less than a whole frame: fewer bytes than a header has, or an unfinished frame
abbrev pub IsPartial : List ℕ → Type 0
IsPartial bytes = (length bytes < 48) ⊎ IsUnfinished bytes

-- the bytes of frames, one after another
abbrev pub frames_bytes : List Frame → List ℕ
frames_bytes frames = flat_map frame_bytes frames

-- the bytes are these frames, and then less than a whole one
pub record Splits (bytes : List ℕ) (frames : List Frame) (rest : List ℕ) : Type 0 where
  pub whole : bytes ≡ frames_bytes frames ++ rest
  pub each : All IsFrame frames
  pub partial : IsPartial rest

-- a frame whose header has no fault, where the reader has pulled no number above `highest` and read no generation above
-- `known`
pub record IsSound (highest known : ℕ) (f : Frame) : Type 0 where
  pub frame : IsFrame f
  pub cause : cause f.header highest known ≡ None

-- if the bytes begin with a header, it has no fault
abbrev pub IsClear : ℕ → ℕ → List ℕ → Type 0
IsClear highest known bytes =
    (h : Header) (more : List ℕ) → IsHeader h → bytes ≡ header_bytes h ++ more → cause h highest known ≡ None

-- the bytes begin with a header that has this fault
pub record BeginsMalformed (highest known : ℕ) (bytes : List ℕ) (fault : Malformed) : Type 0 where
  pub header : Header
  pub more : List ℕ
  pub whole : bytes ≡ header_bytes header ++ more
  pub fits : IsHeader header
  pub cause : cause header highest known ≡ Some fault

-- sound frames, and then a header with this fault
pub record IsMalformed (highest known : ℕ) (bytes : List ℕ) (fault : Malformed) : Type 0 where
  pub frames : List Frame
  pub after : List ℕ
  pub whole : bytes ≡ frames_bytes frames ++ after
  pub each : All (IsSound highest known) frames
  pub refuses : BeginsMalformed highest known after fault
