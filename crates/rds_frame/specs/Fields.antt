-- What the fields of a splitter keep.
use Rattle.std.specs.Prelude.{◌≡◌, ℕ, ◌<◌, ◌≤◌, List, [], length, Option, None, IfSome}
use Rattle.rds_wire.specs.declared.header.Header.{Header}
use Rattle.rds_wire.specs.declared.frame.Frame.{Frame}
use Rattle.rds_wire.specs.Bytes.{header_bytes, IsHeader}
use Rattle.rds_frame.specs.Splitting.{IsFrame}

-- `head` is a whole header that announces more than these bytes, and no more than a frame may have
pub record Announces (head body : List ℕ) : Type 0 where
  pub header : Header
  pub fits : IsHeader header
  pub bytes : header_bytes header ≡ head
  pub short : length body < header.len
  pub limit : header.len ≤ 1048576

-- no byte came after a whole frame
abbrev pub IsLastFrame : ℕ → Option Header → Frame → Type 0
IsLastFrame came refused f = IsFrame f × (came ≡ 0) × (refused ≡ None)

-- nor after a refused header
abbrev pub IsLastHeader : List ℕ → ℕ → List ℕ → Header → Type 0
IsLastHeader head came body h = IsHeader h × (header_bytes h ≡ head) × (came ≡ 48) × (body ≡ [])

-- `came` bytes of a header came, and after a whole one those of its payload
pub record IsSplitter (head : List ℕ) (came : ℕ) (body : List ℕ) (waiting : Option Frame) (refused : Option Header) : Type 0 where
  pub len : length head ≡ 48
  pub came_fits : came ≤ 48
  pub early : came < 48 → body ≡ []
  pub whole : came ≡ 48 → refused ≡ None → Announces head body
  pub frame : IfSome waiting (IsLastFrame came refused)
  pub header : IfSome refused (IsLastHeader head came body)
