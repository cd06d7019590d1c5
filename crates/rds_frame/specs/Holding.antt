-- What a splitter holds of the bytes that it has taken, between two pieces.
use Rattle.std.specs.Prelude.{◌≡◌, ℕ, List, [], ◌++◌, All, Option, Some, None, IfSome}
use Rattle.rds_wire.specs.declared.header.Header.{Header}
use Rattle.rds_wire.specs.declared.frame.Frame.{Frame}
use Rattle.rds_wire.specs.Bytes.{header_bytes, frame_bytes, IsHeader}
use Rattle.rds_frame.specs.Splitting.{frames_bytes, IsClear, IsFrame, IsPartial, IsSound}

-- the bytes that are no whole frame, the whole frame that waits, and the header that was refused
pub record SplitterView : Type 0 where
  pub rest : List ℕ
  pub waiting : Option Frame
  pub refused : Option Header

-- it has taken no byte, or handed all of them out
abbrev pub nothing_held : SplitterView
nothing_held = record { rest = []; waiting = None; refused = None }

-- it has refused this header
abbrev pub refusing : Header → SplitterView
refusing h = record { rest = header_bytes h; waiting = None; refused = Some h }

abbrev pub waiting_bytes : Option Frame → List ℕ
waiting_bytes None = []
waiting_bytes (Some f) = frame_bytes f

-- the bytes that were taken and not handed out
abbrev pub held_bytes : SplitterView → List ℕ
held_bytes held = waiting_bytes held.waiting ++ held.rest

-- at most one of three: a whole frame and nothing after it, a refused header, or less than a whole frame
pub record HoldsAtMostOneFrame (held : SplitterView) : Type 0 where
  pub waiting : IfSome held.waiting (λ f. IsFrame f × (held ≡ record { rest = []; waiting = Some f; refused = None }))
  pub refused : IfSome held.refused (λ h. IsHeader h × (held ≡ refusing h))
  pub partial : held.waiting ≡ None → held.refused ≡ None → IsPartial held.rest

-- a splitter that isn't closed has taken these bytes, of which these frames were handed out
pub record IsFed (highest known : ℕ) (bytes : List ℕ) (frames : List Frame) (held : SplitterView) : Type 0 where
  pub bytes_are : bytes ≡ frames_bytes frames ++ held_bytes held
  pub each : All (IsSound highest known) frames
  pub held_is : HoldsAtMostOneFrame held
  pub clear : IsClear highest known (held_bytes held)
  pub «open» : held.refused ≡ None
