-- A frame that waits is whole.
use Rattle.std.proofs.Common.{ℕ, Option, Some, None, IfSome}
use Rattle.rds_wire.specs.declared.frame.Frame.{Frame}
use Rattle.rds_frame.specs.Splitting.{IsFrame, IsSound}

pub whole_of_sound : (top : ℕ) (waiting : Option Frame) → IfSome waiting (IsSound top 0) → IfSome waiting IsFrame
whole_of_sound top None sound = sound
whole_of_sound top (Some f) sound = sound.frame
