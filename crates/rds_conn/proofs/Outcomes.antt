-- What becomes of a frame that is passed.
use Rattle.std.proofs.Common.{◌≡◌, ℕ, Option, Some, None, List, refl, ◌∙◌, ap}
use Rattle.std.specs.Option.{option_map}
use Rattle.rds_wire.specs.declared.frame.Frame.{Frame}
use Rattle.rds_model.specs.declared.entry.Entry.{Entry}
use Rattle.rds_model.specs.declared.entry.Verdict.{Verdict}
use Rattle.rds_model.specs.declared.entry.Verdict.TheVariants as verdict
use Rattle.rds_model.specs.Reading.{verdict_of}
use Rattle.rds_model.specs.Legal.{pong_for}
use Rattle.rds_conn.specs.declared.conn.Found.{Found}
use Rattle.rds_conn.specs.declared.conn.Found.TheVariants as found
use Rattle.rds_conn.specs.Passing.{delivery_of, outcome_of}

-- only a ping is answered
no_pong_delivered : (came : Found) (port : ℕ) → pong_for (delivery_of came) port ≡ None
no_pong_delivered (found.Slot slot) port = refl
no_pong_delivered found.NoSocket port = refl
no_pong_delivered found.Unasked port = refl

pub no_pong : (v : Verdict) (came : Found) → (v ≡ verdict.Ping → ⊥) → (port : ℕ) → pong_for (outcome_of v came) port ≡ None
no_pong (verdict.Deliver dport) came other port = no_pong_delivered came port
no_pong verdict.Old came other port = refl
no_pong verdict.Ping came other port = absurd (other refl)
no_pong verdict.Void came other port = refl
no_pong verdict.AckOnly came other port = refl
no_pong verdict.Map came other port = refl
no_pong verdict.OddMap came other port = refl

-- a verdict is that of the frame that waits
pub verdict_there : (past : List Entry) (o : Option Frame) (v : Verdict) (f : Frame) → Some v ≡ option_map (λ (g : Frame). verdict_of past g.header) o →
    o ≡ Some f → v ≡ verdict_of past f.header
verdict_there past o v f is there =
    let both : Some v ≡ Some (verdict_of past f.header) = is ∙ ap (option_map (λ (g : Frame). verdict_of past g.header)) there in cc
