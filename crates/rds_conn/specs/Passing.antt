-- What the passing of a frame does. Source: this project's own; port 0 as in rds(7).
use Rattle.std.specs.Prelude.{◌≡◌, ℕ, ◌+◌, ◌-◌, ◌<◌, false, Option, Some, None, [], ◌∷◌}
use Rattle.rds_wire.specs.declared.frame.Frame.{Frame}
use Rattle.rds_model.specs.declared.entry.Entry.TheVariants.{Accept, Read}
use Rattle.rds_model.specs.declared.entry.TheConstants.{NO_SLOT}
use Rattle.rds_model.specs.declared.entry.Outcome.{Outcome}
use Rattle.rds_model.specs.declared.entry.Outcome.TheVariants as outcome
use Rattle.rds_model.specs.declared.entry.Verdict.{Verdict}
use Rattle.rds_model.specs.declared.entry.Verdict.TheVariants as verdict
use Rattle.rds_frame.specs.Splitting.{IsSound}
use Rattle.rds_model.specs.Past.{highest_pulled}
use Rattle.rds_model.specs.Reading.{verdict_of}
use Rattle.rds_model.specs.Legal.{IsWhole, pong_for}
use Rattle.rds_conn.specs.declared.conn.Found.{Found}
use Rattle.rds_conn.specs.declared.conn.Found.TheVariants as found
use Rattle.rds_conn.specs.Connection.{Connection, freed_bytes_of, with_entries, stream_of}
use Rattle.rds_conn.specs.Released.{released_bytes}
use Rattle.rds_model.specs.Alive.{alive_bytes}

-- a datagram's port was looked up: the socket of a slot holds it, or none
abbrev pub IsLookedUp : ℕ → Found → Type 0
IsLookedUp slots (found.Slot slot) = slot < slots
IsLookedUp slots found.NoSocket = Unit {0}
IsLookedUp slots found.Unasked = ⊥

-- the answer fits the verdict: the port is looked up exactly where the frame is to be delivered
abbrev pub Matches : ℕ → Verdict → Found → Type 0
Matches slots (verdict.Deliver dport) came = IsLookedUp slots came
Matches slots verdict.Old came = came ≡ found.Unasked
Matches slots verdict.Ping came = came ≡ found.Unasked
Matches slots verdict.Void came = came ≡ found.Unasked
Matches slots verdict.AckOnly came = came ≡ found.Unasked
Matches slots verdict.Map came = came ≡ found.Unasked
Matches slots verdict.OddMap came = came ≡ found.Unasked

-- the outcome of a datagram's look-up
abbrev pub delivery_of : Found → Outcome
delivery_of (found.Slot slot) = outcome.Slot slot
delivery_of found.NoSocket = outcome.NoSocket
delivery_of found.Unasked = outcome.NoSocket

-- what becomes of a frame with this verdict
abbrev pub outcome_of : Verdict → Found → Outcome
outcome_of (verdict.Deliver dport) came = delivery_of came
outcome_of verdict.Old came = outcome.Old
outcome_of verdict.Ping came = outcome.Ping
outcome_of verdict.Void came = outcome.Void
outcome_of verdict.AckOnly came = outcome.AckOnly
outcome_of verdict.Map came = outcome.Map
outcome_of verdict.OddMap came = outcome.OddMap

-- the connection with the acceptance of a pong, if one is owed to a port
abbrev pub with_pong : Option ℕ → Connection → Connection
with_pong None c = c
with_pong (Some port) c =
    record (with_entries (Accept NO_SLOT 0 port [] ∷ []) c) { store_spare = c.store_spare - 1; has_pong = false }

-- the connection with the entry of a frame that was read on stream s, and directly behind a ping its pong
abbrev pub after_pass : ℕ → Frame → Outcome → Connection → Connection
after_pass s f came c = with_pong (pong_for came f.header.sport) (record (with_entries (Read s f came ∷ []) c) { waiting = None })

-- The frame that waited was passed, where this came of the look-up of its port: it was sound, it went to the journal,
-- which stays legal, and what it acknowledges is held as freed.
pub record Passes (came : Found) (old new : Connection) : Type 0 where
  pub stream : ℕ
  pub frame : Frame
  pub on : stream_of old ≡ Some stream
  pub waits : old.waiting ≡ Some frame
  pub sound : IsSound (highest_pulled old.log.past) 0 frame
  pub legal : IsWhole new.log.past
  pub entry : new ≡ record (after_pass stream frame (outcome_of (verdict_of old.log.past frame.header) came) old) { freed = new.freed }
  pub accounts : (slot : ℕ) → slot < old.slots → freed_bytes_of slot new + released_bytes slot old.log.past ≡ freed_bytes_of slot old + released_bytes slot new.log.past
  pub conserved : (slot : ℕ) → slot < old.slots → freed_bytes_of slot new + alive_bytes slot new.log.past ≡ freed_bytes_of slot old + alive_bytes slot old.log.past
