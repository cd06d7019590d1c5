-- Which events leave a host as it is. Source: this project's own.
use Rattle.std.specs.Prelude.{◌≡◌, ◌≢◌, ℕ, Bool, false}
use Rattle.rds_model.specs.declared.entry.Entry.{Entry}
use Rattle.rds_model.specs.declared.entry.Entry.TheVariants.{Read}
use Rattle.rds_model.specs.Pairs.{is_delivery}
use Rattle.rds_history.specs.Events.{Event, Appended, Bound, Closed, Received, Marked, Moved, Printed}

-- a datagram is delivered with the entry
abbrev pub delivers : Entry → Bool
delivers (Read stream frame outcome) = is_delivery outcome
delivers _ = false

-- the event changes nothing of host a's sockets, ports and marks: it is another host's, or delivers nothing
abbrev pub IsElsewhere : ℕ → Event → Type 0
IsElsewhere a (Appended h k e) = h ≡ a → delivers e ≡ false
IsElsewhere a (Bound h port slot sndbuf rcvbuf) = h ≢ a
IsElsewhere a (Closed h port slot unread) = h ≢ a
IsElsewhere a (Received h port slot d) = h ≢ a
IsElsewhere a (Marked h port set queued limit) = h ≢ a
IsElsewhere a (Moved h k count) = Unit {0}
IsElsewhere a (Printed text) = Unit {0}
