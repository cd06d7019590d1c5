-- What becomes of a frame that is read. Source: this project's own; port 0 as in rds(7).
use Rattle.std.specs.Prelude.{◌≡◌, ℕ, ◌<◌, ◌==◌, ◌&&◌, nat_le, if◌then◌else◌, Bool, List}
use Rattle.rds_wire.specs.declared.header.Header.{Header}
use Rattle.rds_wire.specs.declared.header.TheConstants.{RETRANSMITTED}
use Rattle.rds_wire.specs.declared.kind.Kind.{Kind}
use Rattle.rds_wire.specs.declared.kind.Kind.TheVariants.{Data, Ack, Map, OddMap}
use Rattle.rds_wire.specs.Kinds.{carries, kind_of}
use Rattle.rds_model.specs.declared.entry.Entry.{Entry}
use Rattle.rds_model.specs.declared.entry.TheConstants.{MAX_SLOTS}
use Rattle.rds_model.specs.declared.entry.Outcome.{Outcome}
use Rattle.rds_model.specs.declared.entry.Outcome.TheVariants as outcome
use Rattle.rds_model.specs.declared.entry.Verdict.{Verdict}
use Rattle.rds_model.specs.declared.entry.Verdict.TheVariants as verdict
use Rattle.rds_model.specs.Past.{last_passed}

-- a datagram is a copy of a passed one: it is marked as pulled before, and its number isn't above the last passed one
abbrev pub is_old : List Entry → Header → Bool
is_old past h = nat_le h.sequence (last_passed past) && carries RETRANSMITTED h.flags

-- the verdict of a datagram that is no old copy, by its ports
abbrev pub verdict_of_ports : ℕ → ℕ → Verdict
verdict_of_ports sport dport =
    if dport == 0 then (if sport == 0 then verdict.Void else verdict.Ping) else verdict.Deliver dport

-- the verdict of a header by its kind
abbrev pub verdict_of_kind : Kind → List Entry → Header → Verdict
verdict_of_kind Map past h = verdict.Map
verdict_of_kind OddMap past h = verdict.OddMap
verdict_of_kind Ack past h = verdict.AckOnly
verdict_of_kind Data past h = if is_old past h then verdict.Old else verdict_of_ports h.sport h.dport

-- what has to become of a frame with this header
abbrev pub verdict_of : List Entry → Header → Verdict
verdict_of past h = verdict_of_kind (kind_of h) past h

-- a datagram was delivered to a socket, or none held its port
abbrev pub IsDelivered : Outcome → Type 0
IsDelivered (outcome.Slot slot) = slot < MAX_SLOTS
IsDelivered outcome.NoSocket = Unit {0}
IsDelivered _ = ⊥

-- the outcome does what the verdict says
abbrev pub Obeys : Verdict → Outcome → Type 0
Obeys (verdict.Deliver dport) came = IsDelivered came
Obeys verdict.Old came = came ≡ outcome.Old
Obeys verdict.Ping came = came ≡ outcome.Ping
Obeys verdict.Void came = came ≡ outcome.Void
Obeys verdict.AckOnly came = came ≡ outcome.AckOnly
Obeys verdict.Map came = came ≡ outcome.Map
Obeys verdict.OddMap came = came ≡ outcome.OddMap
