-- How what a line has put into mailboxes and counted stands to what its journal tells. Source: this project's own.
use Rattle.std.specs.Prelude.{◌≡◌, ℕ, ◌+◌, ◌<◌, if◌then◌else◌, List, [], ◌∷◌, ◌++◌, Some, None}
use Rattle.rds_model.specs.declared.entry.Entry.{Entry}
use Rattle.rds_model.specs.declared.entry.Entry.TheVariants.{Read}
use Rattle.rds_model.specs.declared.entry.Outcome.TheVariants as outcome
use Rattle.rds_model.specs.declared.entry.TheConstants.{MAX_SLOTS}
use Rattle.rds_model.specs.declared.order.Datagram.{Datagram}
use Rattle.rds_model.specs.Deliveries.{delivered_datagrams, put_bytes}
use Rattle.rds_mail.specs.Passes.{Putter}
use Rattle.rds_conn.specs.Connection.{Connection, freed_bytes_of}
use Rattle.rds_conn.specs.Released.{released_bytes}
use Rattle.rds_meter.specs.declared.view.View.{View}
use Rattle.rds_meter.specs.declared.view.Check.{Check}
use Rattle.rds_meter.specs.Places.{part, freed_word, put_word}
use Rattle.rds_meter.specs.Seats.{must_raise}
use Rattle.rds_line_parts.specs.Boxes.{IsBoxOf}

-- the check of a delivery to this slot at this port: it raised the port's bit exactly where it had to, and no other bit
pub record IsCheckOf (slot port : ℕ) (check : Check) : Type 0 where
  pub slot_is : check.slot ≡ slot
  pub raised : check.raised ≡ (if must_raise check then Some port else None)

-- the checks are those of the deliveries, one of each, in order
abbrev pub AreChecksOf : List Entry → List Check → Type 0
AreChecksOf [] checks = checks ≡ []
AreChecksOf (Read stream frame (outcome.Slot slot) ∷ past) checks =
    (earlier : List Check) × (last : Check) × (checks ≡ earlier ++ last ∷ []) × IsCheckOf slot frame.header.dport last × AreChecksOf past earlier
AreChecksOf (_ ∷ past) checks = AreChecksOf past checks

-- the seat has put as many bytes of each slot as were delivered to it, and has made one check for each delivery
pub record IsCountedFor (past : List Entry) (v : View) : Type 0 where
  pub put : (slot : ℕ) → slot < MAX_SLOTS → part (put_word slot) v.steps ≡ put_bytes slot past
  pub checks : AreChecksOf past v.checks

-- into the box of each slot it has put exactly what was delivered to the slot, in order, where `from` is the peer's address
abbrev pub IsPutFor : ℕ → List Entry → List (Putter Datagram) → Type 0
IsPutFor from past boxes = (slot : ℕ) (box : Putter Datagram) → IsBoxOf boxes slot box → box.put ≡ delivered_datagrams from slot past

-- for each slot, what it has added to the freed word and what the connection still holds as freed are the bytes of the slot's
-- numbers that are no longer alive
abbrev pub IsFreedFor : Connection → View → Type 0
IsFreedFor conn v = (slot : ℕ) → slot < conn.slots → part (freed_word slot) v.steps + freed_bytes_of slot conn ≡ released_bytes slot conn.log.past
