-- The steps of a socket on its host's meter. This project's own.
use Rattle.std.specs.Prelude.{◌≡◌, ◌≢◌, ℕ, ◌+◌, ◌/◌, ◌%◌, ◌==◌, nat_lt, nat_le, if◌then◌else◌, []}
use Rattle.std.specs.Int.{bit_at}
use Rattle.rds_meter.specs.declared.view.View.{View}
use Rattle.rds_meter.specs.declared.view.Stage.TheVariants.{Idle}
use Rattle.rds_meter.specs.Places.{put_word, taken_word, map_word, part}
use Rattle.rds_meter.specs.Seats.{MeterSeat, knowing, after_add, after_load, after_lower, after_bump}

-- the words of a slot: the slot, and its seat at the meter
pub record Purse : Type 0 where
  pub slot : ℕ
  pub seat : MeterSeat

abbrev pub purse_with : Purse → View → Purse
purse_with p v = record { slot = p.slot; seat = knowing p.seat v }

-- n bytes were taken: they are added to the taken word, which is only loaded where the seat's part would pass 2^52
abbrev pub after_taking : View → ℕ → ℕ → ℕ → View
after_taking v slot n taken = if nat_le (part (taken_word slot) v.steps + n) 4503599627370496 then after_add v (taken_word slot) n taken else after_load v (taken_word slot) taken

-- the port's bit is lowered, and the change counted
abbrev pub after_clearing : View → ℕ → ℕ → View
after_clearing v port change = after_bump (after_lower v port) change

-- the word of the port's bit is loaded, and the bit lowered where it is set
abbrev pub after_relief : View → ℕ → ℕ → ℕ → View
after_relief v port bits change = if bit_at bits (port % 64) == 1 then after_clearing (after_load v (map_word port) bits) port change else after_load v (map_word port) bits

-- then the put word is loaded, and where put less taken is below half the limit, the port is relieved
abbrev pub after_putting : View → ℕ → ℕ → ℕ → ℕ → ℕ → ℕ → ℕ → View
after_putting v slot port limit taken put bits change =
    if nat_lt put (taken + limit / 2) then after_relief (after_load v (put_word slot) put) port bits change else after_load v (put_word slot) put

-- the steps of a receipt of n bytes at a port with this receive limit, by what they find
abbrev pub after_receipt : View → ℕ → ℕ → ℕ → ℕ → ℕ → ℕ → ℕ → ℕ → View
after_receipt v slot port limit n taken put bits change = after_putting (after_taking v slot n taken) slot port limit taken put bits change

-- a receipt of n bytes makes these steps
abbrev pub IsReceipt : ℕ → ℕ → ℕ → Purse → Purse → Type 0
IsReceipt port limit n old new = (taken put bits change : ℕ) × (new ≡ purse_with old (after_receipt old.seat.view old.slot port limit n taken put bits change))

-- a socket's seat has made no check, and has added to its slot's taken word alone
pub record IsQuietSeat (slot : ℕ) (v : View) : Type 0 where
  pub stage : v.stage ≡ Idle
  pub checks : v.checks ≡ []
  pub pending : v.pending ≡ []
  pub parts : (word : ℕ) → word ≢ taken_word slot → part word v.steps ≡ 0
