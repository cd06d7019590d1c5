-- What each kind of step on the meter leaves its seat with, by the number that it found.
use Rattle.std.specs.Prelude.{◌≡◌, ◌+◌, ◌-◌, ◌%◌, ◌^◌, ◌<◌, ◌≤◌, ℕ}
use Rattle.atomic_table.specs.Table.{Me, Step}
use Rattle.rds_meter.specs.declared.view.View.{View}
use Rattle.rds_meter.specs.Places.{map_word, mask_of, part}
use Rattle.rds_meter.specs.Seats.{after_add, after_store, after_load, after_raise, after_lower, after_bump}
use Rattle.rds_meter.specs.Shared.{Taught, Alone}

abbrev pub Seated : Type 0
Seated = Me (Unit {0}) View

-- no sum wraps, and it counts the seat's own part
abbrev pub added : Step (Unit {0}) → Seated → ℕ → Seated → Type 0
added s me found now = (now ≡ (after_add me.0 s.word s.first (found + s.first), me.1)) × (found + s.first < 2 ^ 64) × (part s.word me.0.steps ≤ found)

abbrev pub stored : Step (Unit {0}) → Seated → ℕ → Seated → Type 0
stored s me found now = now ≡ (after_store me.0 s.word s.first, me.1)

-- a word freed, put or taken counts the seat's own part, and is at most 4,095 parts of 2^52
abbrev pub loaded : Step (Unit {0}) → Seated → ℕ → Seated → Type 0
loaded s me found now = (now ≡ (after_load me.0 s.word found, me.1)) × (1024 ≤ s.word → s.word < 4096 → part s.word me.0.steps ≤ found) × (1024 ≤ s.word → s.word < 4096 → found ≤ 18442240474082181120)

-- the port is the one whose word and bit these are
abbrev pub raised : Step (Unit {0}) → Seated → ℕ → Seated → Type 0
raised s me found now = (port : ℕ) × (s.word ≡ map_word port) × (s.first ≡ mask_of port) × (now ≡ (after_raise me.0 port, me.1))

abbrev pub lowered : Step (Unit {0}) → Seated → ℕ → Seated → Type 0
lowered s me found now = (port : ℕ) × (s.word ≡ map_word port) × (s.first ≡ 2 ^ 64 - 1 - mask_of port) × (now ≡ (after_lower me.0 port, me.1))

abbrev pub bumped : Step (Unit {0}) → Seated → ℕ → Seated → Type 0
bumped s me found now = now ≡ (after_bump me.0 ((found + 1) % 2 ^ 64), me.1)

abbrev pub learned : Step (Unit {0}) → Seated → ℕ → Seated → Type 0
learned s me found now = (now ≡ me) × Taught me.0 × (me.0.weight + me.0.splits ≡ 4095 → Alone me.0)
