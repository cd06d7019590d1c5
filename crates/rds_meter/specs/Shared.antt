-- What holds of a meter between any two atomic steps. This project's own.
use Rattle.std.specs.Prelude.{◌≡◌, ◌⊎◌, ℕ, ◌+◌, ◌*◌, ◌%◌, ◌<◌, ◌≤◌, List, [], ◌∷◌, length, slice_index, Some, None, is_some, true, Contains}
use Rattle.std.specs.Int.{bit_at}
use Rattle.atomic_table.specs.Table.{State}
use Rattle.rds_seats.specs.Views.{Has, Each, total}
use Rattle.rds_model.specs.declared.entry.TheConstants.{MAX_SLOTS}
use Rattle.rds_meter.specs.declared.view.View.{View}
use Rattle.rds_meter.specs.declared.view.Check.{Check}
use Rattle.rds_meter.specs.declared.view.Stage.{Stage}
use Rattle.rds_meter.specs.declared.view.Stage.TheVariants.{Idle, Put, Limited}
use Rattle.rds_meter.specs.declared.view.Step.TheVariants.{Stored, Loaded}
use Rattle.rds_meter.specs.Places.{limit_word, put_word, map_word, part}
use Rattle.rds_meter.specs.Seats.{must_raise}

-- the seat has stored this limit for the slot
abbrev pub HasStored : ℕ → ℕ → View → Type 0
HasStored slot limit v = Contains v.steps (Stored (limit_word slot) limit)

-- 0, or a limit that some seat has stored for the slot
abbrev pub IsLimit : List View → ℕ → ℕ → Type 0
IsLimit views slot limit = (limit ≡ 0) ⊎ Has views (HasStored slot limit)

-- the seat has a check that raised the port's bit
abbrev pub HasRaised : ℕ → View → Type 0
HasRaised port v = (c : Check) × Contains v.checks c × (c.raised ≡ Some port)

-- if this is a word of the map, a port's bit is set in it only where some seat has a check that raised the bit
abbrev pub BitsFit : List View → ℕ → ℕ → Type 0
BitsFit views word bits = (port : ℕ) → port < 65536 → word ≡ map_word port → bit_at bits (port % 64) ≡ 1 → Has views (HasRaised port)

-- what was found of a slot: no more was put than its put word says, and the limit is one of its limits
pub record FitsSlot (words : List ℕ) (views : List View) (slot put limit : ℕ) : Type 0 where
  pub slot_small : slot < MAX_SLOTS
  pub put_within : put ≤ slice_index words (put_word slot)
  pub limit_was : IsLimit views slot limit

-- what a seat has found so far, of the check that it is at
abbrev pub StageFits : List ℕ → List View → Stage → Type 0
StageFits words views Idle = Unit {0}
StageFits words views (Put slot put) = FitsSlot words views slot put 0
StageFits words views (Limited slot put limit) = FitsSlot words views slot put limit

-- the words and the views of all seats
pub record Shared (words : List ℕ) (views : List View) : Type 0 where
  -- four words for each slot, 1,024 words of the map, and the change number
  pub size : length words ≡ 5121
  -- a word freed, put or taken is the sum of the seats' parts
  pub sums : (word : ℕ) → 1024 ≤ word → word < 4096 → slice_index words word ≡ total (λ v. part word v.steps) views
  -- a limit word is 0 or a limit that some seat has stored
  pub limits : (slot : ℕ) → slot < MAX_SLOTS → IsLimit views slot (slice_index words (limit_word slot))
  -- a closed check raised a bit exactly where it had to
  pub closed : Each views (λ v. (c : Check) → Contains v.checks c → FitsSlot words views c.slot c.put c.limit × (is_some c.raised ≡ must_raise c))
  -- an open check has to raise a bit, and hasn't
  pub opened : Each views (λ v. (c : Check) → Contains v.pending c → FitsSlot words views c.slot c.put c.limit × (must_raise c ≡ true) × (c.raised ≡ None))
  pub staged : Each views (λ v. StageFits words views v.stage)
  -- a bit of the map that is set was raised by some check
  pub bits : (word : ℕ) → BitsFit views word (slice_index words word)
  -- and so was a bit that a load found set
  pub loaded : Each views (λ v. (word found : ℕ) → Contains v.steps (Loaded word found) → BitsFit views word found)
  -- the seats number 4,095, those that may still be split off among them
  pub seated : total (λ v. v.weight + v.splits) views ≡ 4095
  -- a seat's part is at most 2^52
  pub few : Each views (λ v. (word : ℕ) → part word v.steps ≤ v.weight * 4503599627370496)
  -- who stands for no seat knows nothing
  pub idle : Each views (λ v. v.weight + v.splits ≡ 0 → (v.stage ≡ Idle) × (v.checks ≡ []) × (v.pending ≡ []) × (v.steps ≡ []))

-- the rule of a meter
abbrev pub Ruled : State (Unit {0}) View → Type 0
Ruled s = Shared s.words s.views

-- there are words and views that keep the rule, and one of these views is v
abbrev pub Taught : View → Type 0
Taught v = (words : List ℕ) × (views : List View) × Shared words views × Has views (λ w. w ≡ v)

-- there are words that keep the rule with this view alone: each sum is its part, and each limit and each raised bit is its own
abbrev pub Alone : View → Type 0
Alone v = (words : List ℕ) × Shared words (v ∷ [])
