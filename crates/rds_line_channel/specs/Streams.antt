-- What contracts see of the streams of a line. Source: this project's own.
use Rattle.std.specs.Prelude.{◌≡◌, ◌≢◌, ◌⊎◌, ℕ, ◌-◌, ◌<◌, ◌≤◌, if◌then◌else◌, Bool, true, false, Option, Some, None, List, [], ◌∷◌, length, take, map, slice_get}
use Rattle.std.specs.List.Sorted.{IsStrictlyIncreasing}
use Rattle.rds_link.specs.Ends.{Means}

-- the streams that a line was given, in the order in which it opens them, each with its number and the line's end of it;
-- how many of them were opened; and whether the one that was opened last is open
pub record StreamsView (E : Type 0) : Type 0 where
  pub list : List (ℕ × E)
  pub opened : ℕ
  pub is_open : Bool

module _ {E : Type 0} where
  -- the numbers of streams
  abbrev pub numbers : List (ℕ × E) → List ℕ
  numbers list = map (λ stream. stream.0) list

  -- numbers are above 0, and ascend
  abbrev pub AreNumbered : List (ℕ × E) → Type 0
  AreNumbered list = IsStrictlyIncreasing (0 ∷ numbers list)

  -- the numbers of the streams that were opened, in that order
  abbrev pub opened_numbers : StreamsView E → List ℕ
  opened_numbers s = take s.opened (numbers s.list)

  -- the place of the stream that was opened last
  abbrev pub newest_place : StreamsView E → ℕ
  newest_place s = s.opened - 1

  -- the number of the open stream
  abbrev pub open_number : StreamsView E → Option ℕ
  open_number s = if s.is_open then slice_get (numbers s.list) (newest_place s) else None

  -- the stream at this place was opened, and isn't open any more
  abbrev pub IsEndedAt : StreamsView E → ℕ → Type 0
  IsEndedAt s place = (place < s.opened) × (s.is_open ≡ true → place ≢ newest_place s)

  -- the same streams, whose ends changed
  abbrev pub with_list : StreamsView E → List (ℕ × E) → StreamsView E
  with_list s list = record s { list = list }

  -- streams none of which was opened
  abbrev pub unopened : List (ℕ × E) → StreamsView E
  unopened list = record { list = list; opened = 0; is_open = false }

  -- this holds of the end at this place
  pub record EndAt (Holds : E → Type 0) (place : ℕ) (list : List (ℕ × E)) : Type 0 where
    pub at : (stream : ℕ × E) → slice_get list place ≡ Some stream → Holds stream.1

  module _ (m : Means E) where
    -- the end has sent and got nothing, where it tells that, and hasn't shut
    abbrev pub IsUnused : E → Type 0
    IsUnused e = (m.tells ≡ true → (m.sent e ≡ []) × (m.got e ≡ [])) × ((m.stand e).is_shut ≡ false)

    -- where the end has shut, it had a fault
    abbrev pub ShutByFaultOnly : E → Type 0
    ShutByFaultOnly e = (m.stand e).is_shut ≡ true → 1 ≤ (m.stand e).faults

    -- the end has answered `Over` before its line shut it: it saw that the other end had shut, or had a fault
    abbrev pub HasSaidOver : E → Type 0
    HasSaidOver e = ((m.stand e).saw ≡ true) ⊎ (1 ≤ (m.stand e).faults)

    -- what the streams of a line keep: an end that was opened and isn't open any more has shut, the open end has shut only
    -- by a fault of its own, and an end that wasn't opened is unused
    pub record AreKept (s : StreamsView E) : Type 0 where
      pub within : s.opened ≤ length s.list
      pub some : s.is_open ≡ true → 1 ≤ s.opened
      pub numbered : AreNumbered s.list
      pub ended : (place : ℕ) → IsEndedAt s place → EndAt (λ e. (m.stand e).is_shut ≡ true) place s.list
      pub newest : s.is_open ≡ true → EndAt ShutByFaultOnly (newest_place s) s.list
      pub unused : (place : ℕ) → s.opened ≤ place → EndAt IsUnused place s.list
