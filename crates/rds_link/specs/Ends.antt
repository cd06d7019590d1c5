-- What contracts see of an end of a stream, whatever kind of end it is. This project's own.
use Rattle.std.specs.Prelude.{◌≡◌, ◌⊎◌, ℕ, ◌+◌, ◌-◌, ◌^◌, ◌≤◌, ◌↔◌, Bool, true, false, List, [], ◌++◌}
use mathlib.Core.List.{IsPrefix}
use Rattle.rds_link.specs.Failing.{next_call, NextFails}
use Rattle.rds_link.specs.Standing.{Stand, fresh_stand, Failed}

-- what is known of an end of this kind
pub record Means (E : Type 0) : Type 1 where
  -- whether ends of this kind tell the bytes that they send and get, and which calls fail; the next six count only where they do
  pub tells : Bool
  pub sent : E → List ℕ
  pub got : E → List ℕ
  -- the bytes that it knows to be there for its next reads
  pub known : E → List ℕ
  -- how many bytes it knows there to be room for
  pub room : E → ℕ
  -- how many reads and writes it has made, and the numbers, from 1, of those that fail
  pub calls : E → ℕ
  pub fail : E → List ℕ
  pub stand : E → Stand
  -- how many answers `Nothing` and how many answers `Full` it has given
  pub nothings : E → ℕ
  pub fulls : E → ℕ
  -- the two ends came from one opening of a stream
  pub meets : E → E → Type 0

-- A count rose by so many. It stands still at the last value of a u64, and counts as risen there.
abbrev pub RisesBy : ℕ → ℕ → ℕ → Type 0
RisesBy n old new = (new ≡ old + n) ⊎ (new ≡ 2 ^ 64 - 1)

module _ {E : Type 0} (m : Means E) where
  -- the end meets whom it met before
  abbrev pub Remains : E → E → Type 0
  Remains old new = (other : E) → (m.meets old other → m.meets new other) × (m.meets other old → m.meets other new)

  -- what it sent and what it knows of the room beyond stays
  abbrev pub SendsNothing : E → E → Type 0
  SendsNothing old new = (m.sent new ≡ m.sent old) × (m.room new ≡ m.room old)

  -- what it got and what it knows to be there stays
  abbrev pub GetsNothing : E → E → Type 0
  GetsNothing old new = (m.got new ≡ m.got old) × (m.known new ≡ m.known old)

  abbrev pub CountsStay : E → E → Type 0
  CountsStay old new = (m.nothings new ≡ m.nothings old) × (m.fulls new ≡ m.fulls old) × (m.calls new ≡ m.calls old) × (m.fail new ≡ m.fail old)

  -- a read or a write is counted, and an end that hasn't shut fails exactly where the number is in the list
  abbrev pub FailsByNumber : E → E → Type 0
  FailsByNumber old new = m.tells ≡ true → (m.fail new ≡ m.fail old) × (m.calls new ≡ next_call (m.calls old)) × ((m.stand old).is_shut ≡ false → NextFails (m.fail old) (m.calls old) ↔ Failed (m.stand old) (m.stand new))

  -- the end has moved nothing, and knows of no fewer bytes and no less room
  abbrev pub MovesNothing : E → E → Type 0
  MovesNothing old new = (m.sent new ≡ m.sent old) × (m.got new ≡ m.got old) × IsPrefix (m.known old) (m.known new) × (m.room old ≤ m.room new)

  -- the end of a new stream
  abbrev pub IsFresh : E → Type 0
  IsFresh e = (m.tells ≡ true → (m.sent e ≡ []) × (m.got e ≡ []) × (m.known e ≡ []) × (m.calls e ≡ 0)) × (m.stand e ≡ fresh_stand) × (m.nothings e ≡ 0) × (m.fulls e ≡ 0)

  -- what the first of two ends got, and then what it knows to be there, is all that the second sent
  abbrev pub HasAll : E → E → Type 0
  HasAll a b = m.tells ≡ true → m.got a ++ m.known a ≡ m.sent b
