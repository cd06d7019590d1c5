-- What contracts see of a pair of connections. Source: this project's own.
use Rattle.std.specs.Prelude.{◌≡◌, ◌⊎◌, ◌+◌, ◌<◌, ◌≤◌, IfSome, length, ℕ, Option, List, [], ◌++◌, None}
use Rattle.rds_wire.specs.declared.frame.Frame.{Frame}
use Rattle.rds_frame.specs.Holding.{waiting_bytes}
use Rattle.rds_frame.specs.Splitting.{IsPartial}
use Rattle.rds_model.specs.declared.entry.Entry.{Entry}
use Rattle.rds_model.specs.Past.{open_stream}
use Rattle.rds_play_pair.specs.declared.step.PairEnd.{PairEnd}
use Rattle.rds_play_pair.specs.declared.step.PairEnd.TheVariants.{First, Second}

-- One end: below which number the slots of its sockets are; its journal, newest entry first, and how many entries that may
-- have; of the open stream the whole frame that waits, and the bytes that are no whole frame yet; and the bytes that it
-- wrote and that are in flight to the other end.
pub record Side : Type 0 where
  pub slots : ℕ
  pub past : List Entry
  pub limit : ℕ
  pub waiting : Option Frame
  pub rest : List ℕ
  pub flying : List ℕ

-- both ends
pub record Sides : Type 0 where
  pub first : Side
  pub second : Side

-- nothing has happened
abbrev pub blank : ℕ → ℕ → Side
blank slots limit = record { slots = slots; past = []; limit = limit; waiting = None; rest = []; flying = [] }

-- the bytes that were taken of the open stream and not passed
abbrev pub unpassed_bytes : Side → List ℕ
unpassed_bytes s = waiting_bytes s.waiting ++ s.rest

-- a change of one end
abbrev pub with_end : PairEnd → (Side → Side) → Sides → Sides
with_end First change p = record p { first = change p.first }
with_end Second change p = record p { second = change p.second }

-- one of the two
abbrev pub of_end : PairEnd → Sides → Side
of_end First p = p.first
of_end Second p = p.second

-- the journal of the end has so many entries, and two more would pass its limit
pub record IsFull (entries : ℕ) (s : Side) : Type 0 where
  pub count : entries ≡ length s.past
  pub most : s.limit < length s.past + 2

-- the journal of one of the two
abbrev pub HasFull : ℕ → Sides → Type 0
HasFull entries p = IsFull entries p.first ⊎ IsFull entries p.second

-- the journal may have two entries more
abbrev pub HasRoomForTwo : Side → Type 0
HasRoomForTwo s = length s.past + 2 ≤ s.limit

-- Where no stream is open, nothing waits and nothing is kept; after a whole frame that waits nothing is kept; and where none
-- waits, what is kept is less than a whole frame.
pub record TakesFrameByFrame (s : Side) : Type 0 where
  pub idle : open_stream s.past ≡ None → (s.waiting ≡ None) × (s.rest ≡ [])
  pub alone : IfSome s.waiting (λ f. s.rest ≡ [])
  pub partial : s.waiting ≡ None → IsPartial s.rest
