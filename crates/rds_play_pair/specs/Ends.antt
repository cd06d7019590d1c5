-- What contracts see of a joint. Source: this project's own.
use Rattle.std.specs.Prelude.{◌≡◌, ◌⊎◌, ℕ, ◌+◌, ◌<◌, ◌≤◌, Option, None, List, [], length}
use Rattle.rds_wire.specs.declared.frame.Frame.{Frame}
use Rattle.rds_model.specs.declared.entry.Entry.{Entry}
use Rattle.rds_play_pair.specs.declared.step.PairEnd.{PairEnd}
use Rattle.rds_play_pair.specs.declared.step.PairEnd.TheVariants.{First, Second}

-- One end: below which number the slots of its sockets are; its journal, newest entry first, and how many entries that may
-- have; the whole frame that came and that it didn't pass; and the bytes that it wrote and that are in flight to the other
-- end.
pub record JointEnd : Type 0 where
  pub slots : ℕ
  pub past : List Entry
  pub limit : ℕ
  pub waiting : Option Frame
  pub flying : List ℕ

-- both ends
pub record JointEnds : Type 0 where
  pub first : JointEnd
  pub second : JointEnd

-- nothing has happened
abbrev pub blank : (slots limit : ℕ) → JointEnd
blank slots limit = record { slots = slots; past = []; limit = limit; waiting = None; flying = [] }

abbrev pub other_end : PairEnd → PairEnd
other_end First = Second
other_end Second = First

-- the end itself, and the one that it faces
abbrev pub of_end : PairEnd → JointEnds → JointEnd
of_end First p = p.first
of_end Second p = p.second

abbrev pub facing : PairEnd → JointEnds → JointEnd
facing First p = p.second
facing Second p = p.first

-- a change of one end, and the same change of both
abbrev pub with_end : PairEnd → (JointEnd → JointEnd) → JointEnds → JointEnds
with_end First change p = record p { first = change p.first }
with_end Second change p = record p { second = change p.second }

abbrev pub at_both : (JointEnd → JointEnd) → JointEnds → JointEnds
at_both change p = record { first = change p.first; second = change p.second }

-- the journal has so many entries, and two more would pass its limit
pub record IsFull (entries : ℕ) (e : JointEnd) : Type 0 where
  pub count : entries ≡ length e.past
  pub most : e.limit < length e.past + 2

-- the journal of one of the two
abbrev pub HasFull : ℕ → JointEnds → Type 0
HasFull entries p = IsFull entries p.first ⊎ IsFull entries p.second

-- the journal may have two entries more
abbrev pub HasRoomForTwo : JointEnd → Type 0
HasRoomForTwo e = length e.past + 2 ≤ e.limit
