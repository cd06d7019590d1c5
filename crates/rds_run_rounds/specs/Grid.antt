-- What each host of a run has for each other one: a row for each host, with one thing for each other host, in ascending order.
-- Source: this project's own.
use Rattle.std.specs.Prelude.{◌≡◌, ◌≤◌, ◌-◌, ℕ, suc, All, List, Some, Vec, if◌then◌else◌, length, map, nat_lt, slice_get}
use Rattle.std.specs.List.{range_with_len}
use Rattle.std.specs.Global.{Global}

-- The host that a place in a host's row stands for. A row has no place for its own host.
abbrev pub peer_at : (host place : ℕ) → ℕ
peer_at host place = if nat_lt place host then place else suc place

-- the other hosts of so many, ascending
abbrev pub others : (hosts host : ℕ) → List ℕ
others hosts host = map (peer_at host) (range_with_len 0 (hosts - 1))

module _ {T : Type 0} where
  -- the rows that vectors hold
  abbrev pub rows_of : List (Vec T Global) → List (List T)
  rows_of lists = map (λ (list : Vec T Global). list.items) lists

  -- a host has this at a place of its row
  abbrev pub IsAt : List (List T) → (host place : ℕ) → T → Type 0
  IsAt rows host place x = (row : List T) × (slice_get rows host ≡ Some row) × (slice_get row place ≡ Some x)

  -- each of so many hosts has something for each other one
  pub record AreRows (hosts : ℕ) (rows : List (List T)) : Type 0 where
    pub count : length rows ≡ hosts
    pub each : All (λ (row : List T). suc (length row) ≡ hosts) rows

  -- What holds of each two hosts and of what they have for each other, the lower host first. The lower one has it at the place before the
  -- higher one's number, and the higher one at the place of the lower one's number.
  abbrev pub OfEachPair : ((low high : ℕ) → T → T → Type 0) → List (List T) → Type 0
  OfEachPair Holds rows =
      (low place : ℕ) (one other : T) → low ≤ place → IsAt rows low place one → IsAt rows (suc place) low other → Holds low (suc place) one other

  -- there are rows of as many hosts as before, and this holds of what each was and is
  pub record EachRow (Holds : List T → List T → Type 0) (old new : List (List T)) : Type 0 where
    pub count : length new ≡ length old
    pub each : (host : ℕ) (row after : List T) → slice_get old host ≡ Some row → slice_get new host ≡ Some after → Holds row after
