-- Why the last rounds ended, where they ended otherwise than well, and when two hosts have no stream left and should have one.
-- Source: this project's own.
use Rattle.std.specs.Prelude.{◌≡◌, ◌⊎◌, ◌≤◌, ◌<◌, ◌+◌, ◌-◌, ℕ, suc, Bool, true, false, All, List, [], ◌∷◌, None, Some, IsSome, length, option_and_then, slice_get, sum_by, unwrap_or}
use Rattle.rds_model.specs.declared.entry.Entry.{Entry}
use Rattle.rds_model.specs.declared.entry.Entry.TheVariants.{Bad}
use Rattle.rds_model.specs.Alive.{alive_numbers}
use Rattle.rds_model.specs.Drained as drained
use Rattle.rds_model.specs.Past.{open_stream}
use Rattle.rds_model.specs.Sums.{opens}
use Rattle.rds_line_channel.specs.Streams.{numbers}
use Rattle.rds_line_channel.specs.Carried.{shuts}
use Rattle.rds_line.specs.Line.{LineView, line_past}
use Rattle.rds_run_rounds.specs.Grid.{IsAt, OfEachPair}
use Rattle.rds_run_rounds.specs.declared.verdict.Wanted.{Wanted}

-- where a stream is open in a journal, a map was pulled on it, and no frame is owed to it for the map that was pulled last
abbrev pub OwesNothing : List Entry → Type 0
OwesNothing past = (s : ℕ) → open_stream past ≡ Some s → drained.OwesNothing s past

-- these two hosts come before those two, in ascending order; the lower one is named first
abbrev pub IsBefore : (low high first second : ℕ) → Type 0
IsBefore low high first second = (low < first) ⊎ ((low ≡ first) × (high < second))

-- how many headers a journal refused
abbrev pub refusals : List Entry → ℕ
refusals [] = 0
refusals (Bad stream header cause ∷ past) = suc (refusals past)
refusals (_ ∷ past) = refusals past

-- what is known of two hosts where nothing is given: each stream between them was opened, and none is to be cut
abbrev pub nothing_known : Wanted
nothing_known = record { lacks = false; cuts = 0 }

-- what is known of two hosts, the lower one first: it is given in the row of the lower one, at the place before the higher one's number
abbrev pub known_of : List (List Wanted) → (low high : ℕ) → Wanted
known_of wanted low high = unwrap_or (option_and_then (λ row. slice_get row (high - 1)) (slice_get wanted low)) nothing_known

-- Two hosts should have a stream left, by what is known of them, the journal of one's line and that of the other's: always over ends that
-- tell their bytes; else where a stream between them wasn't opened, or where the line shut more streams than there are cuts between the
-- two and headers that the other refused.
abbrev pub ShouldHaveStream : (tells : Bool) → Wanted → (own other : List Entry) → Type 0
ShouldHaveStream tells w own other = (tells ≡ true) ⊎ ((w.lacks ≡ true) ⊎ (w.cuts + refusals other < shuts own))

module _ {E M : Type 0} where
  -- no stream is open in the journal of a line, and it has opened all that were prepared for it
  pub record LacksStream (line : LineView E M) : Type 0 where
    pub closed : open_stream (line_past line) ≡ None
    pub all : opens (line_past line) ≡ numbers line.channel.streams.list

  module _ (tells : Bool) (w : Wanted) where
    -- of two hosts' lines to each other: the first one lacks a stream, and the hosts should have one
    abbrev pub MissesStream : (own other : LineView E M) → Type 0
    MissesStream own other = LacksStream own × ShouldHaveStream tells w (line_past own) (line_past other)

    -- one of the two does
    abbrev pub OneMissesStream : (one other : LineView E M) → Type 0
    OneMissesStream one other = MissesStream one other ⊎ MissesStream other one

    -- it has a stream open; or it lacks one, and nothing says that the hosts should have one
    abbrev pub IsLeftWell : (own other : LineView E M) → Type 0
    IsLeftWell own other =
        IsSome (open_stream (line_past own)) ⊎ (LacksStream own × (ShouldHaveStream tells w (line_past own) (line_past other) → ⊥))

    -- where it lacks one that the hosts should have, it took an order since
    abbrev pub MissesByOrder : (old own other : LineView E M) → Type 0
    MissesByOrder old own other = MissesStream own other → length old.orders.got < length own.orders.got

  -- the journal of a line isn't full: with two more entries it is still within its limit
  abbrev pub HasRoomForTwo : LineView E M → Type 0
  HasRoomForTwo line = length (line_past line) + 2 ≤ line.channel.conn.log.limit

  -- the journal of neither line of two hosts that come before these two is full
  abbrev pub NoneFullBefore : (first second : ℕ) → List (List (LineView E M)) → Type 0
  NoneFullBefore first second rows =
      (low place : ℕ) (one other : LineView E M) → low ≤ place → IsBefore low (suc place) first second → IsAt rows low place one →
      IsAt rows (suc place) low other → HasRoomForTwo one × HasRoomForTwo other

  module _ (tells : Bool) (wanted : List (List Wanted)) where
    -- the two lines of each two hosts are left well
    abbrev pub AreLeftWell : List (List (LineView E M)) → Type 0
    AreLeftWell rows =
        OfEachPair
        (λ low high one other. IsLeftWell tells (known_of wanted low high) one other × IsLeftWell tells (known_of wanted low high) other one) rows

    -- neither line of two hosts that come before these two lacks a stream that the two should have, unless it took an order since
    abbrev pub NoneMissBefore : (first second : ℕ) → (old new : List (List (LineView E M))) → Type 0
    NoneMissBefore first second old new =
        (low place : ℕ) (one other one_after other_after : LineView E M) → low ≤ place → IsBefore low (suc place) first second →
        IsAt old low place one → IsAt old (suc place) low other → IsAt new low place one_after → IsAt new (suc place) low other_after →
        MissesByOrder tells (known_of wanted low (suc place)) one one_after other_after
        × MissesByOrder tells (known_of wanted low (suc place)) other other_after one_after

    -- Neither line of two hosts that come before these two ended the rounds: neither lacks a stream that the two should have, unless it took
    -- an order since, and neither was full.
    pub record NoneEndsBefore (first second : ℕ) (old new : List (List (LineView E M))) : Type 0 where
      pub miss : NoneMissBefore first second old new
      pub full : NoneFullBefore first second old

    -- two hosts, the lower one first, have lines to each other, and one of these lacks a stream that the two should have
    pub record HostsMissStream (low high : ℕ) (rows : List (List (LineView E M))) : Type 0 where
      pub place : ℕ
      pub one : LineView E M
      pub other : LineView E M
      pub ordered : low ≤ place
      pub next : high ≡ suc place
      pub one_at : IsAt rows low place one
      pub other_at : IsAt rows high low other
      pub misses : OneMissesStream tells (known_of wanted low high) one other

  -- how many numbers are alive in the journal of a line, in those of the lines of a host, and in those of all hosts
  abbrev pub alive_in_line : LineView E M → ℕ
  alive_in_line line = length (alive_numbers (line_past line))

  abbrev pub alive_in_row : List (LineView E M) → ℕ
  alive_in_row row = sum_by alive_in_line row

  abbrev pub alive_in_rows : List (List (LineView E M)) → ℕ
  alive_in_rows rows = sum_by alive_in_row rows

  -- so many numbers are alive in the journals of all hosts, at least one, and the ends of streams don't tell their bytes
  pub record AreUnacked (tells : Bool) (count : ℕ) (rows : List (List (LineView E M))) : Type 0 where
    pub untold : tells ≡ false
    pub some : 1 ≤ count
    pub all : count ≡ alive_in_rows rows

  -- the lines of a host owe nothing in their journals
  abbrev pub OweNothing : List (LineView E M) → Type 0
  OweNothing row = All (λ (line : LineView E M). OwesNothing (line_past line)) row

  -- no stream is open in the journals of the lines of a host
  abbrev pub AreClosed : List (LineView E M) → Type 0
  AreClosed row = All (λ (line : LineView E M). open_stream (line_past line) ≡ None) row

  -- no journal of the lines of a host is full
  abbrev pub HaveRoom : List (LineView E M) → Type 0
  HaveRoom row = All HasRoomForTwo row
