-- Private: it serves the contracts of the private functions that take journals out of what all hosts have. Source: this project's own.
use Rattle.std.specs.Prelude.{◌≡◌, ◌≤◌, ℕ, List, [], Some, length, slice_get, take}
use Rattle.rds_fmap.specs.Readers.{WriterView}
use Rattle.rds_model.specs.declared.entry.Entry.{Entry}
use Rattle.rds_model.specs.Sums.{opens}
use Rattle.rds_line_channel.specs.Streams.{numbers}
use Rattle.rds_line.specs.Line.{LineView, line_past}
use Rattle.rds_run_callers.specs.Places.{CallerView, Place}
use Rattle.rds_host_end.specs.Grounded.{AreMapsGrounded}
use Rattle.rds_host_end.specs.Joined.{orders_of}
use Rattle.rds_run_settling.specs.Tied.{AreTied, holdings}
use Rattle.rds_run_rounds.specs.Grid.{IsAt, OfEachPair, peer_at}
use Rattle.rds_run_threads.specs.Causes.{BeginsOrders, BeginsOrdersAt}

-- the slots of each host's caller and its lines are of one host, and have all putters of its queues
pub record HaveTied {E : Type 0} (callers : List CallerView) (rows : List (List (LineView E WriterView))) : Type 0 where
  pub count : length callers ≡ length rows
  pub each : (host : ℕ) (caller : CallerView) (row : List (LineView E WriterView)) → slice_get callers host ≡ Some caller → slice_get rows host ≡ Some row →
      AreTied caller.places row

-- the lines of a host pulled maps with a port only by what its slots have stored
abbrev pub IsGroundedAt : {E : Type 0} → List CallerView → List (List (LineView E WriterView)) → (host : ℕ) → Type 0
IsGroundedAt {E} callers rows host = (caller : CallerView) (row : List (LineView E WriterView)) → slice_get callers host ≡ Some caller →
    slice_get rows host ≡ Some row → AreMapsGrounded (holdings caller.places) row

-- where there are slots, no order of another one stands in the journal
abbrev pub HasNoOther : List Place → List Entry → Type 0
HasNoOther places past = 1 ≤ length places → (slot : ℕ) → length places ≤ slot → orders_of slot past ≡ []

-- Of orders only those of these slots stand in the journal, and those of each one begin what was put on its route at this place.
pub record HasOrdersAt (place : ℕ) (places : List Place) (past : List Entry) : Type 0 where
  pub sent : BeginsOrdersAt place places past
  pub none_else : HasNoOther places past

-- and so they begin what a host's slots put on their routes to a peer
pub record HasOrders (host peer : ℕ) (places : List Place) (past : List Entry) : Type 0 where
  pub sent : BeginsOrders host peer places past
  pub none_else : HasNoOther places past

module _ {E M : Type 0} where
  -- the journal of a line, which opened its streams in their order, and has no more entries than its limit
  pub record IsJournalOfLine (line : LineView E M) (past : List Entry) : Type 0 where
    pub is : past ≡ line_past line
    pub opened : (count : ℕ) × (opens past ≡ take count (numbers line.channel.streams.list))
    pub few : length past ≤ line.channel.conn.log.limit

  -- the two lines of each two hosts were given streams with the same numbers
  abbrev pub HaveSameStreams : List (List (LineView E M)) → Type 0
  HaveSameStreams rows =
      OfEachPair (λ low high (one other : LineView E M). numbers other.channel.streams.list ≡ numbers one.channel.streams.list) rows

  -- the journal of a host's line with a peer
  abbrev pub IsJournalOf : List (List (LineView E M)) → (host peer : ℕ) → List Entry → Type 0
  IsJournalOf rows host peer past =
      (place : ℕ) (line : LineView E M) → peer_at host place ≡ peer → IsAt rows host place line → IsJournalOfLine line past
