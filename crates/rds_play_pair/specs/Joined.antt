-- What a pair keeps. Source: this project's own.
use Rattle.std.specs.Prelude.{◌≡◌, ℕ, ◌≤◌, Some, ◌++◌, length}
use Rattle.rds_model.specs.Past.{open_stream, newest_stream}
use Rattle.rds_model.specs.Streams.{written_bytes, read_bytes}
use Rattle.rds_model.specs.Honest.{Begins}
use Rattle.rds_model.specs.Legal.{IsWhole}
use Rattle.rds_play_pair.specs.Sides.{Side, unpassed_bytes}

-- the journal is legal, and stream n is the newest of it
pub record IsOrderly (n : ℕ) (e : Side) : Type 0 where
  pub whole : IsWhole e.past
  pub newest : newest_stream e.past ≡ n
  pub counted : n ≤ length e.past

-- What the reader got on a stream is the beginning of what the writer wrote to it. On the reader's open stream what was
-- written is what the reader got, then what it took and didn't pass, then what is in flight.
pub record Flows (writer reader : Side) : Type 0 where
  pub prefixes : (s : ℕ) → Begins (read_bytes s reader.past) (written_bytes s writer.past)
  pub in_flight : (s : ℕ) → open_stream reader.past ≡ Some s →
      written_bytes s writer.past ≡ read_bytes s reader.past ++ (unpassed_bytes reader ++ writer.flying)

-- two ends, of whose streams the newest is n
pub record IsJoined (n : ℕ) (a b : Side) : Type 0 where
  pub first : IsOrderly n a
  pub second : IsOrderly n b
  pub forth : Flows a b
  pub back : Flows b a
