-- Private: it serves the contracts of the private functions that turn the lines of a run for the last time. Source: this project's own.
use Rattle.std.specs.Prelude.{◌≡◌, ℕ, true, None, []}
use Rattle.rds_fmap.specs.Readers.{WriterView}
use Rattle.rds_frame.specs.Splitting.{IsPartial}
use Rattle.rds_link.specs.Ends.{Means, HasAll}
use Rattle.rds_model.specs.Honest.{IsHonest}
use Rattle.rds_model.specs.Legal.{IsWhole}
use Rattle.rds_line_channel.specs.Meeting.{AtEach}
use Rattle.rds_line_channel.specs.Streams.{AreKept, numbers}
use Rattle.rds_line_channel.specs.Carried.{IsCarriedBy}
use Rattle.rds_line_channel.specs.Channel.{arrived_bytes}
use Rattle.rds_line.specs.Line.{IsFull, LineView, line_past}
use Rattle.rds_line.specs.Turns.{IsIdleTurn}
use Rattle.rds_run_rounds.specs.Quiet.{LineGoesOn}

-- a line has met the other one: it goes on, and its journal, its orders and what it has to write are as before
pub record HasMet {E : Type 0} (old new : LineView E WriterView) : Type 0 where
  pub goes : LineGoesOn old new
  pub past : line_past new ≡ line_past old
  pub orders : new.orders ≡ old.orders
  pub out : new.channel.out ≡ old.channel.out
  pub full : (entries : ℕ) → IsFull entries old → IsFull entries new

module _ {E : Type 0} (m : Means E) where
  -- two ends that have met: each knows all that the other sent, and whether it has shut
  pub record KnowEachOther (one other : E) : Type 0 where
    pub there : HasAll m one other
    pub back : HasAll m other one
    pub first : (m.stand one).other_shut ≡ (m.stand other).is_shut
    pub second : (m.stand other).other_shut ≡ (m.stand one).is_shut

  -- two lines that have met, and none of which has turned since
  pub record AreMetLines {M : Type 0} (low high : LineView E M) : Type 0 where
    pub same : numbers high.channel.streams.list ≡ numbers low.channel.streams.list
    pub ends : AtEach KnowEachOther low.channel.streams.list high.channel.streams.list
    pub honest : m.tells ≡ true → IsHonest (line_past low) (line_past high)

  -- what every line keeps of its streams and of the bytes that came
  pub record KeepsStreams {M : Type 0} (line : LineView E M) : Type 0 where
    pub carried : IsCarriedBy m (line_past line) (arrived_bytes line.channel) line.channel.out line.channel.streams line.channel.cuts.numbers
    pub streams : AreKept m line.channel.streams
    pub whole : IsWhole (line_past line)
    pub partial : line.channel.conn.waiting ≡ None → IsPartial line.channel.conn.rest

  -- a line had an idle turn, which left nothing to be written
  pub record HasRested {M : Type 0} (old new : LineView E M) : Type 0 where
    pub kept : KeepsStreams old
    pub keeps : KeepsStreams new
    pub idle : IsIdleTurn m old new
    pub written : new.channel.out ≡ []
