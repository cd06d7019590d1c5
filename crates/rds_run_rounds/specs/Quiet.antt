-- When the last rounds ended since nothing moved, and what they leave of each line. Source: this project's own.
use Rattle.std.specs.Prelude.{◌≡◌, ℕ, List, Some, length, slice_get}
use Rattle.rds_fmap.specs.Readers.{WriterView}
use Rattle.rds_mail.specs.Learning.{AllGot}
use Rattle.rds_bindtab.specs.declared.view.Telling.{Telling}
use Rattle.rds_model.specs.Honest.{Begins}
use Rattle.rds_model.specs.Past.{Moment}
use Rattle.rds_line_channel.specs.Streams.{numbers}
use Rattle.rds_line.specs.Line.{LineView, line_past}
use Rattle.rds_line.specs.Seats.{WasAlwaysTold}
use Rattle.rds_host.specs.Keeping.{LineKeeps}
use Rattle.rds_run_rounds.specs.declared.rounds.Rounds.{Rounds}
use Rattle.rds_run_rounds.specs.declared.rounds.Rounds.TheVariants as ended

-- the rounds ended since they were quiet
abbrev pub IsQuietEnd : Rounds → Type 0
IsQuietEnd ended.Done = Unit {0}
IsQuietEnd (ended.Unfinished count unwritten connected) = Unit {0}
IsQuietEnd (ended.Fault low high) = ⊥
IsQuietEnd (ended.Spent host peer entries) = ⊥
IsQuietEnd ended.Memory = ⊥

module _ {E : Type 0} where
  -- The same line, with streams of the same numbers, which was told of no more orders, and got the same ones and maybe more. Its journal has
  -- the same limit, and the same entries and maybe more. What its seat at the port table was told before each of its looks it was told before
  -- each later one too.
  pub record LineGoesOn (old new : LineView E WriterView) : Type 0 where
    pub keeps : LineKeeps old new
    pub told : new.orders.told ≡ old.orders.told
    pub got : Begins old.orders.got new.orders.got
    pub numbers : numbers new.channel.streams.list ≡ numbers old.channel.streams.list
    pub limit : new.channel.conn.log.limit ≡ old.channel.conn.log.limit
    pub past : Moment (line_past old) (line_past new)
    pub always : (telling : Telling) → WasAlwaysTold telling old.ports.view → WasAlwaysTold telling new.ports.view

  pub record LinesGoOn (old new : List (LineView E WriterView)) : Type 0 where
    pub count : length new ≡ length old
    pub each : (place : ℕ) (line after : LineView E WriterView) → slice_get old place ≡ Some line → slice_get new place ≡ Some after → LineGoesOn line after

  -- each line got all orders that it was told of
  abbrev pub AreQuiet : List (LineView E WriterView) → Type 0
  AreQuiet lines = (place : ℕ) (line : LineView E WriterView) → slice_get lines place ≡ Some line → AllGot line.orders
