-- How many ends of streams the lines of hosts hold. Source: this project's own.
use Rattle.std.specs.Prelude.{ℕ, List, length}
use Rattle.std.specs.List.{sum_by}
use Rattle.rds_line.specs.Line.{LineView}

module _ {E M : Type 0} where
  -- a line holds one end of each of its streams
  abbrev pub ends_of : LineView E M → ℕ
  ends_of line = length line.channel.streams.list

  -- those of all lines of a host
  abbrev pub ends_in : List (LineView E M) → ℕ
  ends_in lines = sum_by ends_of lines

  -- those of all hosts
  abbrev pub ends_of_all : List (List (LineView E M)) → ℕ
  ends_of_all rows = sum_by ends_in rows
