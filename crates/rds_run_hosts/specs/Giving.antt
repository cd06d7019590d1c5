-- How the lines of a run, which are new, get the streams that were prepared. Source: this project's own.
use Rattle.std.specs.Prelude.{◌≡◌, ℕ, suc, false, List, Vec, [], Some, length, slice_get}
use Rattle.std.specs.Global.{Global}
use Rattle.rds_text.specs.Hosts.{address_of}
use Rattle.rds_line.specs.Line.{LineView}
use Rattle.rds_host.specs.Lines.{IsNewLine}
use Rattle.rds_run_rounds.specs.Grid.{peer_at}

module _ {E M : Type 0} where
  -- a host has a new line to each other one of so many, without streams
  pub record HasNewLines (limit hosts host : ℕ) (lines : List (LineView E M)) : Type 0 where
    pub count : suc (length lines) ≡ hosts
    pub each : (place : ℕ) (line : LineView E M) → slice_get lines place ≡ Some line →
        IsNewLine (address_of host) (address_of (peer_at host place)) limit [] line

  -- so has each of so many hosts
  pub record HaveNewLines (limit hosts : ℕ) (rows : List (List (LineView E M))) : Type 0 where
    pub count : length rows ≡ hosts
    pub each : (host : ℕ) (row : List (LineView E M)) → slice_get rows host ≡ Some row → HasNewLines limit hosts host row

  -- the line with these streams, none of which was opened
  abbrev pub with_streams : LineView E M → List (ℕ × E) → LineView E M
  with_streams line list = record line { channel = record line.channel { streams = record { list = list; opened = 0; is_open = false } } }

  -- each line was given the streams in its place, and nothing else of it changed
  pub record AreGiven (streams : List (Vec (ℕ × E) Global)) (old new : List (LineView E M)) : Type 0 where
    pub count : length new ≡ length old
    pub each : (place : ℕ) (list : Vec (ℕ × E) Global) (line after : LineView E M) →
        slice_get streams place ≡ Some list → slice_get old place ≡ Some line → slice_get new place ≡ Some after → after ≡ with_streams line list.items
