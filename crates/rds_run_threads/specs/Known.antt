-- Private: it serves the contracts of the private functions that end a run. What is known of the streams between each two hosts, and what is
-- left of these. Source: this project's own.
use Rattle.std.specs.Prelude.{◌≡◌, ◌⊎◌, ◌≤◌, ◌+◌, ℕ, Bool, IsSome, List, None}
use Rattle.rds_model.specs.declared.entry.Entry.{Entry}
use Rattle.rds_model.specs.Alive.{up_to}
use Rattle.rds_model.specs.Past.{open_stream}
use Rattle.rds_model.specs.Sums.{opens}
use Rattle.rds_line_channel.specs.Streams.{numbers}
use Rattle.rds_line_channel.specs.Carried.{shuts}
use Rattle.rds_line.specs.Line.{LineView, line_past}
use Rattle.rds_script.specs.declared.script.Placed.{Placed}
use Rattle.rds_run_rounds.specs.Causes.{HostsMissStream, known_of, refusals}
use Rattle.rds_run_rounds.specs.Grid.{OfEachPair}
use Rattle.rds_run_rounds.specs.declared.rounds.Rounds.{Rounds}
use Rattle.rds_run_rounds.specs.declared.rounds.Rounds.TheVariants as rounds
use Rattle.rds_run_rounds.specs.declared.verdict.Wanted.{Wanted}
use Rattle.rds_run_hosts.specs.Streams.{IsKnown, cuts_between, streams_between}

-- The journal of one of two hosts opened all streams that were to be prepared between the two, and none is open any more. No more were shut than
-- there are cuts between the two and headers that the other one refused.
pub record HasUsedAll (low high : ℕ) (commands : List Placed) (own other : List Entry) : Type 0 where
  pub closed : open_stream own ≡ None
  pub opened : opens own ≡ up_to (streams_between low high commands)
  pub few : shuts own ≤ cuts_between low high commands + refusals other

-- a stream is open in the journal, or it is so
abbrev pub IsOpenOrUsed : (low high : ℕ) → List Placed → (own other : List Entry) → Type 0
IsOpenOrUsed low high commands own other = IsSome (open_stream own) ⊎ HasUsedAll low high commands own other

module _ {E M : Type 0} where
  -- what is known of each two hosts is true of the streams that the lower one's line to the higher one was given
  abbrev pub AreKnownOf : List (List Wanted) → List Placed → List (List (LineView E M)) → Type 0
  AreKnownOf wanted commands rows = OfEachPair (λ low high (one other : LineView E M).
      IsKnown commands low high (known_of wanted low high) (numbers one.channel.streams.list)) rows

  -- in the journal of each line a stream is open, or it has used all
  abbrev pub AreOpenOrUsed : List Placed → List (List (LineView E M)) → Type 0
  AreOpenOrUsed commands rows = OfEachPair (λ low high (one other : LineView E M).
      IsOpenOrUsed low high commands (line_past one) (line_past other) × IsOpenOrUsed low high commands (line_past other) (line_past one)) rows

module _ {E M : Type 0} (tells : Bool) (commands : List Placed) where
  -- Two hosts miss a stream that they should have, by what is known of each two. That is true of these commands and of the streams that the
  -- lines were given.
  pub record MissByCommands (low high : ℕ) (rows : List (List (LineView E M))) : Type 0 where
    pub wanted : List (List Wanted)
    pub known : AreKnownOf wanted commands rows
    pub misses : HostsMissStream tells wanted low high rows

  -- the two hosts do at which the last rounds ended by a fault, if they ended so
  abbrev pub MissAtFault : Rounds → List (List (LineView E M)) → Type 0
  MissAtFault end rows = (low high : ℕ) → end ≡ rounds.Fault low high → MissByCommands low high rows
