-- The cuts that the commands of a run ask for. Source: this project's own.
use Rattle.std.specs.Prelude.{◌≡◌, ◌⊎◌, ◌≤◌, ◌<◌, ◌+◌, ◌-◌, ℕ, List, None, Some, length, slice_get}
use Rattle.rds_link.specs.Streaming.{HasRisenBy}
use Rattle.rds_model.specs.declared.entry.Entry.{Entry}
use Rattle.rds_model.specs.Alive.{up_to}
use Rattle.rds_model.specs.Past.{open_stream}
use Rattle.rds_model.specs.Sums.{opens}
use Rattle.rds_line_channel.specs.Carried.{shuts}
use Rattle.rds_text.specs.FinalState.{FinalHost, FinalJournal}
use Rattle.rds_text.specs.FinalViews.{host_views}
use Rattle.rds_script.specs.declared.script.Placed.{Placed}
use Rattle.rds_run_rounds.specs.Causes.{refusals}
use Rattle.rds_run_rounds.specs.Grid.{peer_at}
use Rattle.rds_run_hosts.specs.Streams.{streams_between}
use Rattle.rds_run_threads.specs.Causes.{HasNoneLeft}
use Rattle.rds_run_threads.specs.Outcome.{cuts_to}
use Rattle.rds_run_threads.specs.declared.form.RunEnd.{RunEnd}
use Rattle.rds_run_threads.specs.declared.form.RunEnd.TheVariants as ended

-- In the journal of a host with a peer at least as many streams were shut, or ended by a header that was refused, as the commands have the host
-- cut. Where fewer were shut, the journal opened all streams that were to be prepared between the two, and none is open any more.
pub record HasLostNoCut (host peer : ℕ) (commands : List Placed) (side : FinalJournal) : Type 0 where
  pub enough : cuts_to host side.peer commands ≤ shuts side.past + refusals side.past
  pub used : shuts side.past < cuts_to host side.peer commands →
      (opens side.past ≡ up_to (streams_between host peer commands)) × (open_stream side.past ≡ None)

-- so it is of each journal that hosts have in the end
abbrev pub AreCutsOfEnds : List Placed → List FinalHost → Type 0
AreCutsOfEnds commands ends = (host place : ℕ) (end : FinalHost) (side : FinalJournal) → slice_get ends host ≡ Some end →
    slice_get end.sides place ≡ Some side → HasLostNoCut host (peer_at host place) commands side

-- One of these journals of two hosts has no stream left: of the streams that were to be prepared for the cuts between the two it opened all
-- but so many as a wire's count of faults rose by at least, from this to that.
abbrev pub IsShortBy : (count before after : ℕ) → (own other : List Entry) → Type 0
IsShortBy count before after own other = HasNoneLeft own other × HasRisenBy (count - length (opens own)) before after

-- so it is where a run ended with what its hosts have, and so where it ended since two hosts lack a stream
abbrev pub IsCutEnd : List Placed → (before after : ℕ) → RunEnd → Type 0
IsCutEnd commands before after (ended.Ok ends) = AreCutsOfEnds commands (host_views ends.items)
IsCutEnd commands before after (ended.WireFault low high stream own other) =
    IsShortBy (streams_between low high commands) before after own.past other.past ⊎ IsShortBy (streams_between low high commands) before after other.past own.past
IsCutEnd commands before after (ended.Spent host peer entries own other) = Unit {0}
IsCutEnd commands before after (ended.Unfinished count ends) = AreCutsOfEnds commands (host_views ends.items)
IsCutEnd commands before after ended.WriteFault = Unit {0}
IsCutEnd commands before after ended.Memory = Unit {0}
