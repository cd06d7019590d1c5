-- What the counts of a wire say of how a run ended. Source: this project's own.
use Rattle.std.specs.Prelude.{◌≡◌, ◌⊎◌, ◌≤◌, ◌+◌, ℕ, Bool, true, List, None}
use Rattle.rds_link.specs.Streaming.{HasRisen, HasRisenBy}
use Rattle.rds_link.specs.declared.wire.WireCounts.{WireCounts}
use Rattle.rds_model.specs.declared.entry.Entry.{Entry}
use Rattle.rds_model.specs.Alive.{up_to}
use Rattle.rds_model.specs.Past.{open_stream}
use Rattle.rds_model.specs.Sums.{opens}
use Rattle.rds_text.specs.FinalState.{FinalHost}
use Rattle.rds_text.specs.FinalViews.{host_views}
use Rattle.rds_script.specs.declared.script.Placed.{Placed}
use Rattle.rds_run_rounds.specs.Causes.{OwesNothing, refusals}
use Rattle.rds_run_hosts.specs.Streams.{streams_between}
use Rattle.rds_run_threads.specs.Ends.{OfEachJournal, OfEachJournals}
use Rattle.rds_run_threads.specs.declared.form.RunEnd.{RunEnd}
use Rattle.rds_run_threads.specs.declared.form.RunEnd.TheVariants as ended

-- no journal owes a frame to its open stream for the map that it pulled last
abbrev pub EndsOweNothing : List FinalHost → Type 0
EndsOweNothing ends = OfEachJournal OwesNothing ends

-- Two hosts have used up their streams: in neither of their journals one is open, each opened all that were to be prepared between the two, and
-- together they refused at least three headers.
pub record HaveUsedUp (low high : ℕ) (commands : List Placed) (own other : List Entry) : Type 0 where
  pub own_closed : open_stream own ≡ None
  pub other_closed : open_stream other ≡ None
  pub own_opened : opens own ≡ up_to (streams_between low high commands)
  pub other_opened : opens other ≡ up_to (streams_between low high commands)
  pub refused : 3 ≤ refusals own + refusals other

-- so have each two of the hosts
abbrev pub HaveAllUsedUp : List Placed → List FinalHost → Type 0
HaveAllUsedUp commands ends = OfEachJournals (λ low high. HaveUsedUp low high commands) ends

-- What a wire counted before and after a run of commands that ended so. Where hosts lack a stream, the wire may fail and counted a fault, and at
-- least three where ends tell their bytes. Where datagrams aren't acknowledged, no journal owes anything or an end had no room, and ends answered at
-- least once for each round of the budget that no bytes are there, or each two hosts have used up their streams.
abbrev pub IsCountedEnd : (tells : Bool) (may_fail : Type 0) (budget : ℕ) (commands : List Placed) (before after : WireCounts) → RunEnd → Type 0
IsCountedEnd tells may_fail budget commands before after (ended.Ok ends) = Unit {0}
IsCountedEnd tells may_fail budget commands before after (ended.WireFault low high stream own other) =
    may_fail × HasRisen before.faults after.faults × (tells ≡ true → HasRisenBy 3 before.faults after.faults)
IsCountedEnd tells may_fail budget commands before after (ended.Spent host peer entries own other) = Unit {0}
IsCountedEnd tells may_fail budget commands before after (ended.Unfinished count ends) =
    (EndsOweNothing (host_views ends.items) ⊎ HasRisen before.fulls after.fulls)
    × (HaveAllUsedUp commands (host_views ends.items) ⊎ HasRisenBy budget before.nothings after.nothings)
IsCountedEnd tells may_fail budget commands before after ended.WriteFault = Unit {0}
IsCountedEnd tells may_fail budget commands before after ended.Memory = Unit {0}
