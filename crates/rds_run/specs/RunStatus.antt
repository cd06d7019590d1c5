-- What the exit status of a run says of its source and its sink. Source: this project's own; docs/COMMAND.md has the table.
use Rattle.std.specs.Prelude.{◌≡◌, ◌⊎◌, ℕ, ◌<◌, Bool, true, Option, List}
use Rattle.rds_link.specs.Seen.{SinkSeen, SourceSeen}
use Rattle.rds_link.specs.Streaming.{HasRisen, HasRisenBy, SinkGained}
use Rattle.rds_link.specs.declared.wire.WireCounts.{WireCounts}
use Rattle.rds_model.specs.declared.entry.Entry.{Entry}
use Rattle.rds_model.specs.declared.journal.TheConstants.{MAX_ENTRIES}
use Rattle.rds_script.specs.Grammar.{Meaning}
use Rattle.rds_text.specs.Lines.{spent_line}
use Rattle.rds_text.specs.FinalState.{FinalHost}
use Rattle.rds_run_hosts.specs.Streams.{prepared_streams, streams_between}
use Rattle.rds_run_threads.specs.Causes.{AreLackingStream, AreUnacknowledged, IsFullJournal}
use Rattle.rds_run_threads.specs.Counted.{EndsOweNothing, HaveAllUsedUp, IsCountedEnd}
use Rattle.rds_run_threads.specs.Cuts.{AreCutsOfEnds, IsCutEnd, IsShortBy}
use Rattle.rds_run_threads.specs.Ends.{AreAcknowledged, AreDrainedHosts, AreEnds, HasToWrite, NoneFull, NonePending}
use Rattle.rds_run_threads.specs.Texts.{fault_line, text_of, unfinished_line}
use Rattle.rds_run_threads.specs.declared.form.Form.{Form}
use Rattle.rds_run_threads.specs.declared.form.Form.TheVariants as form
use Rattle.rds_run_threads.specs.declared.form.RunEnd.{RunEnd}
use Rattle.rds_script_gen.specs.Generator.{generated}
use Rattle.rds_run.specs.declared.wire.RunWire.{RunWire}
use Rattle.rds_run.specs.declared.wire.RunWire.TheVariants as wire
use Rattle.rds_run.specs.declared.status.Status.{Status}
use Rattle.rds_run.specs.declared.status.Status.TheVariants as status
use Rattle.rds_run.specs.ExitStatus.{HasFailedIn, HasTaken, HasTakenNothing, IsNoScriptAnswer, IsSpelled}
use Rattle.rds_run.specs.Limits.{most_quiet, most_streams}
use Rattle.rds_run.specs.Reading.{IsEndOfReading}
use Rattle.rds_run.specs.Texts.{too_many_line}

-- whether the ends of a wire tell their bytes: those in memory do, and those over TCP as they say
abbrev pub tells_over : RunWire → (tcp : Bool) → Bool
tells_over wire.Memory tcp = true
tells_over wire.Tcp tcp = tcp

-- what a call sees of a wire: whether its ends tell their bytes, and what it counted before and after
pub record WireSeen : Type 0 where
  pub tells : Bool
  pub before : WireCounts
  pub after : WireCounts

-- a wire before and after, by what it has counted
abbrev pub wire_seen : {W : Type 0} → (tells : Bool) → (counted : W → WireCounts) → (old new : W) → WireSeen
wire_seen tells counted old new = record { tells = tells; before = counted old; after = counted new }

-- nothing was counted
abbrev pub none_counted : WireCounts
none_counted = record { faults = 0; nothings = 0; fulls = 0 }

-- Streams in memory, none of which fails: their ends tell their bytes, and no status is answered for a count of theirs.
abbrev pub memory_seen : WireSeen
memory_seen = record { tells = true; before = none_counted; after = none_counted }

-- the wire that a run goes over: streams in memory, or this one of TCP
abbrev pub seen_over : RunWire → (tcp : WireSeen) → WireSeen
seen_over wire.Memory tcp = memory_seen
seen_over wire.Tcp tcp = tcp

-- A run of the script came to its end over a wire that was seen so: its hosts did the script's commands, what they have then is sound, no
-- datagram is left unacknowledged, no journal is full, at least as many streams ended as the commands cut, and the sink took exactly the text
-- of this form on it. Where ends tell their bytes, nothing is left on its way between any two of the hosts, and no datagram is pending.
pub record IsRan (seen : WireSeen) (form : Form) (s : Meaning) (held_before held_after : Option (List ℕ)) : Type 0 where
  pub ends : List FinalHost
  pub did : AreEnds seen.tells s.hosts s.commands ends
  pub acknowledged : AreAcknowledged ends
  pub drained : seen.tells ≡ true → AreDrainedHosts ends
  pub none_pending : seen.tells ≡ true → NonePending ends
  pub none_full : NoneFull MAX_ENTRIES ends
  pub cut : AreCutsOfEnds s.commands ends
  pub written : SinkGained held_before held_after (text_of form ends)

-- A run of the script filled the journal of a host with a peer: both journals of the two are sound and of the script's commands, and neither
-- opened more streams than were to be prepared. Where there are no other hosts, each pulled a map with a port only where it delivered more than
-- a receive buffer holds. The sink took the line that says so.
pub record HasFilled (tells : Bool) (s : Meaning) (held_before held_after : Option (List ℕ)) : Type 0 where
  pub host : ℕ
  pub peer : ℕ
  pub entries : ℕ
  pub own : List Entry
  pub other : List Entry
  pub full : IsFullJournal tells MAX_ENTRIES s.hosts s.commands host peer entries own other
  pub written : SinkGained held_before held_after (spent_line host peer entries)

-- Two hosts of the script, which have these journals of their connection, lack a stream, and the sink took the line that says so. The wire
-- counted a fault in the call, at least three where its ends tell their bytes, and at least as many as streams that were to be prepared weren't
-- opened in the journal that has none left.
pub record IsWireFault (seen : WireSeen) (s : Meaning) (held_before held_after : Option (List ℕ)) : Type 0 where
  pub low : ℕ
  pub high : ℕ
  pub stream : ℕ
  pub own : List Entry
  pub other : List Entry
  pub lacking : AreLackingStream seen.tells s.hosts s.commands low high stream own other
  pub rose : HasRisen seen.before.faults seen.after.faults
  pub thrice : seen.tells ≡ true → HasRisenBy 3 seen.before.faults seen.after.faults
  pub short : IsShortBy (streams_between low high s.commands) seen.before.faults seen.after.faults own other
      ⊎ IsShortBy (streams_between low high s.commands) seen.before.faults seen.after.faults other own
  pub written : SinkGained held_before held_after (fault_line low high stream)

-- The hosts did the script's commands, and what they have then is sound. So many datagrams aren't acknowledged, no journal is full, and the
-- sink took the line that says how many. No journal owes anything to its open stream, or the wire counted in the call that there was no room;
-- and it counted at least 20,000,000 times that no bytes were there, or each two hosts have used up their streams, and the journals of the two
-- refused at least three headers together. At least as many streams ended as the commands cut.
pub record IsRunUnfinished (seen : WireSeen) (s : Meaning) (held_before held_after : Option (List ℕ)) : Type 0 where
  pub count : ℕ
  pub ends : List FinalHost
  pub did : AreEnds seen.tells s.hosts s.commands ends
  pub unacknowledged : AreUnacknowledged seen.tells count ends
  pub none_full : NoneFull MAX_ENTRIES ends
  pub full : EndsOweNothing ends ⊎ HasRisen seen.before.fulls seen.after.fulls
  pub waited : HaveAllUsedUp s.commands ends ⊎ HasRisenBy most_quiet seen.before.nothings seen.after.nothings
  pub cut : AreCutsOfEnds s.commands ends
  pub written : SinkGained held_before held_after (unfinished_line count)

-- What a run of the script has to write, in a text of this form: the text of an end that the run may come to, by what was counted of the
-- wire, and at which at least as many streams ended as the commands cut.
abbrev pub IsRunText : WireSeen → Form → Meaning → List ℕ → Type 0
IsRunText seen form s text =
    (end : RunEnd) × HasToWrite form seen.tells MAX_ENTRIES s.hosts s.commands end text × IsCountedEnd seen.tells (Unit {0}) most_quiet s.commands seen.before seen.after end
    × IsCutEnd s.commands seen.before.faults seen.after.faults end

-- more streams would be prepared for a run of the script over TCP than may be
abbrev pub IsTooMany : RunWire → Meaning → Type 0
IsTooMany over s = (over ≡ wire.Tcp) × (most_streams < prepared_streams s)

-- what the command `run` has to write: the line that says why no script was read or that its streams are too many, or what a run of it has to
-- write
pub data IsRunAnswer (seen : WireSeen) (over : RunWire) (source : SourceSeen) : List ℕ → Type 0 where
  OfNoScript : (answer : List ℕ) → IsNoScriptAnswer source answer → IsRunAnswer seen over source answer
  OfTooMany : (s : Meaning) → IsSpelled source.left s → IsTooMany over s → IsRunAnswer seen over source (too_many_line (prepared_streams s))
  OfRunScript : (s : Meaning) → IsSpelled source.left s → (IsTooMany over s → ⊥) → (answer : List ℕ) → IsRunText seen form.Report s answer →
      IsRunAnswer seen over source answer

-- A status for which `⊥` stands can't come.

-- the status where so many streams are too many: the line that says so was written, or a fault of the sink or a memory error kept the call
-- from that
abbrev pub IsEndOfTooMany : (count : ℕ) → SinkSeen → Status → Type 0
IsEndOfTooMany count sink status.TooManyStreams = HasTaken sink (too_many_line count)
IsEndOfTooMany count sink status.WriteFault = HasFailedIn sink (too_many_line count)
IsEndOfTooMany count sink status.Memory = HasTakenNothing sink
IsEndOfTooMany count sink _ = ⊥

-- the status after a script was run, whose text has this form
abbrev pub IsEndOfScript : WireSeen → Form → Meaning → SinkSeen → Status → Type 0
IsEndOfScript seen form s sink status.Written = IsRan seen form s sink.held_before sink.held_after
IsEndOfScript seen form s sink status.WireFault = IsWireFault seen s sink.held_before sink.held_after
IsEndOfScript seen form s sink status.Spent = HasFilled seen.tells s sink.held_before sink.held_after
IsEndOfScript seen form s sink status.Unfinished = IsRunUnfinished seen s sink.held_before sink.held_after
IsEndOfScript seen form s sink status.WriteFault = (text : List ℕ) × IsRunText seen form s text × HasFailedIn sink text
IsEndOfScript seen form s sink status.Memory = HasTakenNothing sink
IsEndOfScript seen form s sink _ = ⊥

-- how the command `run` ends with a script: its streams are too many, or it was run
pub data IsEndOfRunOver (seen : WireSeen) (over : RunWire) (s : Meaning) (sink : SinkSeen) (end : Status) : Type 0 where
  TooMany : IsTooMany over s → IsEndOfTooMany (prepared_streams s) sink end → IsEndOfRunOver seen over s sink end
  Ran : (IsTooMany over s → ⊥) → IsEndOfScript seen form.Report s sink end → IsEndOfRunOver seen over s sink end

-- the status of the command `run`: no script was read, or the source's bytes spell one
abbrev pub IsEndOfRunCall : WireSeen → RunWire → SourceSeen → SinkSeen → Status → Type 0
IsEndOfRunCall seen over source sink end =
    IsEndOfReading source sink end ⊎ ((s : Meaning) × IsSpelled source.left s × IsEndOfRunOver seen over s sink end)

-- the status of the command `gen`: the generated script was run over memory, or memory ran out before
abbrev pub IsEndOfGenCall : (sends seed : ℕ) → SinkSeen → Status → Type 0
IsEndOfGenCall sends seed sink s = IsEndOfScript memory_seen (form.Summary seed sends) (generated sends seed) sink s
