-- What the exit status of a call says of its source and its sink. Source: this project's own; docs/COMMAND.md has the
-- table.
use Rattle.std.specs.Prelude.{◌≡◌, ℕ, Option, Ok, Err, List, MatchOption, IsSomeAnd}
use Rattle.rds_link.specs.Seen.{SinkSeen, SourceSeen}
use Rattle.rds_link.specs.Streaming.{HasRisen, SinkGained, SinkGainedFront}
use Rattle.rds_model.specs.declared.journal.TheConstants.{MAX_ENTRIES}
use Rattle.rds_script.specs.declared.cause.Cause.{Cause}
use Rattle.rds_script.specs.Cause.{cause_text}
use Rattle.rds_script.specs.Grammar.{Meaning, Spells}
use Rattle.rds_script.specs.Refusal.{Refused}
use Rattle.rds_history.specs.Events.{Event}
use Rattle.rds_history.specs.Courses.{Full}
use Rattle.rds_history.specs.History.{course, text}
use Rattle.rds_history.specs.Sound.{IsSoundPast}
use Rattle.rds_run.specs.declared.status.Status.{Status}
use Rattle.rds_run.specs.declared.status.Status.TheVariants as status
use Rattle.rds_run.specs.Texts.{read_fault_line, bad_line}

-- the number that the program exits with
abbrev pub code : Status → ℕ
code status.Written = 0
code status.Refused = 1
code status.Usage = 2
code status.ReadFault = 3
code status.WriteFault = 4
code status.WireFault = 5
code status.Memory = 6
code status.Spent = 7
code status.Unfinished = 8
code status.TooManyStreams = 9

-- the sink took these bytes, and the call wrote no others
abbrev pub HasTaken : SinkSeen → List ℕ → Type 0
HasTaken sink bytes = SinkGained sink.held_before sink.held_after bytes

-- the sink failed while the call ran, after it took a beginning of these bytes
abbrev pub HasFailedIn : SinkSeen → List ℕ → Type 0
HasFailedIn sink bytes =
    HasRisen sink.faults_before sink.faults_after × SinkGainedFront sink.held_before sink.held_after bytes

-- the sink holds what it held
abbrev pub HasTakenNothing : SinkSeen → Type 0
HasTakenNothing sink = sink.held_after ≡ sink.held_before

-- these bytes are all that the source had left, where it tells
abbrev pub AreAllLeft : (left : Option (List ℕ)) → List ℕ → Type 0
AreAllLeft left bytes = MatchOption left (Unit {0}) (λ all. bytes ≡ all)

-- the source's bytes spell the script
abbrev pub IsSpelled : (left : Option (List ℕ)) → Meaning → Type 0
IsSpelled left s = (bytes : List ℕ) × AreAllLeft left bytes × Spells bytes s

-- the source's bytes are refused at this line for this cause
abbrev pub IsRefusedAt : (left : Option (List ℕ)) → (line : ℕ) → Cause → Type 0
IsRefusedAt left line cause = (bytes : List ℕ) × AreAllLeft left bytes × Refused bytes line cause

-- the source tells its bytes, and they spell the script
abbrev pub IsToldSpelled : (left : Option (List ℕ)) → Meaning → Type 0
IsToldSpelled left s = IsSomeAnd left (λ bytes. Spells bytes s)

-- the source tells its bytes, and they are refused at this line for this cause
abbrev pub IsToldRefused : (left : Option (List ℕ)) → (line : ℕ) → Cause → Type 0
IsToldRefused left line cause = IsSomeAnd left (λ bytes. Refused bytes line cause)

-- the script ran to its end: its course leads to a past, which is sound, and the sink took its whole text
pub record IsPlayed (s : Meaning) (held_before held_after : Option (List ℕ)) : Type 0 where
  pub past : List Event
  pub leads : course s MAX_ENTRIES ≡ Ok past
  pub sound : IsSoundPast s.hosts past
  pub written : SinkGained held_before held_after (text s MAX_ENTRIES)

-- the script filled a journal: its course ends there, and the sink took its text, which is the line of that journal
pub record IsSpent (s : Meaning) (held_before held_after : Option (List ℕ)) : Type 0 where
  pub full : Full
  pub ends : course s MAX_ENTRIES ≡ Err full
  pub written : SinkGained held_before held_after (text s MAX_ENTRIES)

-- the text of a source is refused, and the text line that was written says where and why
abbrev pub IsRefusal : (left held_before held_after : Option (List ℕ)) → Type 0
IsRefusal left held_before held_after =
    (line : ℕ) × (cause : Cause) × IsRefusedAt left line cause × SinkGained held_before held_after (bad_line line (cause_text cause))

-- what is to be written where no script is read
pub data IsNoScriptAnswer (source : SourceSeen) : List ℕ → Type 0 where
  -- a read of the source failed: the line that says so
  OfReadFault : HasRisen source.faults_before source.faults_after → IsNoScriptAnswer source read_fault_line
  -- the source's bytes are refused: the line that says where and why
  OfRefusal : (line : ℕ) (cause : Cause) → IsRefusedAt source.left line cause → IsNoScriptAnswer source (bad_line line (cause_text cause))

-- what the command `play` has to write: that, or the text of the script that the source's bytes spell
pub data IsAnswer (source : SourceSeen) : List ℕ → Type 0 where
  OfUnread : (answer : List ℕ) → IsNoScriptAnswer source answer → IsAnswer source answer
  OfScript : (s : Meaning) → IsSpelled source.left s → IsAnswer source (text s MAX_ENTRIES)

-- A status for which `⊥` stands can't come.

-- the status after a refusal: its text line was written, or a fault of the sink or a memory error kept the call from that
abbrev pub IsEndOfRefusal : (line : ℕ) → Cause → SinkSeen → Status → Type 0
IsEndOfRefusal line cause sink status.Refused = HasTaken sink (bad_line line (cause_text cause))
IsEndOfRefusal line cause sink status.WriteFault = HasFailedIn sink (bad_line line (cause_text cause))
IsEndOfRefusal line cause sink status.Memory = HasTakenNothing sink
IsEndOfRefusal line cause sink _ = ⊥

-- the status after a script was played: its text was written, or a fault of the sink or a memory error kept the call from that
abbrev pub IsEndOfPlay : Meaning → SinkSeen → Status → Type 0
IsEndOfPlay s sink status.Written = IsPlayed s sink.held_before sink.held_after
IsEndOfPlay s sink status.Spent = IsSpent s sink.held_before sink.held_after
IsEndOfPlay s sink status.WriteFault = HasFailedIn sink (text s MAX_ENTRIES)
IsEndOfPlay s sink status.Memory = HasTakenNothing sink
IsEndOfPlay s sink _ = ⊥

-- the status of the command `play`
abbrev pub IsEndOfCall : SourceSeen → SinkSeen → Status → Type 0
IsEndOfCall source sink status.Written =
    (s : Meaning) × IsSpelled source.left s × IsPlayed s sink.held_before sink.held_after
IsEndOfCall source sink status.Spent =
    (s : Meaning) × IsSpelled source.left s × IsSpent s sink.held_before sink.held_after
IsEndOfCall source sink status.Refused = IsRefusal source.left sink.held_before sink.held_after
IsEndOfCall source sink status.Usage = ⊥
IsEndOfCall source sink status.ReadFault =
    HasRisen source.faults_before source.faults_after × HasTaken sink read_fault_line
IsEndOfCall source sink status.WriteFault = (answer : List ℕ) × IsAnswer source answer × HasFailedIn sink answer
IsEndOfCall source sink status.Memory = HasTakenNothing sink
IsEndOfCall source sink status.WireFault = ⊥
IsEndOfCall source sink status.Unfinished = ⊥
IsEndOfCall source sink status.TooManyStreams = ⊥
