-- What comes of reading a script. Source: this project's own.
use Rattle.std.specs.Prelude.{◌≡◌, ◌⊎◌, ℕ, List, [], Option, Some, MatchOption, Result, Ok, Err}
use Rattle.rds_link.specs.Seen.{SinkSeen, SourceSeen}
use Rattle.rds_link.specs.Streaming.{HasRisen}
use Rattle.rds_script.specs.declared.cause.Cause.{Cause}
use Rattle.rds_script.specs.declared.script.Script.{Script}
use Rattle.rds_script.specs.Grammar.{Meaning, meaning}
use Rattle.rds_run.specs.declared.status.Status.{Status}
use Rattle.rds_run.specs.declared.status.Status.TheVariants as status
use Rattle.rds_run.specs.ExitStatus.{HasFailedIn, HasTaken, HasTakenNothing, IsEndOfRefusal, IsRefusal, IsNoScriptAnswer}
use Rattle.rds_run.specs.Texts.{read_fault_line}

-- no read of the source failed in the call, or the status says that one did, unless the sink failed when that was to be said
abbrev pub TellsReadFaults : SourceSeen → Status → Type 0
TellsReadFaults source s = (source.faults_after ≡ source.faults_before) ⊎ ((s ≡ status.ReadFault) ⊎ (s ≡ status.WriteFault))

-- where a source tells what it has left, nothing is left
abbrev pub IsReadToEnd : (old new : Option (List ℕ)) → Type 0
IsReadToEnd old new = MatchOption old (Unit {0}) (λ all. new ≡ Some [])

-- Such a status says what came of a script: it was played or run, its hosts lack a stream, it filled a journal, it was left unfinished, or it needs
-- too many streams.
abbrev pub IsOfScript : Status → Type 0
IsOfScript status.Written = Unit {0}
IsOfScript status.WireFault = Unit {0}
IsOfScript status.Spent = Unit {0}
IsOfScript status.Unfinished = Unit {0}
IsOfScript status.TooManyStreams = Unit {0}
IsOfScript _ = ⊥

-- The status where no script was read. A status for which `⊥` stands can't come.
abbrev pub IsEndOfReading : SourceSeen → SinkSeen → Status → Type 0
IsEndOfReading source sink status.Refused = IsRefusal source.left sink.held_before sink.held_after
IsEndOfReading source sink status.ReadFault =
    HasRisen source.faults_before source.faults_after × HasTaken sink read_fault_line
IsEndOfReading source sink status.WriteFault = (answer : List ℕ) × IsNoScriptAnswer source answer × HasFailedIn sink answer
IsEndOfReading source sink status.Memory = HasTakenNothing sink
IsEndOfReading source sink _ = ⊥

-- the text was refused there for that cause, and the status says so, or the source or the sink failed
abbrev pub IsRefusedBy : (line : ℕ) → Cause → SinkSeen → Result Script Status → Type 0
IsRefusedBy line cause sink (Ok script) = ⊥
IsRefusedBy line cause sink (Err s) = IsEndOfRefusal line cause sink s ⊎ ((s ≡ status.ReadFault) ⊎ (s ≡ status.WriteFault))

-- this script was read, or memory ran out, or the source failed, and the status says so unless the sink failed too
abbrev pub IsReadAs : Meaning → SourceSeen → Result Script Status → Type 0
IsReadAs m source (Ok script) = meaning script ≡ m
IsReadAs m source (Err s) =
    (s ≡ status.Memory) ⊎ (HasRisen source.faults_before source.faults_after × ((s ≡ status.ReadFault) ⊎ (s ≡ status.WriteFault)))
