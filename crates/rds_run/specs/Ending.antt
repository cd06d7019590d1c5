-- How the program ends, by what its words ask for. Source: this project's own.
use Rattle.std.specs.Prelude.{◌≡◌, ◌⊎◌, ℕ, List, String}
use Rattle.rds_link.specs.Seen.{SinkSeen, SourceSeen}
use Rattle.std.specs.Global.{Global}
use Rattle.rds_link.specs.Streaming.{HasRisen}
use Rattle.rds_script.specs.declared.cause.Cause.{Cause}
use Rattle.rds_script.specs.Grammar.{Meaning}
use Rattle.rds_run.specs.declared.status.Status.{Status}
use Rattle.rds_run.specs.declared.status.Status.TheVariants as status
use Rattle.rds_run.specs.ExitStatus.{HasFailedIn, HasTaken, HasTakenNothing, IsEndOfCall, IsEndOfRefusal, IsToldRefused, IsToldSpelled}
use Rattle.rds_run.specs.RunStatus.{IsEndOfGenCall, IsEndOfRunCall, IsEndOfRunOver, IsEndOfTooMany, IsTooMany, WireSeen, seen_over}
use Rattle.rds_run_hosts.specs.Streams.{prepared_streams}
use Rattle.rds_run.specs.Texts.{usage_line}
use Rattle.rds_run.specs.declared.wire.RunWire.{RunWire}
use Rattle.rds_run.specs.GenWords.{AreGen}
use Rattle.rds_run.specs.PlayWords.{ArePlay}
use Rattle.rds_run.specs.RunWords.{AreRun}
use Rattle.rds_run.specs.Works.{AreNoCommand}

-- the words are those of `play` or of `run`, which read a script from the source
abbrev pub ReadsScript : List (String Global) → Type 0
ReadsScript words = ArePlay words ⊎ ((over : RunWire) × AreRun words over)

-- a text that is refused is answered so, unless the source or the sink fails or memory runs out
abbrev pub Refuses : SourceSeen → SinkSeen → Status → Type 0
Refuses source sink s = (line : ℕ) (cause : Cause) → IsToldRefused source.left line cause →
    IsEndOfRefusal line cause sink s ⊎ ((s ≡ status.ReadFault) ⊎ (s ≡ status.WriteFault))

-- how `play` ends; a text that spells a script is played, unless the source or the sink fails or memory runs out
pub record IsEndOfPlaying (source : SourceSeen) (sink : SinkSeen) (s : Status) : Type 0 where
  pub ends : IsEndOfCall source sink s
  pub refuses : Refuses source sink s
  pub plays : (m : Meaning) → IsToldSpelled source.left m → (HasRisen source.faults_before source.faults_after → ⊥) → (HasRisen sink.faults_before sink.faults_after → ⊥) →
      (s ≡ status.Written) ⊎ ((s ≡ status.Memory) ⊎ (s ≡ status.Spent))

-- how `run` ends; a text that spells a script for which too many streams would be prepared is answered so, unless the source or the sink
-- fails or memory runs out, and one that spells another script is run
pub record IsEndOfRunning (seen : WireSeen) (over : RunWire) (source : SourceSeen) (sink : SinkSeen) (s : Status) : Type 0 where
  pub ends : IsEndOfRunCall seen over source sink s
  pub refuses : Refuses source sink s
  pub too_many : (m : Meaning) → IsToldSpelled source.left m → IsTooMany over m →
      IsEndOfTooMany (prepared_streams m) sink s ⊎ ((s ≡ status.ReadFault) ⊎ (s ≡ status.WriteFault))
  pub runs : (m : Meaning) → IsToldSpelled source.left m → (HasRisen source.faults_before source.faults_after → ⊥) →
      IsEndOfRunOver seen over m sink s ⊎ (s ≡ status.Memory)

-- the usage line was written, or the sink failed after it took a beginning of it; another status can't come
abbrev pub IsEndOfUsage : SinkSeen → Status → Type 0
IsEndOfUsage sink status.Usage = HasTaken sink usage_line
IsEndOfUsage sink status.WriteFault = HasFailedIn sink usage_line
IsEndOfUsage sink _ = ⊥

-- The words are those of one command, which ends so, or those of none, or memory ran out before that was known. This is seen of the wire over
-- TCP.
pub data IsEndOfProgram (tcp : WireSeen) (words : List (String Global)) (source : SourceSeen) (sink : SinkSeen) (s : Status) : Type 0 where
  OfPlay : ArePlay words → IsEndOfPlaying source sink s → IsEndOfProgram tcp words source sink s
  OfRun : (over : RunWire) → AreRun words over → IsEndOfRunning (seen_over over tcp) over source sink s → IsEndOfProgram tcp words source sink s
  OfGen : (sends seed : ℕ) → AreGen words sends seed → IsEndOfGenCall sends seed sink s → IsEndOfProgram tcp words source sink s
  OfNone : AreNoCommand words → IsEndOfUsage sink s → IsEndOfProgram tcp words source sink s
  OfMemory : s ≡ status.Memory → HasTakenNothing sink → IsEndOfProgram tcp words source sink s
