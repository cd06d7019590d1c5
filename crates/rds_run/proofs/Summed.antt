-- What `gen` writes is a function of its words.
use Rattle.std.proofs.Common.{◌≡◌, ℕ, ◌≤◌, true, List, String, codes, map, string_bytes, subst}
use Rattle.std.specs.Global.{Global}
use Rattle.rds_link.specs.Seen.{SinkSeen, SourceSeen}
use Rattle.rds_link.specs.Streaming.{SinkGained}
use Rattle.rds_text.specs.FinalState.{FinalHost}
use Rattle.rds_report.specs.Summary.{summary}
use Rattle.rds_script_gen.specs.Generator.{generated}
use Rattle.rds_run_threads.specs.Ends.{AreAcknowledged, AreEnds}
use Rattle.rds_run_laws.specs.Calm.{generated_summary}
use Rattle.rds_run.specs.declared.status.Status.{Status}
use Rattle.rds_run.specs.ExitStatus.{code}
use Rattle.rds_run.specs.Ending.{IsEndOfProgram}
use Rattle.rds_run.specs.GenWords.{AreGen, gen_word}
use Rattle.rds_run.specs.RunStatus.{WireSeen}
use Rattle.rds_run.proofs.Commands.{sends_in}
use Rattle.rds_run.proofs.Ended.{summed}

pub summary_text : ((sends seed : ℕ) (ends : List FinalHost) → sends ≤ 100000 → AreEnds true 8 (generated sends seed).commands ends → AreAcknowledged ends →
    summary ends seed sends ≡ generated_summary seed sends) →
    (tcp : WireSeen) (words : List (String Global)) (source : SourceSeen) (sink : SinkSeen) (s : Status) (n : ℕ) → n ≡ code s → IsEndOfProgram tcp words source sink s →
    (sends seed : ℕ) → AreGen words sends seed → n ≡ 0 → SinkGained sink.held_before sink.held_after (generated_summary seed sends)
summary_text law tcp words source sink s n is end sends seed gen e =
    let ran = summed tcp words source sink s n is end sends seed gen e in
    let few = (sends_in (gen_word (codes "sends") (map string_bytes words)) sends gen.1.numbers.0).1 in
    subst (SinkGained sink.held_before sink.held_after) (law sends seed ran.ends few ran.did ran.acknowledged) ran.written
