-- What the status of a call says of its source: whether a read failed, and whether it was read to its end.
use Rattle.std.proofs.Common.{◌≡◌, ◌⊎◌, inl, inr, ℕ, List, String, sym, ap, subst, ◌∙◌}
use Rattle.std.specs.Global.{Global}
use Rattle.rds_link.specs.Seen.{SinkSeen, SourceSeen}
use Rattle.rds_run.specs.declared.status.Status.{Status}
use Rattle.rds_run.specs.declared.status.Status.TheVariants as ended
use Rattle.rds_run.specs.ExitStatus.{code}
use Rattle.rds_run.specs.Reading.{IsEndOfReading, IsOfScript, TellsReadFaults}
use Rattle.rds_run.specs.Ending.{ReadsScript}
use Rattle.rds_run.specs.GenWords.{AreGen}
use Rattle.rds_run.specs.Works.{AreNoCommand}
use Rattle.rds_run.proofs.Codes.{is_of}
use Rattle.rds_run.proofs.Commands.{play_or_gen, run_or_gen}

-- a line that was to be written is, or the sink failed
pub said_or_failed : {P Q : Type 0} (said s : Status) → ((s ≡ said) × P) ⊎ ((s ≡ ended.WriteFault) × Q) → (s ≡ said) ⊎ (s ≡ ended.WriteFault)
said_or_failed said s (inl t) = inl t.0
said_or_failed said s (inr t) = inr t.0

-- the number of a status says so too
pub read_fault_told : (source : SourceSeen) (s : Status) (n : ℕ) → n ≡ code s → TellsReadFaults source s →
    (source.faults_after ≡ source.faults_before) ⊎ ((n ≡ 3) ⊎ (n ≡ 4))
read_fault_told source s n is (inl quiet) = inl quiet
read_fault_told source s n is (inr (inl read)) = inr (inl (is ∙ ap code read))
read_fault_told source s n is (inr (inr write)) = inr (inr (is ∙ ap code write))

-- where no script was read the status isn't one of a script
pub none_read : (source : SourceSeen) (sink : SinkSeen) (s : Status) → IsEndOfReading source sink s → IsOfScript s → ⊥
none_read source sink ended.Written ends of = ends
none_read source sink ended.Refused ends of = of
none_read source sink ended.Usage ends of = of
none_read source sink ended.ReadFault ends of = of
none_read source sink ended.WriteFault ends of = of
none_read source sink ended.WireFault ends of = ends
none_read source sink ended.Memory ends of = of
none_read source sink ended.Spent ends of = ends
none_read source sink ended.Unfinished ends of = ends
none_read source sink ended.TooManyStreams ends of = ends

-- the numbers of those that are
pub of_script : (s : Status) (n : ℕ) → n ≡ code s → (n ≡ 0) ⊎ ((n ≡ 5) ⊎ ((n ≡ 7) ⊎ ((n ≡ 8) ⊎ (n ≡ 9)))) → IsOfScript s
of_script s n is (inl e) = subst IsOfScript (sym (is_of s 0 (sym is ∙ e))) tt
of_script s n is (inr (inl e)) = subst IsOfScript (sym (is_of s 5 (sym is ∙ e))) tt
of_script s n is (inr (inr (inl e))) = subst IsOfScript (sym (is_of s 7 (sym is ∙ e))) tt
of_script s n is (inr (inr (inr (inl e)))) = subst IsOfScript (sym (is_of s 8 (sym is ∙ e))) tt
of_script s n is (inr (inr (inr (inr e)))) = subst IsOfScript (sym (is_of s 9 (sym is ∙ e))) tt

-- words that read a script aren't those of `gen`, nor those of no command
pub reads_or_gen : (words : List (String Global)) (sends seed : ℕ) → ReadsScript words → AreGen words sends seed → ⊥
reads_or_gen words sends seed (inl play) gen = play_or_gen words sends seed play gen
reads_or_gen words sends seed (inr run) gen = run_or_gen words run.0 sends seed run.1 gen

pub reads_or_none : (words : List (String Global)) → ReadsScript words → AreNoCommand words → ⊥
reads_or_none words (inl play) none = none.no_play play
reads_or_none words (inr run) none = none.no_run run.0 run.1
