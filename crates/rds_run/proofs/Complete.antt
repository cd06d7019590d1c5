-- Where nothing failed, a script is run.
use Rattle.std.proofs.Common.{◌≡◌, ◌⊎◌, ⊎_elim, inl, inr, ℕ, List, String, refl, sym, ap, subst}
use Rattle.rds_link.specs.Seen.{SinkSeen, SourceSeen}
use Rattle.std.specs.Global.{Global}
use Rattle.rds_link.specs.Streaming.{HasRisen}
use Rattle.rds_script.specs.Grammar.{Meaning}
use Rattle.rds_run_hosts.specs.Streams.{prepared_streams}
use Rattle.rds_script_gen.specs.Generator.{generated}
use Rattle.rds_run_threads.specs.declared.form.Form.{Form}
use Rattle.rds_run_threads.specs.declared.form.Form.TheVariants as form
use Rattle.rds_run.specs.declared.wire.RunWire.{RunWire}
use Rattle.rds_run.specs.declared.wire.RunWire.TheVariants as wire
use Rattle.rds_run.specs.GenWords.{AreGen}
use Rattle.rds_run.specs.RunWords.{AreRun}
use Rattle.rds_run.specs.declared.status.Status.{Status}
use Rattle.rds_run.specs.declared.status.Status.TheVariants as ended
use Rattle.rds_run.specs.ExitStatus.{IsToldSpelled, code}
use Rattle.rds_run.specs.RunStatus.{IsEndOfRunOver, IsEndOfScript, IsEndOfTooMany, Ran, TooMany, WireSeen, memory_seen, seen_over}
use Rattle.rds_run.specs.Ending.{IsEndOfProgram, OfGen, OfMemory, OfNone, OfPlay, OfRun}
use Rattle.rds_run.proofs.Commands.{play_or_gen, play_or_run, run_or_gen, same_wire}
use Rattle.rds_run.proofs.Ended as ends

-- the numbers after a run whose script was run where nothing failed
abbrev AreRunCodes : RunWire → ℕ → Type 0
AreRunCodes over n = (n ≡ 0) ⊎ ((n ≡ 6) ⊎ ((n ≡ 7) ⊎ ((over ≡ wire.Tcp) × ((n ≡ 8) ⊎ (n ≡ 9)))))

abbrev AreGenCodes : ℕ → Type 0
AreGenCodes n = (n ≡ 0) ⊎ ((n ≡ 6) ⊎ (n ≡ 7))

module _ (tcp : WireSeen) (m : Meaning) (sink : SinkSeen) (wrote : HasRisen sink.faults_before sink.faults_after → ⊥) where
  -- a run in memory is neither left unfinished nor lacks a stream
  in_memory : (f : Form) (s : Status) → IsEndOfScript memory_seen f m sink s → AreGenCodes (code s)
  in_memory f ended.Written end = inl refl
  in_memory f ended.Refused end = absurd end
  in_memory f ended.Usage end = absurd end
  in_memory f ended.ReadFault end = absurd end
  in_memory f ended.WriteFault end = absurd (wrote end.2.0)
  in_memory f ended.WireFault end = absurd (ends.never_risen end.rose)
  in_memory f ended.Memory end = inr (inl refl)
  in_memory f ended.Spent end = inr (inr refl)
  in_memory f ended.Unfinished end = let told = end.unacknowledged.untold in absurd (cc)
  in_memory f ended.TooManyStreams end = absurd end

  over_tcp : (HasRisen tcp.before.faults tcp.after.faults → ⊥) → (s : Status) → IsEndOfScript tcp form.Report m sink s → AreRunCodes wire.Tcp (code s)
  over_tcp well ended.Written end = inl refl
  over_tcp well ended.Refused end = absurd end
  over_tcp well ended.Usage end = absurd end
  over_tcp well ended.ReadFault end = absurd end
  over_tcp well ended.WriteFault end = absurd (wrote end.2.0)
  over_tcp well ended.WireFault end = absurd (well end.rose)
  over_tcp well ended.Memory end = inr (inl refl)
  over_tcp well ended.Spent end = inr (inr (inl refl))
  over_tcp well ended.Unfinished end = inr (inr (inr (refl, inl refl)))
  over_tcp well ended.TooManyStreams end = absurd end

  too_many : (s : Status) → IsEndOfTooMany (prepared_streams m) sink s → (over : RunWire) → over ≡ wire.Tcp → AreRunCodes over (code s)
  too_many ended.Written end over is = absurd end
  too_many ended.Refused end over is = absurd end
  too_many ended.Usage end over is = absurd end
  too_many ended.ReadFault end over is = absurd end
  too_many ended.WriteFault end over is = absurd (wrote end.0)
  too_many ended.WireFault end over is = absurd end
  too_many ended.Memory end over is = inr (inl refl)
  too_many ended.Spent end over is = absurd end
  too_many ended.Unfinished end over is = absurd end
  too_many ended.TooManyStreams end over is = inr (inr (inr (is, inr refl)))

  more_codes : (over : RunWire) (n : ℕ) → AreGenCodes n → AreRunCodes over n
  more_codes over n (inl e) = inl e
  more_codes over n (inr (inl e)) = inr (inl e)
  more_codes over n (inr (inr e)) = inr (inr (inl e))

  ran_over : (HasRisen tcp.before.faults tcp.after.faults → ⊥) → (over : RunWire) (s : Status) → IsEndOfScript (seen_over over tcp) form.Report m sink s →
      AreRunCodes over (code s)
  ran_over well wire.Memory s end = more_codes wire.Memory (code s) (in_memory form.Report s end)
  ran_over well wire.Tcp s end = over_tcp well s end

  run_over : (HasRisen tcp.before.faults tcp.after.faults → ⊥) → (over : RunWire) (s : Status) → IsEndOfRunOver (seen_over over tcp) over m sink s →
      AreRunCodes over (code s)
  run_over well over s (TooMany is end) = too_many s end over is.0
  run_over well over s (Ran few end) = ran_over well over s end

module _ (tcp : WireSeen) (words : List (String Global)) (source : SourceSeen) (sink : SinkSeen) where
  abbrev Ends : Status → Type 0
  Ends s = IsEndOfProgram tcp words source sink s

  run_codes : (over : RunWire) (s : Status) → Ends s → AreRun words over → (m : Meaning) → IsToldSpelled source.left m →
      (HasRisen source.faults_before source.faults_after → ⊥) → (HasRisen sink.faults_before sink.faults_after → ⊥) →
      (HasRisen tcp.before.faults tcp.after.faults → ⊥) → AreRunCodes over (code s)
  run_codes over s (OfPlay is e) run m told read wrote well = absurd (play_or_run words over is run)
  run_codes over s (OfRun asked is e) run m told read wrote well =
      subst (λ (w : RunWire). AreRunCodes w (code s)) (same_wire words asked over is run)
      (⊎_elim (λ (ran : IsEndOfRunOver (seen_over asked tcp) asked m sink s). run_over tcp m sink wrote well asked s ran)
      (λ (none : s ≡ ended.Memory). inr (inl (ap code none))) (e.runs m told read))
  run_codes over s (OfGen sends seed is e) run m told read wrote well = absurd (run_or_gen words over sends seed run is)
  run_codes over s (OfNone none e) run m told read wrote well = absurd (none.no_run over run)
  run_codes over s (OfMemory e same) run m told read wrote well = inr (inl (ap code e))

  pub runs : (s : Status) (n : ℕ) → n ≡ code s → Ends s → (over : RunWire) → AreRun words over → (m : Meaning) → IsToldSpelled source.left m →
      (HasRisen source.faults_before source.faults_after → ⊥) → (HasRisen sink.faults_before sink.faults_after → ⊥) →
      (HasRisen tcp.before.faults tcp.after.faults → ⊥) → AreRunCodes over n
  runs s n is end over run m told read wrote well = subst (AreRunCodes over) (sym is) (run_codes over s end run m told read wrote well)

  gen_codes : (sends seed : ℕ) (s : Status) → Ends s → AreGen words sends seed → (HasRisen sink.faults_before sink.faults_after → ⊥) → AreGenCodes (code s)
  gen_codes sends seed s (OfPlay is e) gen wrote = absurd (play_or_gen words sends seed is gen)
  gen_codes sends seed s (OfRun over is e) gen wrote = absurd (run_or_gen words over sends seed is gen)
  gen_codes sends seed s (OfGen n k is e) gen wrote = in_memory tcp (generated n k) sink wrote (form.Summary k n) s e
  gen_codes sends seed s (OfNone none e) gen wrote = absurd (none.no_gen sends seed gen)
  gen_codes sends seed s (OfMemory e same) gen wrote = inr (inl (ap code e))

  pub generates : (s : Status) (n : ℕ) → n ≡ code s → Ends s → (sends seed : ℕ) → AreGen words sends seed →
      (HasRisen sink.faults_before sink.faults_after → ⊥) → AreGenCodes n
  generates s n is end sends seed gen wrote = subst AreGenCodes (sym is) (gen_codes sends seed s end gen wrote)
