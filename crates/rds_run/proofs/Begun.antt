-- What was written where the sink failed.
use Rattle.std.proofs.Common.{◌≡◌, ◌⊎◌, inl, inr, ℕ, Bool, true, List, String, sym, subst, ◌∙◌}
use Rattle.rds_link.specs.Seen.{SinkSeen, SourceSeen}
use Rattle.std.specs.Global.{Global}
use Rattle.rds_link.specs.Streaming.{HasRisen, SinkGainedFront}
use Rattle.rds_link.specs.declared.wire.WireCounts.{WireCounts}
use Rattle.rds_model.specs.declared.journal.TheConstants.{MAX_ENTRIES}
use Rattle.rds_script.specs.Grammar.{Meaning}
use Rattle.rds_script.specs.declared.script.Placed.{Placed}
use Rattle.rds_script_gen.specs.Generator.{generated}
use Rattle.rds_run_hosts.specs.Streams.{prepared_streams}
use Rattle.rds_run_threads.specs.Begun.{HasBegun}
use Rattle.rds_run_threads.specs.Counted.{IsCountedEnd}
use Rattle.rds_run_threads.specs.Cuts.{IsCutEnd}
use Rattle.rds_run_threads.specs.Ends.{HasToWrite}
use Rattle.rds_run_threads.specs.declared.form.Form.{Form}
use Rattle.rds_run_threads.specs.declared.form.Form.TheVariants as form
use Rattle.rds_run_threads.specs.declared.form.RunEnd.{RunEnd}
use Rattle.rds_run_threads.specs.declared.form.RunEnd.TheVariants as run_end
use Rattle.rds_run.specs.declared.wire.RunWire.{RunWire}
use Rattle.rds_run.specs.GenWords.{AreGen}
use Rattle.rds_run.specs.RunWords.{AreRun}
use Rattle.rds_run.specs.declared.status.Status.{Status}
use Rattle.rds_run.specs.declared.status.Status.TheVariants as ended
use Rattle.rds_run.specs.ExitStatus.{HasFailedIn, code}
use Rattle.rds_run.specs.RunStatus.{IsEndOfGenCall, IsEndOfScript, IsRunAnswer, IsRunText, OfNoScript, OfRunScript, OfTooMany, WireSeen, memory_seen, none_counted, seen_over}
use Rattle.rds_run.specs.Texts.{too_many_line}
use Rattle.rds_run.proofs.Ended.{Ends, HasRun, by_run, ends_at, gen_at, run_at}

-- what was counted of an end, where it isn't asked whether the wire may fail
counted_so : (tells : Bool) (may_fail : Type 0) (commands : List Placed) (before after : WireCounts) (e : RunEnd) →
    IsCountedEnd tells may_fail 20000000 commands before after e → IsCountedEnd tells (Unit {0}) 20000000 commands before after e
counted_so tells may_fail commands before after (run_end.Ok ends) counted = tt
counted_so tells may_fail commands before after (run_end.WireFault low high stream own other) counted = (tt, counted.1, counted.2)
counted_so tells may_fail commands before after (run_end.Spent host peer entries own other) counted = tt
counted_so tells may_fail commands before after (run_end.Unfinished count ends) counted = counted
counted_so tells may_fail commands before after run_end.WriteFault counted = tt
counted_so tells may_fail commands before after run_end.Memory counted = tt

-- nothing is asked of the counts of a wire whose ends tell their bytes and that can't fail
counted_none : (form : Form) (m : Meaning) (may_fail : Type 0) → (may_fail → ⊥) → (before after : WireCounts) (e : RunEnd) (text : List ℕ) →
    HasToWrite form true MAX_ENTRIES m.hosts m.commands e text → IsCountedEnd true may_fail 20000000 m.commands before after e →
    IsCountedEnd true (Unit {0}) 20000000 m.commands none_counted none_counted e
counted_none form m may_fail never before after (run_end.Ok ends) text has counted = tt
counted_none form m may_fail never before after (run_end.WireFault low high stream own other) text has counted = absurd (never counted.0)
counted_none form m may_fail never before after (run_end.Spent host peer entries own other) text has counted = tt
counted_none form m may_fail never before after (run_end.Unfinished count ends) text has counted = let told = has.1.untold in absurd (cc)
counted_none form m may_fail never before after run_end.WriteFault text has counted = absurd has
counted_none form m may_fail never before after run_end.Memory text has counted = absurd has

-- and no cut is lost, whatever its count of faults
cut_none : (m : Meaning) (may_fail : Type 0) → (may_fail → ⊥) → (before after : WireCounts) (was now : ℕ) (e : RunEnd) →
    IsCountedEnd true may_fail 20000000 m.commands before after e → IsCutEnd m.commands was now e → IsCutEnd m.commands 0 0 e
cut_none m may_fail never before after was now (run_end.Ok ends) counted cut = cut
cut_none m may_fail never before after was now (run_end.WireFault low high stream own other) counted cut = absurd (never counted.0)
cut_none m may_fail never before after was now (run_end.Spent host peer entries own other) counted cut = tt
cut_none m may_fail never before after was now (run_end.Unfinished count ends) counted cut = cut
cut_none m may_fail never before after was now run_end.WriteFault counted cut = tt
cut_none m may_fail never before after was now run_end.Memory counted cut = tt

-- where the sink failed, it took a beginning of what the run has to write
pub begun_of : (seen : WireSeen) (form : Form) (m : Meaning) (may_fail : Type 0) (sink : SinkSeen) → HasRisen sink.faults_before sink.faults_after →
    HasBegun form seen.tells MAX_ENTRIES m.hosts m.commands (IsCountedEnd seen.tells may_fail 20000000 m.commands seen.before seen.after) seen.before.faults seen.after.faults
    sink.held_before sink.held_after →
    (text : List ℕ) × IsRunText seen form m text × (HasRisen sink.faults_before sink.faults_after × SinkGainedFront sink.held_before sink.held_after text)
begun_of seen form m may_fail sink risen begun =
    (begun.1, (begun.0, begun.2, counted_so seen.tells may_fail m.commands seen.before seen.after begun.0 begun.3, begun.4), (risen, begun.5))

-- so it did in a run that ended so
pub risen_of : (seen : WireSeen) (form : Form) (m : Meaning) (sink : SinkSeen) (s : Status) → s ≡ ended.WriteFault → IsEndOfScript seen form m sink s →
    HasRisen sink.faults_before sink.faults_after
risen_of seen form m sink s is end = (subst (IsEndOfScript seen form m sink) is end).2.0

-- in memory, too
pub begun_in_memory : (form : Form) (m : Meaning) (may_fail : Type 0) → (may_fail → ⊥) → (before after : WireCounts) (was now : ℕ) (sink : SinkSeen) →
    HasRisen sink.faults_before sink.faults_after →
    HasBegun form true MAX_ENTRIES m.hosts m.commands (IsCountedEnd true may_fail 20000000 m.commands before after) was now sink.held_before sink.held_after →
    (text : List ℕ) × IsRunText memory_seen form m text × HasFailedIn sink text
begun_in_memory form m may_fail never before after was now sink risen begun = (
  begun.1,
  (
    begun.0,
    begun.2,
    counted_none form m may_fail never before after begun.0 begun.1 begun.2 begun.3,
    cut_none m may_fail never before after was now begun.0 begun.3 begun.4,
  ),
  (risen, begun.5),
)

module _ (tcp : WireSeen) (words : List (String Global)) (source : SourceSeen) (sink : SinkSeen) where
  abbrev HasBegunRun : RunWire → Type 0
  HasBegunRun over =
      (answer : List ℕ) × IsRunAnswer (seen_over over tcp) over source answer × SinkGainedFront sink.held_before sink.held_after answer

  run_begun_at : (over : RunWire) → HasRun tcp words source sink over ended.WriteFault → HasBegunRun over
  run_begun_at over (inl e) = by_run tcp words source sink over _ _
      (λ r. (r.0, OfNoScript r.0 r.1, r.2.1))
      (λ m read many r. (too_many_line (prepared_streams m), OfTooMany m read many, r.1))
      (λ m read few r. (r.0, OfRunScript m read few r.0 r.1, r.2.1)) e.ends
  run_begun_at over (inr none) = let e = none.0 in absurd (cc)

  pub run_begun : (s : Status) (n : ℕ) → n ≡ code s → Ends tcp words source sink s → (over : RunWire) → AreRun words over → n ≡ 4 → HasBegunRun over
  run_begun s n is end over run e =
      run_begun_at over (run_at tcp words source sink over ended.WriteFault (ends_at tcp words source sink s 4 end (sym is ∙ e)) run)

  abbrev HasBegunGen : (sends seed : ℕ) → Type 0
  HasBegunGen sends seed =
      (answer : List ℕ) × IsRunText memory_seen (form.Summary seed sends) (generated sends seed) answer × SinkGainedFront sink.held_before sink.held_after answer

  gen_begun_at : (sends seed : ℕ) → IsEndOfGenCall sends seed sink ended.WriteFault ⊎ ((ended.WriteFault ≡ ended.Memory) × (sink.held_after ≡ sink.held_before)) →
      HasBegunGen sends seed
  gen_begun_at sends seed (inl e) = (e.0, e.1, e.2.1)
  gen_begun_at sends seed (inr none) = let e = none.0 in absurd (cc)

  pub gen_begun : (s : Status) (n : ℕ) → n ≡ code s → Ends tcp words source sink s → (sends seed : ℕ) → AreGen words sends seed → n ≡ 4 → HasBegunGen sends seed
  gen_begun s n is end sends seed gen e =
      gen_begun_at sends seed (gen_at tcp words source sink sends seed ended.WriteFault (ends_at tcp words source sink s 4 end (sym is ∙ e)) gen)
