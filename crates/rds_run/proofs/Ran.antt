-- A run that ended so is one of which the status says so.
use Rattle.std.proofs.Common.{◌≡◌, ◌≢◌, ◌⊎◌, inl, inr, ℕ, true, List, [], Vec, refl, subst}
use Rattle.rds_link.specs.Seen.{SinkSeen}
use Rattle.std.specs.Global.{Global}
use Rattle.rds_link.specs.Streaming.{SinkGained}
use Rattle.rds_script.specs.Grammar.{Meaning}
use Rattle.rds_text.specs.FinalViews.{host_views}
use Rattle.rds_text.specs.declared.final_state.HostEnd.{HostEnd}
use Rattle.rds_run_threads.specs.Cuts.{IsCutEnd}
use Rattle.rds_run_threads.specs.Ends.{IsEndOfRun}
use Rattle.rds_run_threads.specs.declared.form.Form.{Form}
use Rattle.rds_run_threads.specs.declared.form.RunEnd.{RunEnd}
use Rattle.rds_run_threads.specs.declared.form.RunEnd.TheVariants as ended
use Rattle.rds_model.specs.Log.{Log}
use Rattle.rds_model.specs.declared.journal.TheConstants.{MAX_ENTRIES}
use Rattle.rds_run_threads.specs.Counted.{IsCountedEnd}
use Rattle.rds_link.specs.declared.wire.WireCounts.{WireCounts}
use Rattle.rds_run.specs.declared.status.Status.{Status}
use Rattle.rds_run.specs.declared.status.Status.TheVariants as status
use Rattle.rds_run.specs.RunStatus.{HasFilled, IsEndOfScript, IsRan, IsRunUnfinished, IsWireFault, WireSeen, memory_seen}

pub ran_of : (seen : WireSeen) (form : Form) (s : Meaning) (sink : SinkSeen) (result : RunEnd) (ends : Vec HostEnd Global) → result ≡ ended.Ok ends →
    IsEndOfRun form seen.tells MAX_ENTRIES s.hosts s.commands sink result → IsCutEnd s.commands seen.before.faults seen.after.faults result →
    IsRan seen form s sink.held_before sink.held_after
ran_of seen form s sink result ends is end cut =
    let ran = subst (IsEndOfRun form seen.tells MAX_ENTRIES s.hosts s.commands sink) is end in
    record {
      ends = host_views ends.items;
      did = ran.1.0;
      acknowledged = ran.1.1;
      drained = λ told. (ran.1.2 told).0;
      none_pending = λ told. (ran.1.2 told).1;
      none_full = ran.1.3;
      cut = subst (IsCutEnd s.commands seen.before.faults seen.after.faults) is cut;
      written = subst (SinkGained sink.held_before sink.held_after) ran.1.4 ran.2;
    }

-- and so for the other ends of a run
module _ (seen : WireSeen) (form : Form) (s : Meaning) (sink : SinkSeen) (result : RunEnd) where
  abbrev IsEnd : RunEnd → Type 0
  IsEnd end = IsEndOfRun form seen.tells MAX_ENTRIES s.hosts s.commands sink end

  module _ (may_fail : Type 0) where
    abbrev IsCounted : RunEnd → Type 0
    IsCounted end = IsCountedEnd seen.tells may_fail 20000000 s.commands seen.before seen.after end

    pub lacking_of : (low high stream : ℕ) (own other : Log) → result ≡ ended.WireFault low high stream own other → IsEnd result → IsCounted result →
        IsCutEnd s.commands seen.before.faults seen.after.faults result → IsWireFault seen s sink.held_before sink.held_after
    lacking_of low high stream own other is end counted cut =
        let ran = subst IsEnd is end in
        let why = subst IsCounted is counted in
        record {
          low = low;
          high = high;
          stream = stream;
          own = own.past;
          other = other.past;
          lacking = ran.1.0;
          rose = why.1;
          thrice = why.2;
          short = subst (IsCutEnd s.commands seen.before.faults seen.after.faults) is cut;
          written = subst (SinkGained sink.held_before sink.held_after) ran.1.1 ran.2;
        }

    -- where hosts lack a stream the wire may fail
    pub may_of : (low high stream : ℕ) (own other : Log) → result ≡ ended.WireFault low high stream own other → IsCounted result → may_fail
    may_of low high stream own other is counted = (subst IsCounted is counted).0

    pub unfinished_of : (count : ℕ) (ends : Vec HostEnd Global) → result ≡ ended.Unfinished count ends → IsEnd result → IsCounted result →
        IsCutEnd s.commands seen.before.faults seen.after.faults result → IsRunUnfinished seen s sink.held_before sink.held_after
    unfinished_of count ends is end counted cut =
        let ran = subst IsEnd is end in
        let why = subst IsCounted is counted in
        record {
          count = count;
          ends = host_views ends.items;
          did = ran.1.0;
          unacknowledged = ran.1.1;
          none_full = ran.1.2;
          full = why.0;
          waited = why.1;
          cut = subst (IsCutEnd s.commands seen.before.faults seen.after.faults) is cut;
          written = subst (SinkGained sink.held_before sink.held_after) ran.1.3 ran.2;
        }

  pub filled_of : (host peer entries : ℕ) (own other : Log) → result ≡ ended.Spent host peer entries own other → IsEnd result →
      HasFilled seen.tells s sink.held_before sink.held_after
  filled_of host peer entries own other is end =
      let ran = subst IsEnd is end in
      record {
        host = host;
        peer = peer;
        entries = entries;
        own = own.past;
        other = other.past;
        full = ran.1.0;
        written = subst (SinkGained sink.held_before sink.held_after) ran.1.1 ran.2;
      }

-- a run in memory that lacks no stream, and whose text is begun where the sink fails, ended so that no count tells of it
pub in_memory_of : (before after : WireCounts) (form : Form) (m : Meaning) (sink : SinkSeen) (s : Status) → (s ≡ status.WireFault → ⊥) →
    (s ≡ status.WriteFault → IsEndOfScript memory_seen form m sink status.WriteFault) →
    IsEndOfScript (record { tells = true; before = before; after = after }) form m sink s → IsEndOfScript memory_seen form m sink s
in_memory_of before after form m sink status.Written never begun end = record {
  ends = end.ends;
  did = end.did;
  acknowledged = end.acknowledged;
  drained = end.drained;
  none_pending = end.none_pending;
  none_full = end.none_full;
  cut = end.cut;
  written = end.written;
}
in_memory_of before after form m sink status.Refused never begun end = end
in_memory_of before after form m sink status.Usage never begun end = end
in_memory_of before after form m sink status.ReadFault never begun end = end
in_memory_of before after form m sink status.WriteFault never begun end = begun refl
in_memory_of before after form m sink status.WireFault never begun end = absurd (never refl)
in_memory_of before after form m sink status.Memory never begun end = end
in_memory_of before after form m sink status.Spent never begun end = end
in_memory_of before after form m sink status.Unfinished never begun end = let told = end.unacknowledged.untold in absurd (cc)
in_memory_of before after form m sink status.TooManyStreams never begun end = end

-- a wire in memory none of whose openings and calls is to fail can't fail
pub never_fails : (openings calls : List ℕ) → openings ≡ [] → calls ≡ [] → (openings ≢ []) ⊎ (calls ≢ []) → ⊥
never_fails openings calls no_opening no_call (inl opening) = opening no_opening
never_fails openings calls no_opening no_call (inr call) = call no_call
