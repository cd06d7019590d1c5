-- How a call of `run` ends.
use Rattle.std.proofs.Common.{◌≡◌, ◌⊎◌, inl, inr, ℕ, List, Err, sym, subst}
use Rattle.rds_link.specs.Seen.{SinkSeen, SourceSeen}
use Rattle.rds_link.specs.Streaming.{HasRisen, SinkGained, SinkGainedFront}
use Rattle.rds_script.specs.Grammar.{Meaning}
use Rattle.rds_run.specs.declared.wire.RunWire.{RunWire}
use Rattle.rds_run.specs.declared.status.Status.{Status}
use Rattle.rds_run.specs.declared.status.Status.TheVariants as ended
use Rattle.rds_run.specs.Reading.{IsEndOfReading, IsReadAs}
use Rattle.rds_run.specs.RunStatus.{IsEndOfRunOver, IsEndOfTooMany, IsTooMany, Ran, TooMany, WireSeen}
use Rattle.rds_run_hosts.specs.Streams.{prepared_streams}
use Rattle.rds_run.specs.Texts.{too_many_line}

-- a script with too many streams is answered so
too_many_over : (seen : WireSeen) (over : RunWire) (m : Meaning) (sink : SinkSeen) (s : Status) → IsTooMany over m → IsEndOfRunOver seen over m sink s →
    IsEndOfTooMany (prepared_streams m) sink s
too_many_over seen over m sink s many (TooMany is end) = end
too_many_over seen over m sink s many (Ran few end) = absurd (few many)

-- and so is the one that was read
pub too_many_read : (seen : WireSeen) (over : RunWire) (read m : Meaning) (sink : SinkSeen) (s : Status) → read ≡ m → IsTooMany over m →
    IsEndOfRunOver seen over read sink s → IsEndOfTooMany (prepared_streams m) sink s
too_many_read seen over read m sink s same many end =
    too_many_over seen over m sink s many (subst (λ (r : Meaning). IsEndOfRunOver seen over r sink s) same end)

-- where such a script wasn't read, memory ran out, or the source or the sink failed
pub too_many_unread : (m : Meaning) (source : SourceSeen) (sink : SinkSeen) (s : Status) → IsReadAs m source (Err s) → IsEndOfReading source sink s →
    IsEndOfTooMany (prepared_streams m) sink s ⊎ ((s ≡ ended.ReadFault) ⊎ (s ≡ ended.WriteFault))
too_many_unread m source sink s (inr failed) ends = inr failed.1
too_many_unread m source sink s (inl memory) ends = inl (subst (IsEndOfTooMany (prepared_streams m) sink) (sym memory) (subst (IsEndOfReading source sink) memory ends))

-- what is said of too many streams is how that may end
pub many_said : (count : ℕ) (sink : SinkSeen) (s : Status) (line : List ℕ) → line ≡ too_many_line count →
    ((s ≡ ended.TooManyStreams) × SinkGained sink.held_before sink.held_after line) ⊎ ((s ≡ ended.WriteFault) × HasRisen sink.faults_before sink.faults_after) →
    SinkGainedFront sink.held_before sink.held_after line → IsEndOfTooMany count sink s
many_said count sink s line is (inl said) begun =
    subst (IsEndOfTooMany count sink) (sym said.0) (subst (SinkGained sink.held_before sink.held_after) is said.1)
many_said count sink s line is (inr failed) begun =
    subst (IsEndOfTooMany count sink) (sym failed.0) (failed.1, subst (SinkGainedFront sink.held_before sink.held_after) is begun)

-- the script that was read is run
pub run_read : (seen : WireSeen) (over : RunWire) (read m : Meaning) (sink : SinkSeen) (s : Status) → read ≡ m → IsEndOfRunOver seen over read sink s →
    IsEndOfRunOver seen over m sink s
run_read seen over read m sink s same end = subst (λ (r : Meaning). IsEndOfRunOver seen over r sink s) same end

-- where none was read and the source didn't fail, memory ran out
pub run_unread : (m : Meaning) (source : SourceSeen) (s : Status) → IsReadAs m source (Err s) → (HasRisen source.faults_before source.faults_after → ⊥) →
    s ≡ ended.Memory
run_unread m source s (inl memory) read = memory
run_unread m source s (inr failed) read = absurd (read failed.0)
