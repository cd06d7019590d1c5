-- What the counts of a wire say of how a run ended.
use Rattle.std.proofs.Common.{◌≡◌, ◌⊎◌, inl, inr, ℕ, Bool, true, false, List, All, Result, IfOk, length, map, refl, sym, subst, ◌∙◌}
use Rattle.rds_link.specs.Seen.{SinkSeen}
use Rattle.rds_wire.specs.declared.memory.Memory.{Memory}
use Rattle.rds_link.specs.Streaming.{HasRisen, HasRisenBy}
use Rattle.rds_link.specs.declared.wire.WireCounts.{WireCounts}
use Rattle.rds_fmap.specs.Readers.{WriterView}
use Rattle.rds_model.specs.Log.{Log}
use Rattle.rds_model.specs.declared.entry.Entry.{Entry}
use Rattle.rds_line.specs.Line.{LineView, line_past}
use Rattle.rds_host_end.specs.Sides.{line_side}
use Rattle.rds_run_callers.specs.Places.{CallerView}
use Rattle.rds_script.specs.declared.script.Placed.{Placed}
use Rattle.rds_run_rounds.specs.Quiet.{IsQuietEnd}
use Rattle.rds_run_rounds.specs.declared.rounds.Rounds.{Rounds}
use Rattle.rds_run_rounds.specs.declared.rounds.Rounds.TheVariants as rounds
use Rattle.rds_text.specs.FinalState.{FinalHost, FinalJournal}
use Rattle.rds_text.specs.FinalViews.{host_view, host_views}
use Rattle.rds_text.specs.declared.final_state.HostEnd.{HostEnd}
use Rattle.rds_run_threads.specs.Counted.{IsCountedEnd}
use Rattle.rds_run_threads.specs.Ends.{OfEachJournal, Writes}
use Rattle.rds_run_threads.specs.Settled.{AreLeftOf}
use Rattle.rds_run_threads.specs.declared.form.RunEnd.{RunEnd}
use Rattle.rds_run_threads.specs.declared.form.RunEnd.TheVariants as ended
use Rattle.rds_run_threads.proofs.At.{all_at, all_from, at_map, stood_at}
use Rattle.rds_run_threads.proofs.Written.{on_ok}

module _ (Holds : List Entry → Type 0) where
  abbrev OfSide : FinalJournal → Type 0
  OfSide side = Holds side.past

  abbrev OfSides : FinalHost → Type 0
  OfSides end = All OfSide end.sides

  module _ {E : Type 0} where
    abbrev OfLine : LineView E WriterView → Type 0
    OfLine line = Holds (line_past line)

    -- what holds of the journals of lines holds of those that are left of them
    in_sides : (lines : List (LineView E WriterView)) → All OfLine lines → All OfSide (map line_side lines)
    in_sides lines each =
        all_from OfSide (map line_side lines)
        (λ place side at. let of = at_map line_side lines place side at in subst OfSide (sym of.2) (all_at OfLine lines place of.0 each of.1))

    pub of_each_left : (callers : List CallerView) (rows : List (List (LineView E WriterView))) (ends : List HostEnd) → length callers ≡ length rows →
        AreLeftOf callers rows ends → All (All OfLine) rows → OfEachJournal Holds (host_views ends)
    of_each_left callers rows ends same left each =
        all_from OfSides (host_views ends)
        (λ host final at.
        let of = at_map host_view ends host final at in
        let row = stood_at rows ends host of.0 left.count of.1 in
        let caller = stood_at callers rows host row.0 (sym same) row.1 in
        subst OfSides (sym of.2)
        (subst (All OfSide) (sym (left.each host caller.0 row.0 of.0 caller.1 row.1 of.1).journals) (in_sides row.0 (all_at (All OfLine) rows host row.0 each row.1))))

-- what was written leaves what the counts say
pub counted_written : (tells : Bool) (may_fail : Type 0) (budget : ℕ) (commands : List Placed) (before after : WireCounts) (sink : SinkSeen) (text : List ℕ) (end result : RunEnd) →
    IsCountedEnd tells may_fail budget commands before after end → Writes sink text end result → IsCountedEnd tells may_fail budget commands before after result
counted_written tells may_fail budget commands before after sink text end result counted (inl said) =
    subst (IsCountedEnd tells may_fail budget commands before after) (sym said.0) counted
counted_written tells may_fail budget commands before after sink text end result counted (inr failed) =
    subst (IsCountedEnd tells may_fail budget commands before after) (sym failed.0) tt

-- and so does a reason for which the wire may fail
pub counted_since : (tells : Bool) (can may : Type 0) → (can → may) → (budget : ℕ) (commands : List Placed) (before after : WireCounts) (end : RunEnd) →
    IsCountedEnd tells can budget commands before after end → IsCountedEnd tells may budget commands before after end
counted_since tells can may why budget commands before after (ended.Ok ends) counted = tt
counted_since tells can may why budget commands before after (ended.WireFault low high stream own other) counted = (why counted.0, counted.1, counted.2)
counted_since tells can may why budget commands before after (ended.Spent host peer entries own other) counted = tt
counted_since tells can may why budget commands before after (ended.Unfinished count ends) counted = counted
counted_since tells can may why budget commands before after ended.WriteFault counted = tt
counted_since tells can may why budget commands before after ended.Memory counted = tt

-- so it is of what was to be written in the end
pub counted_ok : (tells : Bool) (may_fail : Type 0) (budget : ℕ) (commands : List Placed) (before after : WireCounts) (sink : SinkSeen) (text : List ℕ) (end : RunEnd)
    (result : Result RunEnd Memory) → IsCountedEnd tells may_fail budget commands before after end → IfOk result (Writes sink text end) →
    IfOk result (IsCountedEnd tells may_fail budget commands before after)
counted_ok tells may_fail budget commands before after sink text end result counted =
    on_ok (Writes sink text end) (IsCountedEnd tells may_fail budget commands before after) result
    (λ e written. counted_written tells may_fail budget commands before after sink text end e counted written)

-- what was counted since the start
pub counted_from : (tells : Bool) (can may : Type 0) → (can → may) → (b budget : ℕ) (commands : List Placed) (was before after : WireCounts) → b ≡ budget → was ≡ before →
    (end : RunEnd) → IsCountedEnd tells can b commands was after end → IsCountedEnd tells may budget commands before after end
counted_from tells can may why b budget commands was before after same_budget same_before end counted =
    counted_since tells can may why budget commands before after end
    (subst (λ (n : ℕ). IsCountedEnd tells can n commands before after end) same_budget (subst (λ (w : WireCounts). IsCountedEnd tells can b commands w after end) same_before counted))

pub counted_of : (tells : Bool) (can may : Type 0) → (can → may) → (b budget : ℕ) (commands : List Placed) (was before after : WireCounts) → b ≡ budget → was ≡ before →
    (result : Result RunEnd Memory) → IfOk result (IsCountedEnd tells can b commands was after) → IfOk result (IsCountedEnd tells may budget commands before after)
counted_of tells can may why b budget commands was before after same_budget same_before result =
    on_ok (IsCountedEnd tells can b commands was after) (IsCountedEnd tells may budget commands before after) result
    (λ e counted. counted_from tells can may why b budget commands was before after same_budget same_before e counted)

-- where hosts lack a stream, the wire counted faults
pub counted_fault : (tells told : Bool) (can : Type 0) (budget : ℕ) (commands : List Placed) (before now after : WireCounts) (low high stream : ℕ) (own other : Log) → told ≡ tells → now ≡ after →
    can × HasRisen before.faults now.faults × (told ≡ true → HasRisenBy 3 before.faults now.faults) →
    IsCountedEnd tells can budget commands before after (ended.WireFault low high stream own other)
counted_fault tells told can budget commands before now after low high stream own other same_told same_now found =
    let since = subst (λ (w : WireCounts). can × HasRisen before.faults w.faults × (told ≡ true → HasRisenBy 3 before.faults w.faults)) same_now found in
    (since.0, since.1, λ tell. since.2 (same_told ∙ tell))

-- one thing or another, as a test says
pub as_tested : (A B : Type 0) (test : Bool) → (test ≡ false → A) → (test ≡ true → B) → A ⊎ B
as_tested A B true off on = inr (on refl)
as_tested A B false off on = inl (off refl)

-- rounds that are done, and rounds that stopped unfinished, ended since they were quiet
pub quiet_done : (end : Rounds) → end ≡ rounds.Done → IsQuietEnd end
quiet_done end is = subst IsQuietEnd (sym is) tt

pub quiet_of : (end : Rounds) (count : ℕ) (unwritten connected : Bool) → end ≡ rounds.Unfinished count unwritten connected → IsQuietEnd end
quiet_of end count unwritten connected is = subst IsQuietEnd (sym is) tt
