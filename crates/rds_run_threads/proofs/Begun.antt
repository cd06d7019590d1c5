-- What a run had written where the sink failed.
use Rattle.std.proofs.Common.{◌≡◌, inl, inr, ℕ, Bool, List, Option, Result, IfOk, sym, subst, ◌∙◌}
use Rattle.rds_link.specs.Seen.{SinkSeen}
use Rattle.rds_wire.specs.declared.memory.Memory.{Memory}
use Rattle.rds_link.specs.declared.wire.WireCounts.{WireCounts}
use Rattle.rds_script.specs.declared.script.Placed.{Placed}
use Rattle.rds_run_threads.specs.Begun.{BeginsAtFault}
use Rattle.rds_run_threads.specs.Counted.{IsCountedEnd}
use Rattle.rds_run_threads.specs.Cuts.{IsCutEnd}
use Rattle.rds_run_threads.specs.Ends.{HasToWrite, Writes}
use Rattle.rds_run_threads.specs.declared.form.Form.{Form}
use Rattle.rds_run_threads.specs.declared.form.RunEnd.{RunEnd}
use Rattle.rds_run_threads.specs.declared.form.RunEnd.TheVariants as ended
use Rattle.rds_run_threads.proofs.Counted.{counted_from}
use Rattle.rds_run_threads.proofs.Written.{on_ok}

module _ (form : Form) (tells : Bool) (limit hosts : ℕ) (commands : List Placed) where
  -- nothing is to be written at an end where the sink failed
  never : (text : List ℕ) (end : RunEnd) → HasToWrite form tells limit hosts commands end text → end ≡ ended.WriteFault → ⊥
  never text end has is = subst (λ (e : RunEnd). HasToWrite form tells limit hosts commands e text) is has

  -- where the sink failed, it took a beginning of what was to be written
  begun_written : (IsCounted : RunEnd → Type 0) (was now : ℕ) (sink : SinkSeen) (text : List ℕ) (end : RunEnd) →
      HasToWrite form tells limit hosts commands end text → IsCounted end → IsCutEnd commands was now end → (result : RunEnd) → Writes sink text end result →
      BeginsAtFault form tells limit hosts commands IsCounted was now sink.held_before sink.held_after result
  begun_written IsCounted was now sink text end has counted cut result (inl said) = λ fault. absurd (never text end has (sym said.0 ∙ fault))
  begun_written IsCounted was now sink text end has counted cut result (inr failed) = λ fault. (end, text, has, counted, cut, failed.2)

  module _ (may_fail : Type 0) (budget : ℕ) (before after : WireCounts) where
    -- and so of what was to be written in the end
    pub begun_ok : (was now : ℕ) (sink : SinkSeen) (text : List ℕ) (end : RunEnd) → HasToWrite form tells limit hosts commands end text →
        IsCountedEnd tells may_fail budget commands before after end → IsCutEnd commands was now end → (result : Result RunEnd Memory) → IfOk result (Writes sink text end) →
        IfOk result (BeginsAtFault form tells limit hosts commands (IsCountedEnd tells may_fail budget commands before after) was now sink.held_before sink.held_after)
    begun_ok was now sink text end has counted cut result =
        on_ok (Writes sink text end)
        (BeginsAtFault form tells limit hosts commands (IsCountedEnd tells may_fail budget commands before after) was now sink.held_before sink.held_after) result
        (λ e written. begun_written (IsCountedEnd tells may_fail budget commands before after) was now sink text end has counted cut e written)

    -- what was counted since the start
    pub begun_of : (can : Type 0) → (can → may_fail) → (b : ℕ) (was : WireCounts) → b ≡ budget → was ≡ before → (now : ℕ)
        (held_before held_after : Option (List ℕ)) (result : Result RunEnd Memory) →
        IfOk result (BeginsAtFault form tells limit hosts commands (IsCountedEnd tells can b commands was after) was.faults now held_before held_after) →
        IfOk result (BeginsAtFault form tells limit hosts commands (IsCountedEnd tells may_fail budget commands before after) before.faults now held_before held_after)
    begun_of can why b was same_budget same_before now held_before held_after result =
        on_ok (BeginsAtFault form tells limit hosts commands (IsCountedEnd tells can b commands was after) was.faults now held_before held_after)
        (BeginsAtFault form tells limit hosts commands (IsCountedEnd tells may_fail budget commands before after) before.faults now held_before held_after) result
        (λ e begun. λ fault.
        let b0 = begun fault in (
          b0.0,
          b0.1,
          b0.2,
          counted_from tells can may_fail why b budget commands was before after same_budget same_before b0.0 b0.3,
          subst (λ (w : WireCounts). IsCutEnd commands w.faults now b0.0) same_before b0.4,
          b0.5,
        ))
