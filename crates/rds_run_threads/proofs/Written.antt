-- A run that wrote its text, or whose sink failed.
use Rattle.std.proofs.Common.{inl, inr, ℕ, Bool, List, Result, Ok, Err, IfOk, sym, subst}
use Rattle.rds_link.specs.Seen.{SinkSeen}
use Rattle.rds_wire.specs.declared.memory.Memory.{Memory}
use Rattle.rds_link.specs.Streaming.{SinkGained}
use Rattle.rds_script.specs.declared.script.Placed.{Placed}
use Rattle.rds_run_threads.specs.Ends.{HasToWrite, IsEndOfRun, Writes}
use Rattle.rds_run_threads.specs.declared.form.Form.{Form}
use Rattle.rds_run_threads.specs.declared.form.RunEnd.{RunEnd}
use Rattle.rds_run_threads.specs.declared.form.RunEnd.TheVariants as ended

module _ (form : Form) (tells : Bool) (limit hosts : ℕ) (commands : List Placed) (sink : SinkSeen) where
  ended_so : (text : List ℕ) (end : RunEnd) → HasToWrite form tells limit hosts commands end text → SinkGained sink.held_before sink.held_after text →
      IsEndOfRun form tells limit hosts commands sink end
  ended_so text (ended.Ok ends) has gain = (text, has, gain)
  ended_so text (ended.WireFault low high stream own other) has gain = (text, has, gain)
  ended_so text (ended.Spent host peer entries own other) has gain = (text, has, gain)
  ended_so text (ended.Unfinished count ends) has gain = (text, has, gain)
  ended_so text ended.WriteFault has gain = absurd has
  ended_so text ended.Memory has gain = absurd has

  pub end_written : (text : List ℕ) (end : RunEnd) → HasToWrite form tells limit hosts commands end text → (result : RunEnd) → Writes sink text end result →
      IsEndOfRun form tells limit hosts commands sink result
  end_written text end has result (inl said) = subst (IsEndOfRun form tells limit hosts commands sink) (sym said.0) (ended_so text end has said.1)
  end_written text end has result (inr failed) = subst (IsEndOfRun form tells limit hosts commands sink) (sym failed.0) failed.1

pub on_ok : {A : Type 0} (P Q : A → Type 0) (result : Result A Memory) → ((e : A) → P e → Q e) → IfOk result P → IfOk result Q
on_ok P Q (Ok e) f p = f e p
on_ok P Q (Err e) f p = tt
