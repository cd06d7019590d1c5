-- What a run had written where the sink failed. Source: this project's own.
use Rattle.std.specs.Prelude.{◌≡◌, ℕ, Bool, List, Option}
use Rattle.rds_link.specs.Streaming.{SinkGainedFront}
use Rattle.rds_script.specs.declared.script.Placed.{Placed}
use Rattle.rds_run_threads.specs.Cuts.{IsCutEnd}
use Rattle.rds_run_threads.specs.Ends.{HasToWrite}
use Rattle.rds_run_threads.specs.declared.form.Form.{Form}
use Rattle.rds_run_threads.specs.declared.form.RunEnd.{RunEnd}
use Rattle.rds_run_threads.specs.declared.form.RunEnd.TheVariants as ended

-- The sink took a beginning of what a run that came to some end has to write. The counts of the wire are those of a run that came to that end,
-- and at least as many streams ended as the commands cut.
abbrev pub HasBegun : (form : Form) (tells : Bool) (limit hosts : ℕ) (commands : List Placed) → (IsCounted : RunEnd → Type 0) →
    (faults_before faults_after : ℕ) → (held_before held_after : Option (List ℕ)) → Type 0
HasBegun form tells limit hosts commands IsCounted faults_before faults_after held_before held_after =
    (end : RunEnd) × (text : List ℕ) × HasToWrite form tells limit hosts commands end text × IsCounted end
    × IsCutEnd commands faults_before faults_after end × SinkGainedFront held_before held_after text

-- so it is where the run ended since the sink failed
abbrev pub BeginsAtFault : (form : Form) (tells : Bool) (limit hosts : ℕ) (commands : List Placed) → (IsCounted : RunEnd → Type 0) →
    (faults_before faults_after : ℕ) → (held_before held_after : Option (List ℕ)) → (result : RunEnd) → Type 0
BeginsAtFault form tells limit hosts commands IsCounted faults_before faults_after held_before held_after result =
    result ≡ ended.WriteFault → HasBegun form tells limit hosts commands IsCounted faults_before faults_after held_before held_after
