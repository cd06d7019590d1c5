-- What reading a text answers.
use Rattle.std.specs.Prelude.{◌≡◌, ℕ, Result, Ok, Err, ⊤}
use Rattle.rds_script.specs.declared.script.Script.{Script}
use Rattle.rds_script.specs.declared.cause.Cause.{Cause}
use Rattle.rds_script.specs.declared.cause.ScriptError.{ScriptError}
use Rattle.rds_script.specs.declared.cause.ScriptError.TheVariants.{BadLine, Memory}
use Rattle.rds_script.specs.Grammar.{Meaning, meaning}

-- the answer is this script, unless memory ran out
abbrev pub IsUnlessMemory : Result Script ScriptError → Meaning → Type 0
IsUnlessMemory (Ok script) s = meaning script ≡ s
IsUnlessMemory (Err (BadLine line cause)) s = ⊥
IsUnlessMemory (Err Memory) s = ⊤

-- what holds of the line and the cause of a refusal
abbrev pub IfRefused : Result Script ScriptError → (ℕ → Cause → Type 0) → Type 0
IfRefused (Ok script) P = ⊤
IfRefused (Err (BadLine line cause)) P = P line cause
IfRefused (Err Memory) P = ⊤

-- the answer is a refusal at this line for this cause, unless memory ran out
abbrev pub IsRefusedUnlessMemory : Result Script ScriptError → ℕ → Cause → Type 0
IsRefusedUnlessMemory (Ok script) line cause = ⊥
IsRefusedUnlessMemory (Err (BadLine l c)) line cause = (l ≡ line) × (c ≡ cause)
IsRefusedUnlessMemory (Err Memory) line cause = ⊤
