-- From what reading gives to what `read` answers.
use Rattle.std.proofs.Common.{ℕ, List, Result, Ok, Err, sym, ap, ◌∙◌}
use Rattle.std.specs.Prelude.{IfOk}
use Rattle.rds_script.specs.declared.script.Script.{Script}
use Rattle.rds_script.specs.declared.cause.Cause.{Cause}
use Rattle.rds_script.specs.declared.cause.ScriptError.{ScriptError}
use Rattle.rds_script.specs.declared.cause.ScriptError.TheVariants.{BadLine, Memory}
use Rattle.rds_script.specs.Script.{IsScript}
use Rattle.rds_script.specs.Grammar.{Meaning, meaning, Spells}
use Rattle.rds_script.specs.Refusal.{Refused}
use Rattle.rds_script.specs.Answer.{IsUnlessMemory, IfRefused, IsRefusedUnlessMemory}
use Rattle.rds_script.specs.Reading.{Reads, text_at}
use Rattle.rds_script.proofs.Binds.{ok_is, err_is}
use Rattle.rds_script.proofs.WholeText.{text_spells, text_spelled, text_refused, text_refuses}
use Rattle.rds_script.proofs.Ranges.{is_script}

module _ (text : List ℕ) where
  pub found : (r : Result Script ScriptError) → Reads meaning r (text_at text) → IfOk r (λ s. Spells text (meaning s))
  found (Ok s) e = text_spells text (meaning s) e
  found (Err e) f = tt

  pub known : (r : Result Script ScriptError) → Reads meaning r (text_at text) → IfOk r IsScript
  known (Ok s) e = is_script text s (text_spells text (meaning s) e)
  known (Err e) f = tt

  pub only : (r : Result Script ScriptError) → Reads meaning r (text_at text) → (s : Meaning) → Spells text s → IsUnlessMemory r s
  only (Ok x) e s h = ok_is (sym e ∙ text_spelled text s h)
  only (Err (BadLine line cause)) e s h = let f = text_spelled text s h in cc
  only (Err Memory) e s h = tt

  pub refused : (r : Result Script ScriptError) → Reads meaning r (text_at text) → IfRefused r (Refused text)
  refused (Ok x) e = tt
  refused (Err (BadLine line cause)) e = text_refused text line cause e
  refused (Err Memory) e = tt

  pub refuses : (r : Result Script ScriptError) → Reads meaning r (text_at text) → (line : ℕ) (cause : Cause) → Refused text line cause → IsRefusedUnlessMemory r line cause
  refuses (Ok x) e line cause h = let f = text_refuses text line cause h in cc
  refuses (Err (BadLine l c)) e line cause h =
      let same = err_is (sym e ∙ text_refuses text line cause h) in
      (ap (λ (p : ℕ × Cause). p.0) same, ap (λ (p : ℕ × Cause). p.1) same)
  refuses (Err Memory) e line cause h = tt
