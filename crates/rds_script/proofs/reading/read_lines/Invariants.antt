use Rattle.std.proofs.Common.{◌≡◌, ◌≤◌, length}
use Rattle.std.specs.Str.Lines.{lines}
use Rattle.rds_script.specs.Grammar.{meaning, nothing}
use Rattle.rds_script.specs.Reading.{lines_at}
use Rattle.rds_script.proofs.reading.read_lines.Given as goal

-- so many lines were read, and what reading gives depends on the rest
abbrev pub invariant-loop-rest : goal.invariant-loop-rest
invariant-loop-rest l =
    (lines_at (meaning l.draft.script) l.number (lines l.rest) ≡ lines_at nothing 0 (lines l.text)) × (l.number ≤ 200000)

abbrev pub decreases-loop-rest : goal.decreases-loop-rest
decreases-loop-rest l = length l.rest
