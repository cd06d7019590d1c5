-- The lines that stand in place of a transcript or a report. Source: this project's own.
use Rattle.std.specs.Prelude.{ℕ, List, [], ◌∷◌, codes}
use Rattle.rds_text.specs.Lines.{text_line}
use Rattle.std.specs.Fmt.{decimal}

-- how the program is called
abbrev pub usage_line : List ℕ
usage_line = text_line (codes "usage: rds play | rds run [--wire memory|tcp] | rds gen N SEED" ∷ [])

abbrev pub read_fault_line : List ℕ
read_fault_line = text_line (codes "read fault" ∷ [])

-- the line of a script that is refused: the number of the line, and the words of the cause
abbrev pub bad_line : ℕ → List ℕ → List ℕ
bad_line number cause = text_line (codes "bad line " ∷ decimal number ∷ codes ": " ∷ cause ∷ [])

-- the line of a script for which so many streams would be prepared
abbrev pub too_many_line : ℕ → List ℕ
too_many_line count = text_line (codes "too many streams " ∷ decimal count ∷ [])
