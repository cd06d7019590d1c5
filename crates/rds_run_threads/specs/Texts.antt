-- What a run writes: the text of its form, or a line that stands in place of it. Source: this project's own.
use Rattle.std.specs.Prelude.{ℕ, List, [], ◌∷◌, codes}
use Rattle.std.specs.Fmt.{decimal}
use Rattle.rds_text.specs.FinalState.{FinalHost}
use Rattle.rds_text.specs.Report.{report}
use Rattle.rds_report.specs.Summary.{summary}
use Rattle.rds_text.specs.Lines.{text_line}
use Rattle.rds_text.specs.Words.{host_name}
use Rattle.rds_run_threads.specs.declared.form.Form.{Form}
use Rattle.rds_run_threads.specs.declared.form.Form.TheVariants as form

-- what stands in a text of this form of what hosts have in the end
abbrev pub text_of : Form → List FinalHost → List ℕ
text_of form.Report ends = report ends
text_of (form.Summary seed sends) ends = summary ends seed sends

-- two hosts lack a stream: the number is that of the last one that the first of them opened, or 0
abbrev pub fault_line : (low high stream : ℕ) → List ℕ
fault_line low high stream =
    text_line (codes "wire fault " ∷ host_name low ∷ codes " " ∷ host_name high ∷ codes " after k=" ∷ decimal stream ∷ [])

-- so many datagrams aren't acknowledged
abbrev pub unfinished_line : (count : ℕ) → List ℕ
unfinished_line count = text_line (codes "unfinished " ∷ decimal count ∷ [])
