use Rattle.std.proofs.Common.{ℕ, arith, append_assoc}
use Rattle.std.proofs.lemmas.Grind.{common_steps}
use Rattle.rds_text.proofs.entry_lines.read_line.Goals as goal

pub returns : goal.returns
returns c = grind (arith, common_steps, append_assoc {A = ℕ})
