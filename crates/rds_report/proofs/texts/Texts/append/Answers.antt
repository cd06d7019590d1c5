use Rattle.std.proofs.lemmas.Grind.{common_steps}
use Rattle.std.proofs.Common.{arith}
use Rattle.rds_report.proofs.texts.Texts.append.Goals as goal

pub returns : goal.returns
returns c = grind (arith, common_steps)
