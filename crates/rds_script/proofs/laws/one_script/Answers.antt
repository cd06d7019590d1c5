use Rattle.std.proofs.Common.{sym, ◌∙◌}
use Rattle.rds_script.proofs.Binds.{ok_is}
use Rattle.rds_script.proofs.WholeText.{text_spelled}
use Rattle.rds_script.proofs.laws.one_script.Goals as goal

pub returns : goal.returns
returns c = λ text s t h g. ok_is (sym (text_spelled text s h) ∙ text_spelled text t g)
