use Rattle.rds_model.proofs.FewStreams.{few_streams}
use Rattle.rds_model.proofs.laws.few_streams.Goals as goal

pub returns : goal.returns
returns c highest past legal all = few_streams highest past legal all
