use Rattle.rds_frame.proofs.OneSplit.{Splits-only, Splits-some}
use Rattle.rds_frame.proofs.laws.one_split.Goals as goal

pub returns : goal.returns
returns c = record { some = Splits-some; only = Splits-only }
