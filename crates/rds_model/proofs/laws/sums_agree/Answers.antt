use Rattle.std.proofs.Common.{Some, None, arith}
use Rattle.rds_model.specs.SumLaws.{opens_ended}
use Rattle.rds_model.specs.DeliveryLaws.{delivered_count, delivered_bytes, port_all}
use Rattle.rds_model.proofs.laws.sums_agree.Goals as goal

pub returns-clause-count : goal.returns-clause-count
returns-clause-count c from slot past = delivered_count from slot past

pub returns-clause-bytes : goal.returns-clause-bytes
returns-clause-bytes c from slot past = delivered_bytes from slot past

pub returns-clause-port : goal.returns-clause-port
returns-clause-port c port slot past one = port_all port slot past one

pub returns-clause-idle : goal.returns-clause-idle
returns-clause-idle c past legal none = let counted = opens_ended past legal None none in omega arith

pub returns-clause-running : goal.returns-clause-running
returns-clause-running c s past legal on = opens_ended past legal (Some s) on
