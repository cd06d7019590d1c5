use Rattle.std.proofs.Common.{rules}
use Rattle.rds_host.proofs.making.add_boxes.Goals as goal

pub returns : goal.returns
returns c = search rules
