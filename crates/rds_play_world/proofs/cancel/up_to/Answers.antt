use Rattle.std.proofs.Common.{rules}
use Rattle.rds_play_world.proofs.cancel.up_to.Goals as goal

pub returns : goal.returns
returns c = search rules
