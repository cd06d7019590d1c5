use Rattle.std.proofs.Common.{rules}
use Rattle.rds_play_world.proofs.world.World.full.Goals as goal

pub returns : goal.returns
returns c = search rules
