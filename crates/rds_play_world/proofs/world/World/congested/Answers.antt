use Rattle.std.proofs.lemmas.Grind.{common_steps}
use Rattle.std.proofs.Common.{arith}
use Rattle.rds_play_world.proofs.world.World.congested.Goals as goal

pub returns : goal.returns
returns c = grind (arith, common_steps)
