use Rattle.std.proofs.Common.{rules}
use Rattle.rds_play_world.proofs.world.World.take_back_at.Goals as goal

pub returns-clause-course : goal.returns-clause-course
returns-clause-course c = search rules
