use Rattle.std.proofs.Common.{arith}
use Rattle.rds_play_world.proofs.world.World.move_up_to.Goals as goal

pub returns-clause-course : goal.returns-clause-course
returns-clause-course c = λ limit hosts past told. c.take_turns.ensures.course limit hosts past told (let is = told.limit_is in omega (arith, is))
