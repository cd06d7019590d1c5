use Rattle.std.proofs.Common.{◌-◌}
use Rattle.rds_wire.proofs.generations.+first_generation.Given as goal

abbrev pub decreases-first_generation : goal.decreases-first_generation
decreases-first_generation l = 16 - l.pos
