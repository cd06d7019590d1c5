use Rattle.std.proofs.Common.{◌+◌, ◌*◌, length}
use Rattle.rds_script_pieces.proofs.reading.+groups.Given as goal

abbrev pub decreases-rest : goal.decreases-rest
decreases-rest g l = 2 * length l.others.now + 1

abbrev pub decreases-read_groups : goal.decreases-read_groups
decreases-read_groups g l = 2 * length l.pieces.now
