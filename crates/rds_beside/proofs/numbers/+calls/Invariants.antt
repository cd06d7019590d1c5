use Rattle.std.proofs.Common.{◌+◌, ◌*◌}
use Rattle.rds_beside.proofs.numbers.+calls.Given as goal

abbrev pub decreases-calls_from : goal.decreases-calls_from
decreases-calls_from g l = 2 * l.count

abbrev pub decreases-back : goal.decreases-back
decreases-back g l = 2 * l.others + 1
