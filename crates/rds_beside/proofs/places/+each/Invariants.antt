use Rattle.std.proofs.Common.{◌+◌, ◌*◌, length}
use Rattle.rds_beside.proofs.places.+each.Given as goal

abbrev pub decreases-each_from : goal.decreases-each_from
decreases-each_from g l = 4 * length l.list.now

abbrev pub decreases-both : goal.decreases-both
decreases-both g l = 4 * length l.others.now + 2

abbrev pub decreases-both-back : goal.decreases-both-back
decreases-both-back g l = 4 * length l.others.now + 1
