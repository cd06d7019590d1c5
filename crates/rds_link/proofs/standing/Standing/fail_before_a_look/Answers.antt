use Rattle.std.proofs.Common.{rules}
use Rattle.rds_link.proofs.standing.Standing.fail_before_a_look.Goals as goal

pub returns-clause-failed : goal.returns-clause-failed
returns-clause-failed c = search rules
