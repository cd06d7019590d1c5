use Rattle.rds_host.proofs.Kept.{kept_same, kept_through}
use Rattle.rds_host.proofs.laws.lines_keep.Goals as goal

pub returns-clause-same : goal.returns-clause-same
returns-clause-same g c lines = kept_same lines

pub returns-clause-through : goal.returns-clause-through
returns-clause-through g c old middle new first second = kept_through old middle new first second
