use Rattle.rds_history.proofs.OnlyWritten.{only_nothing, only_after, only_history}
use Rattle.rds_history.proofs.laws.limits.moved_was_written.Goals as goal

pub returns-clause-first : goal.returns-clause-first
returns-clause-first c = only_nothing

pub returns-clause-next : goal.returns-clause-next
returns-clause-next c = only_after

pub returns-clause-last : goal.returns-clause-last
returns-clause-last c = only_history
