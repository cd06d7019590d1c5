use Rattle.rds_history.proofs.EndsAgree.{agree_nothing, agree_after, agree_history}
use Rattle.rds_history.proofs.laws.ends_agree.Goals as goal

pub returns-clause-first : goal.returns-clause-first
returns-clause-first c = agree_nothing

pub returns-clause-next : goal.returns-clause-next
returns-clause-next c = agree_after

pub returns-clause-last : goal.returns-clause-last
returns-clause-last c = agree_history
