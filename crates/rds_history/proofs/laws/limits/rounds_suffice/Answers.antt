use Rattle.rds_history.proofs.Rounds.{enough_rounds, still_drained}
use Rattle.rds_history.proofs.laws.limits.rounds_suffice.Goals as goal

pub returns-clause-enough : goal.returns-clause-enough
returns-clause-enough c limit hosts times past few within = enough_rounds limit hosts few times past within

pub returns-clause-still : goal.returns-clause-still
returns-clause-still c limit hosts past later few written is = still_drained limit hosts few past later written is
