use Rattle.rds_history.proofs.Turns.{enough_turns, ended}
use Rattle.rds_history.proofs.laws.limits.turns_suffice.Goals as goal

pub returns-clause-enough : goal.returns-clause-enough
returns-clause-enough c limit h k turns most past within = enough_turns limit h k most turns past within

pub returns-clause-ended : goal.returns-clause-ended
returns-clause-ended c limit h k most past later written is = (ended limit h k most past later written is).moved

pub returns-clause-still : goal.returns-clause-still
returns-clause-still c limit h k most past later written is = (ended limit h k most past later written is).again_so
