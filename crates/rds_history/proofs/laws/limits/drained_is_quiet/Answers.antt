use Rattle.rds_history.proofs.Drained.{quiet_after}
use Rattle.rds_history.proofs.laws.limits.drained_is_quiet.Goals as goal

pub returns : goal.returns
returns c limit hosts h k commands past later few low high differ so is =
    quiet_after limit hosts few commands past later so is h k low high differ
