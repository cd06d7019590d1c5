use Rattle.rds_run_rounds.proofs.Drains.{drained_of_idle}
use Rattle.rds_run_rounds.proofs.laws.rested_are_drained.Goals as goal

pub returns : goal.returns
returns g c =
    λ low high low_after high_after tells.
    drained_of_idle g.E.End.means tells c.one_split.ensures.only c.drained_of_all.ensures low high low_after high_after
