use Rattle.rds_model.proofs.FewMaps.{few_of_one, few_versions}
use Rattle.rds_model.proofs.laws.few_map_pulls.Goals as goal

pub returns-clause-one : goal.returns-clause-one
returns-clause-one c map past legal one = few_of_one map past legal one

pub returns-clause-versions : goal.returns-clause-versions
returns-clause-versions c versions v past legal takes = few_versions versions past legal v takes
