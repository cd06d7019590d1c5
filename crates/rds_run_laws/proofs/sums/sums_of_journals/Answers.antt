use Rattle.rds_run_laws.proofs.Arrivals.{passed_all, passed_few}
use Rattle.rds_run_laws.proofs.sums.sums_of_journals.Goals as goal

pub returns-clause-few : goal.returns-clause-few
returns-clause-few c weight a b fifo = passed_few weight a b fifo

pub returns-clause-all : goal.returns-clause-all
returns-clause-all c weight a b fifo all = passed_all weight a b fifo all
