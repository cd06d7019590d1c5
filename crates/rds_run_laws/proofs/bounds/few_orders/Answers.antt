use Rattle.rds_run_laws.proofs.Bounded.{bytes_are_few, orders_are_few}
use Rattle.rds_run_laws.proofs.bounds.few_orders.Goals as goal

pub returns-clause-bytes : goal.returns-clause-bytes
returns-clause-bytes c hosts host peer commands past known also apart of = bytes_are_few hosts host peer commands past known also apart of

pub returns-clause-count : goal.returns-clause-count
returns-clause-count c hosts host peer commands past known also apart of = orders_are_few hosts host peer commands past known also apart of
