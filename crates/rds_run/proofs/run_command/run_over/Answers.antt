use Rattle.rds_run.specs.RunStatus.{Ran}
use Rattle.rds_run.proofs.run_command.run_over.Goals as goal

pub returns-in-Tcp-clause-ends : goal.returns-in-Tcp-clause-ends
returns-in-Tcp-clause-ends g c = rw c.in-Tcp.is (Ran (rw c.in-Tcp.is at c.in_default.ensures.few) c.run_script.ensures.ends)
