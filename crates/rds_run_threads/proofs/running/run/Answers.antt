use Rattle.rds_run_threads.proofs.running.run.Goals as goal

pub returns-in-Err-clause-begun : goal.returns-in-Err-clause-begun
returns-in-Err-clause-begun g c = λ fault. absurd (cc)
