use Rattle.rds_run.proofs.gen_command.gen_text.Goals as goal

pub returns-in-Ok : goal.returns-in-Ok
returns-in-Ok g c = rw c.in-Ok.ensures.script at c.run_in_memory.ensures
