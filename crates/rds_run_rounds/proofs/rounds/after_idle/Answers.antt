use Rattle.std.proofs.Common.{rules}
use Rattle.rds_run_rounds.proofs.rounds.after_idle.Goals as goal

pub returns-then-quiet-budget-clause-left : goal.returns-then-quiet-budget-clause-left
returns-then-quiet-budget-clause-left g c = search rules

pub returns-then-quiet-budget-clause-closed : goal.returns-then-quiet-budget-clause-closed
returns-then-quiet-budget-clause-closed g c = search rules
