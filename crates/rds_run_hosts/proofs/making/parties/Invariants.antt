use Rattle.std.proofs.Common.{length}
use Rattle.rds_run_rounds.specs.Grid.{rows_of}
use Rattle.rds_run_hosts.proofs.Made.{AreMade}
use Rattle.rds_run_hosts.proofs.making.parties.Given as goal

abbrev pub invariant-loop-party : goal.invariant-loop-party
invariant-loop-party g l = AreMade l.fn.limit l.fn.script.hosts l.fn.script.commands.items (length l.yielded) l.callers.items (rows_of l.lines.items)
