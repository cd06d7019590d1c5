use Rattle.std.proofs.Common.{◌≡◌, vec_len}
use Rattle.rds_run_callers.specs.States.{is_port}
use Rattle.rds_run_callers.proofs.Searches.{NoneBelow}
use Rattle.rds_run_callers.proofs.finding.place_of.Given as goal

abbrev pub invariant-loop-place : goal.invariant-loop-place
invariant-loop-place l = NoneBelow (is_port l.fn.port) l.fn.ports.items l.place × (l.place-end ≡ vec_len l.fn.ports)
