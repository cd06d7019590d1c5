use Rattle.std.proofs.Common.{◌≡◌}
use Rattle.rds_model.specs.Honest.{Begins}
use Rattle.rds_run_callers.specs.Ends.{IsEndOf}
use Rattle.rds_run_callers.proofs.tenant.Tenant.receive_all.Given as goal

abbrev pub invariant-loop : goal.invariant-loop
invariant-loop g l =
    IsEndOf l.initial.self.socket.own l.self.socket.own × (l.self.socket.port ≡ l.initial.self.socket.port) × Begins l.initial.self.got.items l.self.got.items
