use Rattle.std.proofs.Common.{ℕ, ◌<◌}
use Rattle.rds_socket_parts.specs.Ports.{first_port, port_after}
use Rattle.rds_run_callers.specs.Doing.{IsHeld}
use Rattle.rds_run_callers.proofs.caller.Caller.first_free.Given as goal

abbrev pub invariant-loop-n : goal.invariant-loop-n
invariant-loop-n l = (m : ℕ) → m < l.n → IsHeld l.fn.self.places (port_after (first_port l.fn.start) m)
