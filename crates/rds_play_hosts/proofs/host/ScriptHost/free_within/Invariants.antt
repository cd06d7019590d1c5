use Rattle.std.proofs.Common.{◌≡◌, ℕ, ◌-◌, List}
use Rattle.std.specs.Prelude.{find}
use Rattle.std.specs.List.{range_with_len}
use Rattle.rds_history.specs.Bind.{is_free}
use Rattle.rds_history.specs.Events.{Event}
use Rattle.rds_play_hosts.specs.Telling.{TellsHost}
use Rattle.rds_play_hosts.proofs.host.ScriptHost.free_within.Given as goal

abbrev pub invariant-loop-port : goal.invariant-loop-port
invariant-loop-port l = (h : ℕ) (past : List Event) → TellsHost h past l.self →
    find (is_free h past) (range_with_len l.port (l.end - l.port)) ≡ find (is_free h past) (range_with_len l.first (l.end - l.first))
