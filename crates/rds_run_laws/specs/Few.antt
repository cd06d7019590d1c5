-- How many commands are a host's own, and when none of its ports can fill. Source: this project's own.
use Rattle.std.specs.Prelude.{ℕ, ◌<◌, ◌≤◌, Bool, List, Contains, filter, length}
use Rattle.rds_model.specs.declared.entry.Entry.{Entry}
use Rattle.rds_script.specs.declared.script.Placed.{Placed}
use Rattle.rds_line.specs.Seats.{HasPulled}
use Rattle.rds_run_callers.specs.Commands.{commander}
use Rattle.rds_run_hosts.specs.Obeyed.{is_host}
use Rattle.rds_run_threads.specs.Outcome.{BindsWith}
use Rattle.rds_run_laws.specs.Put.{own_sum}
use Rattle.rds_run_laws.specs.Weights.{by_length}

-- whether the command is the host's own
abbrev pub is_own : (host : ℕ) → Placed → Bool
is_own host placed = is_host host (commander placed.command)

-- how many of the commands are
abbrev pub own_commands : (host : ℕ) → List Placed → ℕ
own_commands host commands = length (filter (is_own host) commands)

-- each map that was pulled has no port
abbrev pub PullsNoPort : List Entry → Type 0
PullsNoPort past = (port : ℕ) → port < 65536 → HasPulled port past → ⊥

-- each receive buffer that a bind of the host asks for has room for so many bytes
abbrev pub HaveRoomFor : (bytes host : ℕ) → List Placed → Type 0
HaveRoomFor bytes host commands = (rcvbuf : ℕ) (placed : Placed) → Contains commands placed → BindsWith host rcvbuf placed.command → bytes ≤ rcvbuf

-- each of two hosts has room, wherever it binds, for all that the other's commands send
pub record HoldAll (host peer : ℕ) (commands : List Placed) : Type 0 where
  pub forth : HaveRoomFor (own_sum by_length peer commands) host commands
  pub back : HaveRoomFor (own_sum by_length host commands) peer commands
