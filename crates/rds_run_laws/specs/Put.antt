-- What the callers of a run put on their routes, and what their hosts' own commands send, by a weight of datagrams. Source: this project's own.
use Rattle.std.specs.Prelude.{ℕ, ◌+◌, ◌==◌, ◌&&◌, if◌then◌else◌, List, [], ◌∷◌, sum_by}
use Rattle.rds_fmap.specs.Readers.{ReaderView}
use Rattle.rds_socket_parts.specs.Lanes.{Lane}
use Rattle.rds_script.specs.declared.script.Command.{Command}
use Rattle.rds_script.specs.declared.script.Command.TheVariants.{Send}
use Rattle.rds_script.specs.declared.script.Placed.{Placed}
use Rattle.rds_run_callers.specs.Commands.{commander}
use Rattle.rds_run_callers.specs.Places.{Place, holding_of}
use Rattle.rds_run_hosts.specs.Obeyed.{is_host}
use Rattle.rds_run_laws.specs.Sent.{sent_by}
use Rattle.rds_run_laws.specs.Weights.{Weight, orders_sum}

-- what the orders send that were put on these routes
abbrev pub routes_sum : Weight → List (Lane ReaderView) → ℕ
routes_sum weight routes = sum_by (λ (lane : Lane ReaderView). orders_sum weight lane.pass.put) routes

-- what the orders of all slots of a caller send
abbrev pub places_sum : Weight → List Place → ℕ
places_sum weight places = sum_by (λ (p : Place). routes_sum weight (holding_of p).routes) places

-- what a host's own commands send
abbrev pub own_sum : Weight → (host : ℕ) → List Placed → ℕ
own_sum weight host [] = 0
own_sum weight host (placed ∷ commands) =
    (if is_host host (commander placed.command) then sent_by weight placed.command else 0) + own_sum weight host commands

-- the weight of the datagram that a command has one host send to another, or 0
abbrev pub sent_to : Weight → (host peer : ℕ) → Command → ℕ
sent_to weight host peer (Send by port to dport payload) = if by == host && (to == peer) then weight port dport payload else 0
sent_to weight host peer _ = 0

-- what the commands have one host send to another
abbrev pub sent_between : Weight → (host peer : ℕ) → List Placed → ℕ
sent_between weight host peer [] = 0
sent_between weight host peer (placed ∷ commands) = sent_to weight host peer placed.command + sent_between weight host peer commands
