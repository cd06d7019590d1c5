-- What the hosts have in the end, as the program holds it, seen as the records of FinalState. Source: this project's own.
use Rattle.std.specs.Prelude.{◌≢◌, ℕ, List, map}
use Rattle.std.specs.List.{All, AllPairs}
use Rattle.rds_model.specs.Log.{Log}
use Rattle.rds_text.specs.declared.final_state.Kept.{Kept}
use Rattle.rds_text.specs.declared.final_state.HostEnd.{HostEnd}
use Rattle.rds_text.specs.Hosts.{IsAddress}
use Rattle.rds_text.specs.FinalState.{FinalSocket, FinalJournal, FinalHost}

abbrev pub socket_view : Kept → FinalSocket
socket_view k = record { slot = k.slot; port = k.port; got = k.got.items; unread = k.unread.items }

abbrev pub side_view : ℕ × Log → FinalJournal
side_view j = record { peer = j.0; past = j.1.past }

abbrev pub host_view : HostEnd → FinalHost
host_view h = record { addr = h.addr; sides = map side_view h.journals.items; sockets = map socket_view h.kept.items }

abbrev pub host_views : List HostEnd → List FinalHost
host_views hosts = map host_view hosts

-- the journals of a host are with hosts, and with each at most one
pub record AreSides (sides : List FinalJournal) : Type 0 where
  pub once : AllPairs (λ (a b : FinalJournal). a.peer ≢ b.peer) sides
  pub peers : All (λ (s : FinalJournal). IsAddress s.peer) sides

-- each is a host, each address is one host's, and each host has its journals
pub record AreFinalHosts (hosts : List FinalHost) : Type 0 where
  pub once : AllPairs (λ (a b : FinalHost). a.addr ≢ b.addr) hosts
  pub addresses : All (λ (host : FinalHost). IsAddress host.addr) hosts
  pub sides : All (λ (host : FinalHost). AreSides host.sides) hosts
