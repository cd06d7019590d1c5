use Rattle.std.proofs.Common.{◌≡◌, map}
use Rattle.std.specs.List.{range_with_len}
use Rattle.rds_text.specs.Hosts.{address_of}
use Rattle.rds_run_rounds.specs.Grid.{peer_at}
use Rattle.rds_run_hosts.proofs.making.peers.Given as goal

abbrev pub invariant-loop-place : goal.invariant-loop-place
invariant-loop-place l = l.peers.items ≡ map address_of (map (peer_at l.fn.host) (range_with_len 0 l.place))
