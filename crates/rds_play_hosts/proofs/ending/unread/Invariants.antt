use Rattle.std.proofs.Common.{◌≡◌, map}
use Rattle.rds_play_hosts.specs.declared.host.Arrived.{Arrived}
use Rattle.rds_play_hosts.proofs.ending.unread.Given as goal

abbrev pub invariant-loop-arrived : goal.invariant-loop-arrived
invariant-loop-arrived l = l.unread.items ≡ map (λ (a : Arrived). a.datagram) l.yielded
