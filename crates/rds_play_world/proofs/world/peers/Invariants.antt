use Rattle.std.proofs.Common.{◌≡◌, vec_len}
use Rattle.std.specs.List.{All}
use Rattle.rds_play_world.specs.Fresh.{IsUnread}
use Rattle.rds_play_world.proofs.world.peers.Given as goal

abbrev pub invariant-loop : goal.invariant-loop
invariant-loop l = (vec_len l.peers ≡ l.counter) × All IsUnread l.peers.items
