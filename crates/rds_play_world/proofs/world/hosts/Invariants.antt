use Rattle.std.proofs.Common.{◌≡◌, vec_len}
use Rattle.std.specs.List.{All}
use Rattle.rds_play_world.specs.Fresh.{IsNewHost}
use Rattle.rds_play_world.proofs.world.hosts.Given as goal

abbrev pub invariant-loop : goal.invariant-loop
invariant-loop l = (vec_len l.hosts ≡ l.counter) × All IsNewHost l.hosts.items
