use Rattle.std.proofs.Common.{◌≡◌, drop}
use Rattle.rds_play_world.specs.Telling.{state}
use Rattle.rds_play.proofs.Followings.{Plays}
use Rattle.rds_play.proofs.texting.played.Given as goal

abbrev pub invariant-loop-placed : goal.invariant-loop-placed
invariant-loop-placed l =
    (l.world.count ≡ l.fn.script.hosts)
    × Plays l.fn.limit l.fn.script.hosts l.fn.script.commands.items (drop l.placed-index l.fn.script.commands.items) (state l.world)
