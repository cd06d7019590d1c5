use Rattle.std.proofs.Common.{◌≡◌, ◌++◌}
use Rattle.std.specs.Prelude.{map}
use Rattle.std.specs.List.{range_with_len}
use Rattle.rds_script_gen.specs.Generator.{bind}
use Rattle.rds_script_gen.proofs.making.add_binds_of.Given as goal

-- the sockets so far
abbrev pub invariant-loop-socket : goal.invariant-loop-socket
invariant-loop-socket l = l.listing ≡ l.initial.listing ++ map (bind l.host) (range_with_len 4000 l.socket)
