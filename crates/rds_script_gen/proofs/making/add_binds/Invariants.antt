use Rattle.std.proofs.Common.{◌≡◌}
use Rattle.std.specs.Prelude.{flat_map}
use Rattle.std.specs.List.{range_with_len}
use Rattle.rds_script_gen.specs.Generator.{binds_of}
use Rattle.rds_script_gen.proofs.making.add_binds.Given as goal

-- the sockets of the hosts so far
abbrev pub invariant-loop-host : goal.invariant-loop-host
invariant-loop-host l = l.listing ≡ flat_map binds_of (range_with_len 0 l.host)
