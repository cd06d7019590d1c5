use Rattle.std.proofs.Common.{rules, [], length, ap, arith}
use Rattle.rds_script_gen.specs.Generator.{binds_of}
use Rattle.rds_script_gen.proofs.Turns.{below_more, binds_count}
use Rattle.rds_script_gen.proofs.making.add_binds.Goals as goal

pub add_binds_of-requires : goal.add_binds_of-requires
add_binds_of-requires c =
    record { few = omega (arith, ap length c.loop-host.invariant, binds_count c.loop-host.host, c.loop-host-test.true) }

pub loop-host-preserved : goal.loop-host-preserved
loop-host-preserved c =
    let more = below_more binds_of [] c.loop-host.host in
    search rules

pub returns : goal.returns
returns c = search rules
