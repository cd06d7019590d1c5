use Rattle.std.proofs.Common.{rules, arith}
use Rattle.rds_script.proofs.Counting.{table-more, table-rest}
use Rattle.rds_script.proofs.payload.tables.Goals as goal

pub loop-preserved : goal.loop-preserved
loop-preserved c =
    let more = table-more c.args.table.now c.loop.counter c.requires in
    search rules

pub returns : goal.returns
returns c =
    let rest = table-rest c.args.table.now c.loop.counter c.args.count c.requires (omega arith) in
    search rules
