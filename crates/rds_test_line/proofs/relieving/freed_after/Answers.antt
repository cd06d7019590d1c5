use Rattle.std.proofs.Common.{◌∙◌, arith}
use Rattle.rds_line_parts.specs.ReliefLaws.{relieved_part}
use Rattle.rds_test_line.proofs.Few.{few}
use Rattle.rds_test_line.proofs.relieving.freed_after.Goals as goal

pub relieve-requires : goal.relieve-requires
relieve-requires c slot small =
    let most = few c.args.conn.now.freed slot (c.known.ensures.freed ∙ c.requires.slots) c.requires.freed in
    let none = c.requires.parts slot in
    omega arith

pub free-requires-clause-part : goal.free-requires-clause-part
free-requires-clause-part c =
    let freed = relieved_part _ _ _ c.relieve.ensures.words 0 in
    let none = c.requires.parts 0 in
    let most = c.requires.freed in
    omega arith
