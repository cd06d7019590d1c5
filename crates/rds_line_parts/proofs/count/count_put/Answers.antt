use Rattle.rds_line_parts.proofs.Counting.{may_raise}
use Rattle.rds_line_parts.proofs.count.count_put.Goals as goal

pub raise-requires-clause-check : goal.raise-requires-clause-check
raise-requires-clause-check c =
    may_raise c.args.seat.now _ c.args.slot c.args.n c.check-mark.result c.requires.slot c.check-mark.ensures.seat c.check-mark.ensures.rule c.if-mark.true
