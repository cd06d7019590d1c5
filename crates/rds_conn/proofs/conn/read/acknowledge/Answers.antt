use Rattle.std.proofs.Common.{◌∙◌}
use Rattle.rds_conn.proofs.Acknowledging.{acknowledging_all}
use Rattle.rds_conn.proofs.conn.read.acknowledge.Goals as goal

pub returns-clause-store : goal.returns-clause-store
returns-clause-store g c =
    c.in_default.ensures.none
    ∙ acknowledging_all c.args.upto c.args.store.now c.args.freed.now c.loop-msg.store c.loop-msg.freed c.loop-msg.invariant.so_far c.in_default.ensures.unacked
