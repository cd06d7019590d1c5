use Rattle.std.proofs.Common.{ap, ◌∙◌, nat_le}
use Rattle.rds_model.specs.Alive.{is_alive}
use Rattle.rds_conn.specs.Connection.{Connection}
use Rattle.rds_conn.proofs.Owing.{again_is}
use Rattle.rds_conn.proofs.conn.Conn.was_pulled.Goals as goal

pub returns : goal.returns
returns c =
    rw (← c.self.view_is)
    (ap (nat_le c.args.msg.num) c.self.invariant.counted.highest_is
    ∙ again_is c.self.inside.journal.past c.args.msg.num c.self.invariant.whole.legal
    (ap (λ (v : Connection). is_alive v.log.past c.args.msg.num) c.self.view_is ∙ c.requires))
