use Rattle.std.proofs.Common.{sym}
use Rattle.rds_conn.proofs.Owing.{again_is}
use Rattle.rds_conn.proofs.Sizes.{short_waiting, map_waiting}
use Rattle.rds_conn.proofs.conn.Conn.known.Goals as goal

pub returns-clause-pulled : goal.returns-clause-pulled
returns-clause-pulled c =
    rw (← c.self.view_is) (λ n alive. sym (again_is c.self.inside.journal.past n c.self.invariant.whole.legal alive))

pub returns-clause-size : goal.returns-clause-size
returns-clause-size c = rw (← c.self.view_is) (short_waiting c.self.inside c.self.invariant)

pub returns-clause-map : goal.returns-clause-map
returns-clause-map c = rw (← c.self.view_is) (map_waiting c.self.inside c.self.invariant)
