use Rattle.std.proofs.Common.{ap, ◌∙◌, sym, arith}
use Rattle.rds_conn.specs.Connection.{Connection}
use Rattle.rds_conn.proofs.KeepsStreams.{keeps_shut}
use Rattle.rds_conn.proofs.conn.Conn.shut.Goals as goal

pub invariant_of-self : goal.invariant_of-self
invariant_of-self c =
    rw (c.push.ensures, c.wipe.ensures, c.reset.ensures)
    (keeps_shut c.self.inside c.in-Some.stream c.self.invariant
    (let spare = ap (λ (v : Connection). v.log.spare) c.self.view_is in omega (arith, spare, c.requires.ready.entries))
    (sym c.self.invariant.stream ∙ c.in-Some.is))
