use Rattle.std.proofs.Common.{ap, arith}
use Rattle.rds_conn.specs.Connection.{Connection}
use Rattle.rds_conn.proofs.Handing.{tells_alive}
use Rattle.rds_conn.proofs.conn.Conn.unacked_bytes.Goals as goal

pub returns-clause-bytes : goal.returns-clause-bytes
returns-clause-bytes c =
    let slots = ap (λ (v : Connection). v.slots) c.self.view_is in
    let tells = tells_alive c.self.inside c.args.slot c.self.invariant (omega (arith, slots, c.requires)) in
    rw (← c.self.view_is, c.of.ensures, c.of-2.ensures) tells.alive

pub returns-clause-most : goal.returns-clause-most
returns-clause-most c =
    let slots = ap (λ (v : Connection). v.slots) c.self.view_is in
    let tells = tells_alive c.self.inside c.args.slot c.self.invariant (omega (arith, slots, c.requires)) in
    rw (c.of.ensures, c.of-2.ensures) tells.most
