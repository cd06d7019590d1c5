use Rattle.std.proofs.Common.{ap, arith}
use Rattle.rds_model.specs.declared.entry.Target.TheVariants.{Port}
use Rattle.rds_conn.specs.Connection.{Connection}
use Rattle.rds_conn.proofs.Costs.{length-messages_from}
use Rattle.rds_conn.proofs.KeepsOrders.{keeps_cancel, frees_cancel, conserved_cancel, cancel_fits}
use Rattle.rds_conn.proofs.conn.Conn.cancel.Goals as goal

pub add-requires : goal.add-requires
add-requires g c = rw c.cancel-bytes.ensures.bytes (cancel_fits c.self.inside c.args.slot (Port c.args.dport) c.self.invariant)

pub invariant_of-self : goal.invariant_of-self
invariant_of-self g c =
    rw (c.push.ensures, c.cancel-bytes.ensures.rest, c.add.ensures, c.cancel-bytes.ensures.bytes)
    (keeps_cancel c.self.inside c.args.slot (Port c.args.dport) c.self.invariant
    (let spare = ap (λ (v : Connection). v.log.spare) c.self.view_is in omega (arith, spare, c.requires.ready.entries))
    (let slots = ap (λ (v : Connection). v.slots) c.self.view_is in omega (arith, slots, c.requires.slot)))

pub returns-clause-freed : goal.returns-clause-freed
returns-clause-freed g c =
    rw (← c.self.view_is, c.push.ensures, c.add.ensures, c.cancel-bytes.ensures.bytes)
    (λ s within. frees_cancel c.self.inside c.args.slot (Port c.args.dport) s c.self.invariant within)

pub returns-clause-conserved : goal.returns-clause-conserved
returns-clause-conserved g c =
    rw (← c.self.view_is, c.push.ensures, c.add.ensures, c.cancel-bytes.ensures.bytes)
    (λ s within. conserved_cancel c.self.inside c.args.slot (Port c.args.dport) s c.self.invariant within)

pub returns-clause-few : goal.returns-clause-few
returns-clause-few g c =
    let messages = length-messages_from c.args.slot c.self.inside.journal.past c.self.inside.store.messages c.self.invariant.stored.holds.alive in
    rw (← c.self.view_is) (omega (arith, messages, c.cancel-bytes.ensures.cost))
