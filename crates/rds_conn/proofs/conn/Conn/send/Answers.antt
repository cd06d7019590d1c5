use Rattle.std.proofs.Common.{length, ap, arith}
use Rattle.rds_conn.specs.Connection.{Connection}
use Rattle.rds_conn.proofs.KeepsOrders.{keeps_send, takes_message, charge_fits}
use Rattle.rds_conn.proofs.ReleasedBytes.{gone_after_accept, alive_bytes_after_accept}
use Rattle.rds_conn.proofs.conn.Conn.send.Goals as goal

pub add-requires-clause-within : goal.add-requires-clause-within
add-requires-clause-within c =
    let slots = ap (λ (v : Connection). v.slots) c.self.view_is in
    let wide = c.self.invariant.charged.wide in
    omega (arith, slots, wide, c.requires.slot)

pub add-requires-clause-fits : goal.add-requires-clause-fits
add-requires-clause-fits c =
    let slots = ap (λ (v : Connection). v.slots) c.self.view_is in
    rw (c.from.ensures, c.len.ensures.len) (charge_fits c.self.inside c.args.slot (length c.args.payload) c.self.invariant (omega (arith, slots, c.requires.slot)) c.requires.fits)

pub overflow_add-self : goal.overflow_add-self
overflow_add-self c =
    let spare = ap (λ (v : Connection). v.log.spare) c.self.view_is in
    let takes = takes_message c.self.inside c.self.invariant (omega (arith, spare, c.requires.ready.entries)) in
    omega (arith, takes.fits)

pub accept-requires-clause-few : goal.accept-requires-clause-few
accept-requires-clause-few c =
    let spare = ap (λ (v : Connection). v.log.spare) c.self.view_is in
    (takes_message c.self.inside c.self.invariant (omega (arith, spare, c.requires.ready.entries))).few

pub accept-requires-clause-above : goal.accept-requires-clause-above
accept-requires-clause-above c =
    let spare = ap (λ (v : Connection). v.log.spare) c.self.view_is in
    (takes_message c.self.inside c.self.invariant (omega (arith, spare, c.requires.ready.entries))).above

pub invariant_of-self : goal.invariant_of-self
invariant_of-self c =
    let spare = ap (λ (v : Connection). v.log.spare) c.self.view_is in
    let store_spare = ap (λ (v : Connection). v.store_spare) c.self.view_is in
    let slots = ap (λ (v : Connection). v.slots) c.self.view_is in
    let few = c.self.invariant.stored.few in
    let takes = takes_message c.self.inside c.self.invariant (omega (arith, spare, c.requires.ready.entries)) in
    rw (c.accept.ensures.entry, c.accept.ensures.message, c.add.ensures, c.from.ensures, c.len.ensures.len)
    (keeps_send c.self.inside c.args.slot c.args.sport c.args.dport c.args.payload c.self.invariant
    (omega (arith, spare, c.requires.ready.entries)) (omega (arith, store_spare, c.requires.ready.messages))
    (omega (arith, slots, c.requires.slot))
    (record {
      socket = λ e. omega (arith, e, slots, few, c.requires.slot);
      sport_fits = omega arith;
      dport_fits = omega arith;
      payload_fits = c.requires.fits;
      number_fits = takes.number;
    }))

pub returns-clause-gone : goal.returns-clause-gone
returns-clause-gone c =
    rw (← c.self.view_is, c.accept.ensures.entry)
    (λ s. gone_after_accept s c.args.slot c.args.sport c.args.dport c.args.payload c.self.inside.journal.past c.self.invariant.whole.legal)

pub returns-clause-alive : goal.returns-clause-alive
returns-clause-alive c =
    rw (← c.self.view_is, c.accept.ensures.entry)
    (λ s. alive_bytes_after_accept s c.args.slot c.args.sport c.args.dport c.args.payload c.self.inside.journal.past c.self.invariant.whole.legal)
