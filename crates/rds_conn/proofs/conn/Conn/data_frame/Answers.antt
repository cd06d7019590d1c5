use Rattle.std.proofs.Common.{◌≡◌, Some, None, ap, ◌∙◌, sym, subst}
use Rattle.rds_model.specs.Past.{Accepted, datagram}
use Rattle.rds_model.specs.Store.{message}
use Rattle.rds_conn.specs.Choosing.{IsMessage}
use Rattle.rds_conn.specs.Connection.{Connection}
use Rattle.rds_conn.proofs.Places.{at_message, entry_of, framed}
use Rattle.rds_conn.proofs.conn.Conn.data_frame.Goals as goal

pub unreachable-requires : goal.unreachable-requires
unreachable-requires c =
    let is = subst (λ (v : Connection). IsMessage v.log.past c.args.msg) (sym c.self.view_is) c.requires in
    let never : None ≡ Some (entry_of is.d) = c.in_default.ensures ∙ at_message c.self.inside.journal.past c.args.msg is.d is.known is.is in
    cc

pub unreachable-requires-in_default-entry : goal.unreachable-requires-in_default-entry
unreachable-requires-in_default-entry c =
    let is = subst (λ (v : Connection). IsMessage v.log.past c.args.msg) (sym c.self.view_is) c.requires in
    let same : Some c.in-Some.entry.now ≡ Some (entry_of is.d) = c.in-Some.ensures ∙ at_message c.self.inside.journal.past c.args.msg is.d is.known is.is in
    let entry_is : c.in-Some.entry.now ≡ entry_of is.d = cc in
    c.in_default-entry.not-Accept is.d.slot is.d.sport is.d.dport is.d.payload entry_is

pub returns : goal.returns
returns c = λ d known.
    let is = subst (λ (v : Connection). IsMessage v.log.past c.args.msg) (sym c.self.view_is) c.requires in
    let known_here : datagram c.self.inside.journal.past c.args.msg.num ≡ Some d = ap (λ (v : Connection). datagram v.log.past c.args.msg.num) c.self.view_is ∙ known in
    let both : Some is.d ≡ Some d = sym is.known ∙ known_here in
    let one : is.d ≡ d = cc in
    let message_is : c.args.msg ≡ message c.args.msg.num d = subst (λ (x : Accepted). c.args.msg ≡ message c.args.msg.num x) one is.is in
    let same : Some c.in-Some.entry.now ≡ Some (entry_of d) = c.in-Some.ensures ∙ at_message c.self.inside.journal.past c.args.msg d known_here message_is in
    let entry_is : c.in-Some.entry.now ≡ entry_of d = cc in
    let bytes_are = c.in_ok-payload-in-Accept.ensures in
    rw (← c.self.view_is, bytes_are)
    (framed c.self.inside.journal.past c.args.msg c.header_of-header.result c.in-Accept.payload c.in-Accept.slot c.in-Accept.sport c.in-Accept.dport c.args.flags d
    (c.header_of-header.ensures c.self.inside.journal.past c.self.invariant.counted.last_is) message_is (sym c.in-Accept.is ∙ entry_is))
