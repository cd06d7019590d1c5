use Rattle.std.proofs.Common.{◌≡◌, ◌++◌, refl, sym, ◌∙◌, ap, subst, arith, List, IsSome, is_some, Some}
use Rattle.rds_wire.specs.declared.frame.Frame.{Frame}
use Rattle.rds_wire.specs.Bytes.{frame_bytes}
use Rattle.rds_model.specs.declared.entry.Entry.{Entry}
use Rattle.rds_model.specs.Past.{Accepted, datagram}
use Rattle.rds_model.specs.Owed.{data_frame, last_map, asks_with}
use Rattle.rds_model.specs.DueLaws.{least_due}
use Rattle.rds_model.specs.NumberLaws.{number_of_known}
use Rattle.rds_model.specs.FrameLaws.{kind_of_data_frame}
use Rattle.rds_conn.specs.Choosing.{IsFirstDue}
use Rattle.rds_conn.specs.Connection.{Connection, stream_of}
use Rattle.rds_conn.specs.Pulling.{name_of_pull}
use Rattle.rds_conn.proofs.KeepsPulls.{keeps_data, counts_fit, framed_data}
use Rattle.rds_conn.proofs.conn.Conn.pull_data.Goals as goal

pub was_pulled-requires : goal.was_pulled-requires
was_pulled-requires c =
    (least_due c.args.stream c.args.self.now.log.past c.args.msg.num c.requires.due.rest c.requires.due.first).alive

pub after_datagram-self-inside-requires-clause-count : goal.after_datagram-self-inside-requires-clause-count
after_datagram-self-inside-requires-clause-count c =
    (counts_fit c.self.inside c.args.stream c.self.invariant (c.self.invariant.stream ∙ ap stream_of c.self.view_is ∙ c.requires.on)).count

pub after_datagram-self-inside-requires-clause-bytes : goal.after_datagram-self-inside-requires-clause-bytes
after_datagram-self-inside-requires-clause-bytes c =
    (counts_fit c.self.inside c.args.stream c.self.invariant (c.self.invariant.stream ∙ ap stream_of c.self.view_is ∙ c.requires.on)).bytes

pub invariant_of-self : goal.invariant_of-self
invariant_of-self c =
    let past = ap (λ (v : Connection). v.log.past) c.self.view_is in
    let spare = ap (λ (v : Connection). v.log.spare) c.self.view_is in
    let on = c.self.invariant.stream ∙ ap stream_of c.self.view_is ∙ c.requires.on in
    let behind = subst (λ (v : Connection). IsSome (last_map c.args.stream v.log.past)) (sym c.self.view_is) c.requires.behind in
    let due = subst (λ (v : Connection). IsFirstDue c.args.stream v.log.past c.args.msg) (sym c.self.view_is) c.requires.due in
    let d : Accepted = c.requires.due.tells.d in
    let asks = c.has_to_ask-asks.ensures d c.requires.due.tells.known in
    let frame_is = subst (λ (p : List Entry). c.in_ok-frame.frame ≡ data_frame c.args.stream p c.args.msg.num d) (sym past)
    (framed_data c.args.stream c.args.self.now.log.past c.args.msg.num d c.in_ok-frame.frame c.was_pulled.result c.has_to_ask-asks.result c.data_flags.result
    (c.in_ok-frame.ensures d c.requires.due.tells.known) c.data_flags.ensures c.was_pulled.ensures asks) in
    let asks_here = subst (λ (p : List Entry). c.has_to_ask-asks.result ≡ asks_with c.args.stream p c.args.msg.num d) (sym past) asks in
    let known = subst (λ (p : List Entry). datagram p c.args.msg.num ≡ Some d) (sym past) c.requires.due.tells.known in
    rw (c.push.ensures, frame_is, c.mark_pulled.ensures, c.max-self-inside.ensures, c.after_datagram-self-inside.ensures, asks_here)
    (keeps_data c.self.inside c.args.stream c.args.msg d c.self.invariant (omega (arith, spare, c.requires.ready.entries)) on c.known.ensures.map.size c.known.ensures.map.bytes behind due known)

pub returns-clause-owed : goal.returns-clause-owed
returns-clause-owed c = λ d known.
    let asks = c.has_to_ask-asks.ensures d known in
    let frame_is = framed_data c.args.stream c.args.self.now.log.past c.args.msg.num d c.in_ok-frame.frame c.was_pulled.result c.has_to_ask-asks.result c.data_flags.result
    (c.in_ok-frame.ensures d known) c.data_flags.ensures c.was_pulled.ensures asks in
    let above = (number_of_known c.args.self.now.log.past c.args.msg.num (ap is_some known)).0 in
    record {
      entry = rw (c.push.ensures, frame_is, ← c.self.view_is) refl;
      bytes = c.in_ok-append.ensures.ok ∙ ap (λ (f : Frame). c.args.out.now ++ frame_bytes f) frame_is;
      named = sym (ap name_of_pull (kind_of_data_frame c.args.stream c.args.self.now.log.past c.args.msg.num d above));
    }
