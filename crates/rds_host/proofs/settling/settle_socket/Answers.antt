use Rattle.std.proofs.Common.{◌≡◌, ℕ, List, [], ◌∷◌, Some, length, get_or, slice_get, refl, sym, ap, subst, ◌∙◌, arith}
use Rattle.std.proofs.lemmas.Option.{slice_get-get_or}
use Rattle.rds_model.specs.declared.order.Datagram.{Datagram}
use Rattle.rds_model.specs.declared.order.Order.{Order}
use Rattle.rds_mail.specs.Passes.{Putter}
use Rattle.rds_bindtab.specs.Seats as seats
use Rattle.rds_fmap.specs.Readers.{ReaderView, WriterView}
use Rattle.rds_line_parts.specs.Boxes.{IsBoxOf}
use Rattle.rds_socket.specs.Calls.{with_own}
use Rattle.rds_socket.specs.Holding.{Holding, Open}
use Rattle.rds_line.specs.Line.{LineView}
use Rattle.rds_host.specs.Settled.{IsSameSocket, knowing_ports, ports_of}
use Rattle.rds_host.specs.Telling.{IsPortTold}
use Rattle.rds_host.proofs.Sockets.{same_socket_through}
use Rattle.rds_host.proofs.Told.{heard}
use Rattle.rds_host.proofs.ToldLines.{all_told, line_noted, none_told, told_more, fit_box, fit_hear, fit_orders, fit_port, fit_route}
use Rattle.rds_host.proofs.ToldPorts.{PortUpTo, all_heard, next_heard, none_heard, port_heard}
use Rattle.rds_host.proofs.settling.settle_socket.Goals as goal

pub order_note-requires : goal.order_note-requires
order_note-requires g c =
    let i = c.loop-i.i in
    let line = get_or c.loop-i.lines i c.index-lines-i.result in
    let at : slice_get c.loop-i.lines i ≡ Some line = slice_get-get_or c.loop-i.lines i c.index-lines-i.result (omega arith) in
    fit_route i (ports_of (c.args.socket.now ∷ [])) c.args.socket.now.own c.loop-i.socket.own c.args.lines.now c.loop-i.lines c.requires c.loop-i.invariant.0 line at

pub hear_orders-requires : goal.hear_orders-requires
hear_orders-requires g c =
    let i = c.loop-i.i in
    let line = get_or c.loop-i.lines i c.index-lines-i.result in
    let at : slice_get c.loop-i.lines i ≡ Some line = slice_get-get_or c.loop-i.lines i c.index-lines-i.result (omega arith) in
    let note = c.order_note.ensures.note in
    ap (λ (p : Putter Order). p.mail) note.2
    ∙ fit_orders i (ports_of (c.args.socket.now ∷ [])) c.args.socket.now.own c.loop-i.socket.own c.args.lines.now c.loop-i.lines c.requires c.loop-i.invariant.0 line at note.0 note.1

pub tell_port-requires : goal.tell_port-requires
tell_port-requires g c =
    let i = c.loop-i.i in
    let line = get_or c.loop-i.lines i c.index-lines-i.result in
    let at : slice_get c.loop-i.lines i ≡ Some line = slice_get-get_or c.loop-i.lines i c.index-lines-i.result (omega arith) in
    ap (λ (s : Open ReaderView). s.own.ports.table) c.order_note.ensures.same
    ∙ (fit_port i (ports_of (c.args.socket.now ∷ [])) c.args.socket.now.own c.loop-i.socket.own c.args.lines.now c.loop-i.lines c.requires c.loop-i.invariant.0 line at
    ∙ sym (ap (λ (l : LineView g.row.E.Denot WriterView). l.ports.table) c.hear_orders.ensures))

pub inbox_note-requires : goal.inbox_note-requires
inbox_note-requires g c =
    let i = c.loop-i.i in
    let line = get_or c.loop-i.lines i c.index-lines-i.result in
    let at : slice_get c.loop-i.lines i ≡ Some line = slice_get-get_or c.loop-i.lines i c.index-lines-i.result (omega arith) in
    let boxes : c.tell_port.new.line.boxes ≡ line.boxes =
    ap (λ (l : LineView g.row.E.Denot WriterView). l.boxes) c.tell_port.ensures.told ∙ ap (λ (l : LineView g.row.E.Denot WriterView). l.boxes) c.hear_orders.ensures in
    let few = fit_box i (ports_of (c.args.socket.now ∷ [])) c.args.socket.now.own c.loop-i.socket.own c.args.lines.now c.loop-i.lines c.requires c.loop-i.invariant.0 line at in
    let slot = c.slot-slot.ensures in
    let many = ap (λ (b : List (Putter Datagram)). length b) boxes in
    omega (arith, slot, many, few)

pub hear-requires : goal.hear-requires
hear-requires g c =
    let i = c.loop-i.i in
    let line = get_or c.loop-i.lines i c.index-lines-i.result in
    let at : slice_get c.loop-i.lines i ≡ Some line = slice_get-get_or c.loop-i.lines i c.index-lines-i.result (omega arith) in
    let boxes : c.tell_port.new.line.boxes ≡ line.boxes =
    ap (λ (l : LineView g.row.E.Denot WriterView). l.boxes) c.tell_port.ensures.told ∙ ap (λ (l : LineView g.row.E.Denot WriterView). l.boxes) c.hear_orders.ensures in
    let box : IsBoxOf line.boxes c.args.socket.now.own.words.slot c.inbox_note.result =
    subst (λ (k : ℕ). IsBoxOf line.boxes k c.inbox_note.result) c.slot-slot.ensures (subst (λ (b : List (Putter Datagram)). IsBoxOf b c.slot-slot.result c.inbox_note.result) boxes c.inbox_note.ensures.note) in
    fit_hear i (ports_of (c.args.socket.now ∷ [])) c.args.socket.now.own c.loop-i.socket.own c.args.lines.now c.loop-i.lines c.requires c.loop-i.invariant.0 line at c.inbox_note.result box
    ∙ sym (ap (λ (s : Open ReaderView). s.own.inbox.get.mail) (c.tell_port.ensures.same ∙ c.order_note.ensures.same))

pub loop-i-init : goal.loop-i-init
loop-i-init g c = (none_told (ports_of (c.args.socket.now ∷ [])) c.args.socket.now.own c.args.lines.now, none_heard c.args.lines.now c.args.socket.now.own.ports, refl)

pub loop-i-preserved : goal.loop-i-preserved
loop-i-preserved g c =
    let i = c.loop-i.i in
    let line = get_or c.loop-i.lines i c.index-lines-i.result in
    let at : slice_get c.loop-i.lines i ≡ Some line = slice_get-get_or c.loop-i.lines i c.index-lines-i.result (omega arith) in
    let note = c.order_note.ensures.note in
    let seat = c.tell_port.new.line.ports in
    let up = c.loop-i.invariant.0 in
    let boxes : c.tell_port.new.line.boxes ≡ line.boxes =
    ap (λ (l : LineView g.row.E.Denot WriterView). l.boxes) c.tell_port.ensures.told ∙ ap (λ (l : LineView g.row.E.Denot WriterView). l.boxes) c.hear_orders.ensures in
    let second : c.tell_port.new.line ≡ record c.hear_orders.new.self { ports = seat } =
    c.tell_port.ensures.told ∙ ap (λ (p : seats.PortSeat). record c.hear_orders.new.self { ports = p }) (sym (ap (λ (l : LineView g.row.E.Denot WriterView). l.ports) c.tell_port.ensures.told)) in
    let new = line_noted line c.hear_orders.new.self c.tell_port.new.line c.inbox_note.new.self c.order_note.result note.0.pass seat note.2 c.hear_orders.ensures second c.inbox_note.ensures.same in
    let same : c.tell_port.new.socket ≡ c.loop-i.socket = c.tell_port.ensures.same ∙ c.order_note.ensures.same in
    let box : IsBoxOf line.boxes c.args.socket.now.own.words.slot c.inbox_note.result =
    subst (λ (k : ℕ). IsBoxOf line.boxes k c.inbox_note.result) c.slot-slot.ensures (subst (λ (b : List (Putter Datagram)). IsBoxOf b c.slot-slot.result c.inbox_note.result) boxes c.inbox_note.ensures.note) in
    let put : IsBoxOf line.boxes c.loop-i.socket.own.words.slot c.inbox_note.result =
    subst (λ (k : ℕ). IsBoxOf line.boxes k c.inbox_note.result) (sym (ap (λ (h : Holding ReaderView). h.words.slot) up.slot.rest)) box in
    let told : c.hear.new.self.own ≡ heard c.loop-i.socket.own c.inbox_note.result =
    ap (λ (s : Open ReaderView). s.own) c.hear.ensures.told ∙ ap (λ (s : Open ReaderView). heard s.own c.inbox_note.result) same in
    let holder = c.args.socket.now.own.ports in
    let tells : seats.telling_of c.order_note.new.self.own.ports.view ≡ seats.telling_of holder.view =
    ap (λ (s : Open ReaderView). seats.telling_of s.own.ports.view) c.order_note.ensures.same ∙ ap (λ (h : Holding ReaderView). seats.telling_of h.ports.view) up.slot.rest in
    let ports : c.inbox_note.new.self.ports ≡ knowing_ports line.ports (seats.telling_of holder.view ∷ []) =
    new.1
    ∙ (ap (λ (l : LineView g.row.E.Denot WriterView). l.ports) c.tell_port.ensures.told
    ∙ (ap (λ (l : LineView g.row.E.Denot WriterView). knowing_ports l.ports (seats.telling_of c.order_note.new.self.own.ports.view ∷ [])) c.hear_orders.ensures
    ∙ ap (λ t. knowing_ports line.ports (t ∷ [])) tells)) in (
      told_more i (ports_of (c.args.socket.now ∷ [])) c.args.socket.now.own c.loop-i.socket.own c.hear.new.self.own c.args.lines.now c.loop-i.lines line c.inbox_note.new.self note.0
          c.inbox_note.result at note.1 put ports new.0 told up,
      next_heard i c.loop-i.lines line c.inbox_note.new.self holder at
          (subst (λ (p : seats.PortSeat). IsPortTold p holder) (sym ports) (port_heard line.ports holder)) c.loop-i.invariant.1,
      same_socket_through c.args.socket.now c.tell_port.new.socket c.hear.new.self
          (subst (IsSameSocket c.args.socket.now) (sym same) c.loop-i.invariant.2)
          (c.hear.ensures.told ∙ ap (with_own c.tell_port.new.socket) (sym (ap (λ (s : Open ReaderView). s.own) c.hear.ensures.told))),
    )

pub returns-clause-told : goal.returns-clause-told
returns-clause-told g c = all_told c.loop-i.i (ports_of (c.args.socket.now ∷ [])) c.args.socket.now.own c.loop-i.socket.own c.args.lines.now c.loop-i.lines (omega arith) c.loop-i.invariant.0

pub returns-clause-ports : goal.returns-clause-ports
returns-clause-ports g c =
    let ports = ap (λ (h : Holding ReaderView). h.ports) c.loop-i.invariant.0.slot.rest in
    all_heard c.loop-i.i c.loop-i.lines c.loop-i.socket.own (omega arith)
    (subst (PortUpTo c.loop-i.i c.loop-i.lines) (sym ports) c.loop-i.invariant.1)

pub returns-clause-same : goal.returns-clause-same
returns-clause-same g c = c.loop-i.invariant.2
