use Rattle.std.proofs.Common.{◌≡◌, ℕ, List, [], Some, length, get_or, slice_get, refl, sym, ap, subst, ◌∙◌, arith}
use Rattle.std.proofs.lemmas.Option.{slice_get-get_or}
use Rattle.rds_model.specs.declared.order.Datagram.{Datagram}
use Rattle.rds_model.specs.declared.order.Order.{Order}
use Rattle.rds_mail.specs.Passes.{Putter}
use Rattle.rds_fmap.specs.Readers.{ReaderView, WriterView}
use Rattle.rds_line_parts.specs.Boxes.{IsBoxOf}
use Rattle.rds_socket.specs.Holding.{Holding}
use Rattle.rds_line.specs.Line.{LineView}
use Rattle.rds_host.proofs.Knowing.{still_knowing}
use Rattle.rds_host.proofs.Told.{heard}
use Rattle.rds_host.proofs.ToldLines.{all_told, line_noted, none_told, told_more, fit_box, fit_hear, fit_orders, fit_route}
use Rattle.rds_host.proofs.settling.settle_slot.Goals as goal

pub order_note-requires : goal.order_note-requires
order_note-requires g c =
    let i = c.loop-i.i in
    let line = get_or c.loop-i.lines i c.index-lines-i.result in
    let at : slice_get c.loop-i.lines i ≡ Some line = slice_get-get_or c.loop-i.lines i c.index-lines-i.result (omega arith) in
    fit_route i [] c.args.closed.now c.loop-i.closed c.args.lines.now c.loop-i.lines c.requires.tell c.loop-i.invariant line at

pub hear_orders-requires : goal.hear_orders-requires
hear_orders-requires g c =
    let i = c.loop-i.i in
    let line = get_or c.loop-i.lines i c.index-lines-i.result in
    let at : slice_get c.loop-i.lines i ≡ Some line = slice_get-get_or c.loop-i.lines i c.index-lines-i.result (omega arith) in
    let note = c.order_note.ensures.note in
    ap (λ (p : Putter Order). p.mail) note.2
    ∙ fit_orders i [] c.args.closed.now c.loop-i.closed c.args.lines.now c.loop-i.lines c.requires.tell c.loop-i.invariant line at note.0 note.1

pub inbox_note-requires : goal.inbox_note-requires
inbox_note-requires g c =
    let i = c.loop-i.i in
    let line = get_or c.loop-i.lines i c.index-lines-i.result in
    let at : slice_get c.loop-i.lines i ≡ Some line = slice_get-get_or c.loop-i.lines i c.index-lines-i.result (omega arith) in
    let boxes : c.hear_orders.new.self.boxes ≡ line.boxes =
    ap (λ (l : LineView g.row.E.Denot WriterView). l.boxes) c.hear_orders.ensures in
    let few = fit_box i [] c.args.closed.now c.loop-i.closed c.args.lines.now c.loop-i.lines c.requires.tell c.loop-i.invariant line at in
    let slot = c.requires.number in
    let many = ap (λ (b : List (Putter Datagram)). length b) boxes in
    omega (arith, slot, many, few)

pub hear-requires : goal.hear-requires
hear-requires g c =
    let i = c.loop-i.i in
    let line = get_or c.loop-i.lines i c.index-lines-i.result in
    let at : slice_get c.loop-i.lines i ≡ Some line = slice_get-get_or c.loop-i.lines i c.index-lines-i.result (omega arith) in
    let boxes : c.hear_orders.new.self.boxes ≡ line.boxes =
    ap (λ (l : LineView g.row.E.Denot WriterView). l.boxes) c.hear_orders.ensures in
    let box : IsBoxOf line.boxes c.args.closed.now.words.slot c.inbox_note.result =
    subst (λ (k : ℕ). IsBoxOf line.boxes k c.inbox_note.result) c.requires.number (subst (λ (b : List (Putter Datagram)). IsBoxOf b c.args.slot c.inbox_note.result) boxes c.inbox_note.ensures.note) in
    fit_hear i [] c.args.closed.now c.loop-i.closed c.args.lines.now c.loop-i.lines c.requires.tell c.loop-i.invariant line at c.inbox_note.result box
    ∙ sym (ap (λ (h : Holding ReaderView). h.inbox.get.mail) c.order_note.ensures.same)

pub loop-i-init : goal.loop-i-init
loop-i-init g c = none_told [] c.args.closed.now c.args.lines.now

pub loop-i-preserved : goal.loop-i-preserved
loop-i-preserved g c =
    let i = c.loop-i.i in
    let line = get_or c.loop-i.lines i c.index-lines-i.result in
    let at : slice_get c.loop-i.lines i ≡ Some line = slice_get-get_or c.loop-i.lines i c.index-lines-i.result (omega arith) in
    let note = c.order_note.ensures.note in
    let seat = c.hear_orders.new.self.ports in
    let up = c.loop-i.invariant in
    let boxes : c.hear_orders.new.self.boxes ≡ line.boxes =
    ap (λ (l : LineView g.row.E.Denot WriterView). l.boxes) c.hear_orders.ensures in
    let new = line_noted line c.hear_orders.new.self c.hear_orders.new.self c.inbox_note.new.self c.order_note.result note.0.pass seat note.2 c.hear_orders.ensures refl c.inbox_note.ensures.same in
    let box : IsBoxOf line.boxes c.args.closed.now.words.slot c.inbox_note.result =
    subst (λ (k : ℕ). IsBoxOf line.boxes k c.inbox_note.result) c.requires.number (subst (λ (b : List (Putter Datagram)). IsBoxOf b c.args.slot c.inbox_note.result) boxes c.inbox_note.ensures.note) in
    let put : IsBoxOf line.boxes c.loop-i.closed.words.slot c.inbox_note.result =
    subst (λ (k : ℕ). IsBoxOf line.boxes k c.inbox_note.result) (sym (ap (λ (h : Holding ReaderView). h.words.slot) up.slot.rest)) box in
    let told : c.hear.new.self ≡ heard c.loop-i.closed c.inbox_note.result =
    c.hear.ensures.told ∙ ap (λ (h : Holding ReaderView). heard h c.inbox_note.result) c.order_note.ensures.same in
    told_more i [] c.args.closed.now c.loop-i.closed c.hear.new.self c.args.lines.now c.loop-i.lines line c.inbox_note.new.self note.0 c.inbox_note.result
    at note.1 put (still_knowing line.ports c.inbox_note.new.self.ports (new.1 ∙ ap (λ (l : LineView g.row.E.Denot WriterView). l.ports) c.hear_orders.ensures)) new.0 told up

pub returns : goal.returns
returns g c = all_told c.loop-i.i [] c.args.closed.now c.loop-i.closed c.args.lines.now c.loop-i.lines (omega arith) c.loop-i.invariant
