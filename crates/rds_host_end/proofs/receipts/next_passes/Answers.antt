use Rattle.std.proofs.Common.{◌<◌, List, length, get_or, sym, ◌∙◌, arith}
use Rattle.std.specs.declared.vec.IntoIter.{IntoIter}
use Rattle.std.specs.Global.{Global}
use Rattle.std.specs.Vec.Iter.{into_iter_items}
use Rattle.std.proofs.lemmas.List.{get_or-map, length-map, map-set}
use Rattle.rds_model.specs.declared.order.Datagram.{Datagram}
use Rattle.rds_mail.specs.Passes.{Putter}
use Rattle.rds_host_end.specs.Columns.{rows_left}
use Rattle.rds_host_end.proofs.Columns.{row_next, row_taken}
use Rattle.rds_host_end.proofs.receipts.next_passes.Goals as goal

pub loop-i-preserved : goal.loop-i-preserved
loop-i-preserved c =
    let old = c.loop-i.boxes in
    let row = get_or old c.loop-i.i c.index-boxes-i.result in
    let new = c.next-held.new.self in
    let i = c.loop-i.i in
    let rows = rows_left c.args.boxes.now in
    let f : IntoIter (Putter Datagram) Global → List (Putter Datagram) = into_iter_items in
    let count = length-map c.args.boxes.now f in
    let same = c.loop-i.auto.boxes in
    let small : i < length old = omega (arith, c.loop-i-test.true, same) in
    let next = row_next row new c.next-held.result c.next-held.ensures.cases in
    let taken = row_taken rows (rows_left old) i (f row) (f new) c.next-held.result c.loop-i.passes.items (omega (arith, count, small, same)) c.loop-i.invariant.0
    (sym (get_or-map f old i c.index-boxes-i.result (f row) small)) next.0 next.1 c.loop-i.invariant.1 in
    (map-set f old i new ∙ taken.0, c.in_ok-add_pass.ensures ∙ taken.1)
