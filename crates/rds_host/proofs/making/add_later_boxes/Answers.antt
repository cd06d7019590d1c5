use Rattle.std.proofs.Common.{◌≡◌, suc, ◌+◌, ◌<◌, length, get_or, set, ap, ◌∙◌, arith}
use Rattle.rds_model.specs.declared.order.Datagram.{Datagram}
use Rattle.rds_mail.specs.Passes.{Putter, split_from}
use Rattle.rds_host.specs.Ties.{new_putter, with_box}
use Rattle.rds_host.proofs.Columns.{with_boxes_more}
use Rattle.rds_host.proofs.Pushing.{split_at}
use Rattle.rds_host.proofs.making.add_later_boxes.Goals as goal

pub loop-i-preserved : goal.loop-i-preserved
loop-i-preserved c =
    let inv = c.loop-i.invariant in
    let i = c.loop-i.i in
    let mail = c.args.mail.now.value.line in
    let old = c.args.columns.now in
    let now = c.loop-i.columns in
    let column = get_or now i c.index-columns-i.result in
    let small : i < length old = omega arith in
    let own : c.in_ok-held.held ≡ new_putter mail (suc (length old)) (1 + i) = c.in_ok-held.ensures.new ∙ split_at mail (suc (length old)) i c.loop-i.put inv.1 in
    let is : c.add_box.new.self ≡ with_box (new_putter mail (suc (length old)) (1 + i)) column = c.in_ok-add_box.ensures ∙ ap (λ (b : Putter Datagram). with_box b column) own in
    (ap (set now i) is ∙ with_boxes_more mail (suc (length old)) 1 old now i c.index-columns-i.result small inv.0, c.in_ok-held.ensures.put ∙ ap split_from inv.1)
