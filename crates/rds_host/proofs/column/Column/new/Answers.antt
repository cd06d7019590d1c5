use Rattle.std.proofs.Common.{◌≡◌, ap, ◌∙◌, rules}
use Rattle.std.specs.Arc.{arc_value}
use Rattle.rds_mail.specs.Passes.{Mailbox}
use Rattle.rds_host.proofs.Columns.{new_all, readers_alike}
use Rattle.rds_host.proofs.column.Column.new.Goals as goal

pub invariant_of-result-2 : goal.invariant_of-result-2
invariant_of-result-2 c =
    let mail : c.deref.result.now.line ≡ (arc_value c.in_ok-queue.queue).line = ap (λ (m : Mailbox). m.line) c.deref.ensures in
    let passes = new_all c.deref.result.now.line c.args.slots c.in_ok-passes.field-0.items c.in_ok-passes.ensures in
    record {
      orders_of = search rules;
      got = search rules;
      joined = search rules;
      passes_of = λ k d small. (passes k d small).0 ∙ mail;
      put = λ k d small. (passes k d small).1;
      published = search rules;
      readers_of = readers_alike c.in_ok-map.map _ _ c.in_ok-map.readers.items c.in_ok-map.ensures.readers c.map.view_is;
      boxes = search rules;
    }
