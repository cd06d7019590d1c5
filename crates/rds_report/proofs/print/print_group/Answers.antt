use Rattle.std.proofs.Common.{◌≡◌, ◌∙◌, ◌==◌, false, string_bytes}
use Rattle.std.proofs.lemmas.Result.{on_ok_weaker}
use Rattle.std.proofs.lemmas.Bool.{ne_eqb}
use Rattle.rds_report.specs.Items.{seen}
use Rattle.rds_report.specs.ItemReport.{count_of, is_accepted}
use Rattle.rds_report.specs.ItemTotals.{seen_counts}
use Rattle.rds_report.proofs.Counted.{same_counts}
use Rattle.rds_report.proofs.Printing.{head_then_lines}
use Rattle.rds_report.proofs.print.print_group.Goals as goal

pub returns : goal.returns
returns c =
    let items = c.args.items.now in
    let n = c.of-counts.ensures in
    let some : (count_of is_accepted items == 0) ≡ false = ne_eqb (count_of is_accepted items) 0 (λ e. c.if-counts-eq0.false (n.accepted ∙ e)) in
    let counts = same_counts n.accepted n.received n.unread n.dropped n.port0 n.cancelled in
    λ known. on_ok_weaker c.print_received.result
    (head_then_lines (seen c.args.group) items (seen_counts c.of-counts.result) (string_bytes c.args.text.now)
    (string_bytes c.print_head.new.text) (string_bytes c.print_received.new.text) some counts
    (c.in_ok-print_head.ensures (known some).1 (known some).0))
    c.print_received.ensures
