use Rattle.std.proofs.Common.{◌≡◌, ◌∙◌, ◌++◌, ◌==◌, ℕ, List, false, ap, sym, append_assoc, string_bytes}
use Rattle.std.specs.List.{flat_map}
use Rattle.std.proofs.lemmas.Result.{on_ok_weaker}
use Rattle.std.proofs.lemmas.Bool.{ne_eqb}
use Rattle.rds_text.specs.Report.{pair_text, counts_line}
use Rattle.rds_report.specs.Items.{seen}
use Rattle.rds_report.specs.ItemReport.{count_of, is_accepted}
use Rattle.rds_report.specs.ItemTotals.{seen_counts}
use Rattle.rds_report.specs.Texts.{text_bytes}
use Rattle.rds_report.proofs.Counted.{same_counts}
use Rattle.rds_report.proofs.Printing.{head_then_lines}
use Rattle.rds_report.proofs.texts.Texts.print_group.Goals as goal

pub returns : goal.returns
returns g c =
    let items = c.args.items.now in
    let pair = seen c.args.group in
    let k = seen_counts c.of-counts.result in
    let done = flat_map string_bytes c.args.self.now.done.items in
    let last = string_bytes c.args.self.now.last in
    let headed = done ++ string_bytes c.print_head.new.text in
    let n = c.of-counts.ensures in
    let some : (count_of is_accepted items == 0) ≡ false = ne_eqb (count_of is_accepted items) 0 (λ e. c.if-counts-eq0.false (n.accepted ∙ e)) in
    let counts = same_counts n.accepted n.received n.unread n.dropped n.port0 n.cancelled in
    λ known. on_ok_weaker c.print_lines.result
    (head_then_lines pair items k (done ++ last) headed (text_bytes c.print_lines.new.self) some counts
    (ap (λ (t : List ℕ). done ++ t) (c.in_ok-print_head.ensures (known some).1 (known some).0)
    ∙ sym (append_assoc done last (pair_text pair ++ counts_line k))))
    c.print_lines.ensures
