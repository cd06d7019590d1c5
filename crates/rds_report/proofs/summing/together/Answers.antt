use Rattle.std.proofs.Common.{◌∙◌, ◌+◌, ℕ, List, map, take, get_or, arith, ap, sym}
use Rattle.std.specs.List.{sum_by}
use Rattle.rds_text.specs.Report.{Counts}
use Rattle.rds_report.specs.declared.totals.Totals.{Totals}
use Rattle.rds_report.specs.Summary.{plus, total}
use Rattle.rds_report.specs.ItemTotals.{IsSmall, count_all, totals_bytes, totals_counts}
use Rattle.rds_report.proofs.Added.{total_more, bytes_more}
use Rattle.rds_report.proofs.Counted.{count_plus}
use Rattle.std.proofs.lemmas.List.{take_more}
use Rattle.rds_report.proofs.summing.together.Goals as goal

pub loop-more-preserved : goal.loop-more-preserved
loop-more-preserved c =
    let each = c.args.each.now in
    let i = c.loop-more.more-index in
    let nothing : Totals = record { counts = record { accepted = 0; received = 0; unread = 0; dropped = 0; port0 = 0; cancelled = 0 }; bytes = 0 } in
    let t : Totals = get_or each i nothing in
    let taken = sym (take_more each i nothing c.loop-more-test.true) in
    let before = totals_counts c.loop-more.totals in
    let small : IsSmall t = c.requires.small i nothing c.loop-more-test.true in
    let added = c.with-totals.ensures in
    let sum = ap count_all added.counts ∙ count_plus before (totals_counts t) in
    record {
      counts =
          added.counts ∙ ap (λ (k : Counts). plus k (totals_counts t)) c.loop-more.invariant.counts
          ∙ sym (total_more (take i each) t) ∙ ap (λ (l : List Totals). total (map totals_counts l)) taken;
      bytes =
          added.bytes ∙ ap (λ (n : ℕ). n + t.bytes) c.loop-more.invariant.bytes
          ∙ sym (bytes_more (take i each) t) ∙ ap (sum_by totals_bytes) taken;
      few = omega (arith, sum, small.few, c.loop-more.invariant.few);
      short = omega (arith, added.bytes, small.short, c.loop-more.invariant.short);
    }
