use Rattle.std.proofs.Common.{◌≡◌, ◌∙◌, List, ap, arith}
use Rattle.rds_report.specs.Item.{Item}
use Rattle.rds_text.specs.Report.{Group}
use Rattle.rds_text.specs.FinalViews.{host_views}
use Rattle.rds_report.specs.Items.{items_to}
use Rattle.rds_report.specs.ItemReport.{of_pair, tally}
use Rattle.rds_report.specs.ItemTotals.{bytes_of, grouped}
use Rattle.rds_report.proofs.Totalled.{to_bytes, to_tally}
use Rattle.rds_report.proofs.summing.totals_to.Goals as goal

pub returns : goal.returns
returns c =
    let ends = host_views c.args.hosts.now in
    let all = c.sort.new.items.items in
    let stable : (g : Group) → of_pair g all ≡ of_pair g (items_to c.args.to ends) = λ g. c.in_ok-sort.ensures.stable g ∙ ap (of_pair g) c.in_ok-items.ensures in
    record {
      exact = λ are. record {
        counts = c.of.ensures.counts ∙ ap (λ (l : List Item). tally (grouped l)) c.deref.ensures.value ∙ to_tally ends are c.args.to all stable;
        bytes = c.of.ensures.bytes ∙ ap (λ (l : List Item). bytes_of (grouped l)) c.deref.ensures.value ∙ to_bytes ends are c.args.to all stable;
      };
      small = record {
        few = omega (arith, c.of.ensures.few, c.deref.ensures.len, c.sort.new.items.small);
        short = omega (arith, c.of.ensures.small, c.deref.ensures.len, c.sort.new.items.small);
      };
    }
