use Rattle.std.proofs.Common.{rules, ◌≡◌, ◌∙◌, ◌++◌, ℕ, List, ap, append_assoc, string_bytes}
use Rattle.rds_text.specs.Lines.{end_line}
use Rattle.rds_text.specs.Report.{Counts}
use Rattle.rds_text.specs.FinalViews.{host_views}
use Rattle.rds_report.specs.Summary.{all_counts, received_bytes, summary_line}
use Rattle.rds_report.proofs.summing.summary.Goals as goal

pub returns-clause-exact : goal.returns-clause-exact
returns-clause-exact g c = λ are.
    let ends = host_views c.args.hosts.now in
    let old = string_bytes c.args.text.now in
    let line : Counts → ℕ → List ℕ = summary_line c.args.seed c.args.sends in
    let totals = c.in_ok-totals.ensures are in
    let written : string_bytes c.writeln.new.self ≡ string_bytes c.print_totals.new.text ++ end_line = search rules in
    written
    ∙ ap (λ (t : List ℕ). t ++ end_line)
    (c.in_ok-print_totals.ensures ∙ ap (λ (k : Counts). old ++ line k c.in_ok-totals.totals.bytes) totals.counts
    ∙ ap (λ (n : ℕ). old ++ line (all_counts ends) n) totals.bytes)
    ∙ append_assoc old (line (all_counts ends) (received_bytes ends)) end_line
