use Rattle.std.proofs.Common.{rules, ◌≡◌, ◌∙◌, ◌++◌, ◌∷◌, ℕ, List, [], codes, ap, append_assoc, string_bytes}
use Rattle.std.specs.Fmt.{decimal}
use Rattle.rds_text.specs.Lines.{text_line}
use Rattle.rds_text.specs.Report.{pending}
use Rattle.rds_report.specs.ItemTotals.{fate_words, fates, seen_counts}
use Rattle.rds_report.proofs.Words.{phrase_line}
use Rattle.rds_report.proofs.print.print_counts.Goals as goal

pub returns : goal.returns
returns c =
    let n = seen_counts c.args.counts in
    let old = string_bytes c.args.text.now in
    let tail : ℕ → List (List ℕ) = λ k. codes " pending " ∷ decimal k ∷ [] in
    let last : List ℕ = text_line (tail c.pending-pending.result) in
    let written : string_bytes c.writeln.new.self ≡ string_bytes c.print_fates.new.text ++ last = search rules in
    written
    ∙ ap (λ (t : List ℕ). t ++ last) c.in_ok-print_fates.ensures
    ∙ append_assoc old (fates n) last
    ∙ ap (λ (k : ℕ). old ++ (fates n ++ text_line (tail k))) c.pending-pending.ensures
    ∙ ap (λ (t : List ℕ). old ++ t) (phrase_line (fate_words n) (tail (pending n)))
