use Rattle.std.proofs.Common.{rules, ◌≡◌, ◌∙◌, ◌++◌, ◌∷◌, ◌/◌, ℕ, List, [], codes, ap, refl, append_assoc, string_bytes}
use Rattle.std.specs.Fmt.{decimal, digits}
use Rattle.rds_text.specs.Lines.{phrase, text_line}
use Rattle.rds_report.specs.ItemTotals.{fate_words, fates, seen_counts}
use Rattle.rds_report.specs.declared.summing.TheConstants.{CUT_EVERY, HOSTS, SOCKETS}
use Rattle.rds_report.proofs.Words.{phrase_line}
use Rattle.rds_report.proofs.summing.print_totals.Goals as goal

-- the two numbers, as they are written
eight : decimal HOSTS ≡ codes "8"
unfolding digits
eight = refl

thirty_two : decimal SOCKETS ≡ codes "32"
unfolding digits
thirty_two = refl

pub returns : goal.returns
returns c =
    let n = seen_counts c.args.totals.counts in
    let old = string_bytes c.args.text.now in
    let head : List (List ℕ) = codes "seed " ∷ decimal c.args.seed ∷ codes " sends " ∷ decimal c.args.sends ∷ codes " hosts 8 sockets 32 cuts " ∷ decimal (c.args.sends / 500) ∷ [] in
    let tail : List (List ℕ) = codes " bytes " ∷ decimal c.args.totals.bytes ∷ [] in
    let words : List (List ℕ) =
    codes "seed " ∷ decimal c.args.seed ∷ codes " sends " ∷ decimal c.args.sends ∷ codes " hosts " ∷ decimal HOSTS
    ∷ codes " sockets " ∷ decimal SOCKETS ∷ codes " cuts " ∷ decimal (c.args.sends / CUT_EVERY) ∷ [] in
    let first : string_bytes c.write.new.self ≡ old ++ phrase words = search rules in
    let with_numbers : List ℕ → List ℕ → List ℕ = λ hosts sockets.
    phrase (codes "seed " ∷ decimal c.args.seed ∷ codes " sends " ∷ decimal c.args.sends ∷ codes " hosts " ∷ hosts
    ∷ codes " sockets " ∷ sockets ∷ codes " cuts " ∷ decimal (c.args.sends / CUT_EVERY) ∷ []) in
    let same : phrase words ≡ phrase head =
    ap (λ (hosts : List ℕ). with_numbers hosts (decimal SOCKETS)) eight ∙ ap (with_numbers (codes "8")) thirty_two in
    let last : string_bytes c.writeln.new.self ≡ string_bytes c.print_fates.new.text ++ text_line tail = search rules in
    last
    ∙ ap (λ (t : List ℕ). t ++ text_line tail) (c.in_ok-print_fates.ensures ∙ ap (λ (t : List ℕ). t ++ fates n) (first ∙ ap (λ (t : List ℕ). old ++ t) same))
    ∙ append_assoc (old ++ phrase head) (fates n) (text_line tail)
    ∙ append_assoc old (phrase head) (fates n ++ text_line tail)
    ∙ ap (λ (t : List ℕ). old ++ (phrase head ++ t)) (phrase_line (fate_words n) tail)
    ∙ ap (λ (t : List ℕ). old ++ t) (phrase_line head (fate_words n ++ tail))
