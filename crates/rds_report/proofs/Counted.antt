-- Counts of items add up.
use Rattle.std.proofs.Common.{◌≡◌, ◌≤◌, ◌+◌, ◌==◌, ℕ, Bool, true, false, if◌then◌else◌, List, [], ◌∷◌, ◌++◌, length, arith, refl, sym, ap, ◌∙◌, length-append}
use Rattle.std.proofs.lemmas.List.Elements.{filter-append}
use Rattle.rds_report.specs.Item.{What, Accepted, Received, Unread, Dropped, Port0, Cancelled, Item}
use Rattle.rds_text.specs.Report.{Counts}
use Rattle.rds_report.specs.ItemReport.{count_of, is_accepted, is_received, is_unread, is_dropped, is_port0, is_cancelled_item, tally}
use Rattle.rds_report.specs.ItemTotals.{count_all, grouped, with_accepted}
use Rattle.rds_report.specs.Summary.{plus}
use Rattle.rds_report.proofs.Selected.{of_kind}

-- counts by their fields
abbrev counts_of : (a b c d e f : ℕ) → Counts
counts_of a b c d e f = record { accepted = a; received = b; unread = c; dropped = d; port0 = e; cancelled = f }

pub same_counts : {a b c d e f a' b' c' d' e' f' : ℕ} → a ≡ a' → b ≡ b' → c ≡ c' → d ≡ d' → e ≡ e' → f ≡ f' →
    counts_of a b c d e f ≡ counts_of a' b' c' d' e' f'
same_counts x y z u v w = cc

-- counts of items that stand behind one another

count_append : (kind : What → Bool) (xs ys : List Item) → count_of kind (xs ++ ys) ≡ count_of kind xs + count_of kind ys
count_append kind xs ys = ap length (filter-append (λ (i : Item). kind i.what) xs ys) ∙ length-append (of_kind kind xs) (of_kind kind ys)

pub tally_append : (xs ys : List Item) → tally (xs ++ ys) ≡ plus (tally xs) (tally ys)
tally_append xs ys =
    same_counts (count_append is_accepted xs ys) (count_append is_received xs ys) (count_append is_unread xs ys)
    (count_append is_dropped xs ys) (count_append is_port0 xs ys) (count_append is_cancelled_item xs ys)

pub count_plus : (a b : Counts) → count_all (plus a b) ≡ count_all a + count_all b
count_plus a b = omega arith

pub plus_assoc : (a b c : Counts) → plus (plus a b) c ≡ plus a (plus b c)
plus_assoc a b c = same_counts (omega arith) (omega arith) (omega arith) (omega arith) (omega arith) (omega arith)

-- each item is counted once

count_single : (i : Item) → count_all (tally (i ∷ [])) ≡ 1
count_single i = go i.what
  where
    go : (w : What) → count_all (tally (record { group = i.group; what = w } ∷ [])) ≡ 1
    go Accepted = refl
    go (Received payload) = refl
    go Unread = refl
    go Dropped = refl
    go Port0 = refl
    go Cancelled = refl

pub count_tally : (xs : List Item) → count_all (tally xs) ≡ length xs
count_tally [] = refl
count_tally (x ∷ xs) =
    ap count_all (tally_append (x ∷ []) xs) ∙ count_plus (tally (x ∷ [])) (tally xs)
    ∙ ap (λ (n : ℕ). n + count_all (tally xs)) (count_single x) ∙ ap (λ (n : ℕ). 1 + n) (count_tally xs) ∙ omega arith

-- the totals after a run

accepted_length : (run : List Item) → length (with_accepted run) ≤ length run
accepted_length run = go (count_of is_accepted run == 0)
  where
    go : (b : Bool) → length (if b then [] else run) ≤ length run
    go true = omega arith
    go false = omega arith

module _ (old new : Counts) (run rest all left : List Item) (is : new ≡ plus old (tally (with_accepted run))) where
  pub more_counts : grouped left ≡ with_accepted run ++ grouped rest → plus old (tally (grouped left)) ≡ tally (grouped all) →
      plus new (tally (grouped rest)) ≡ tally (grouped all)
  more_counts parts had =
      ap (λ (c : Counts). plus c (tally (grouped rest))) is
      ∙ plus_assoc old (tally (with_accepted run)) (tally (grouped rest))
      ∙ ap (plus old) (sym (tally_append (with_accepted run) (grouped rest)))
      ∙ ap (λ (l : List Item). plus old (tally l)) (sym parts) ∙ had

  pub more_counted : length left ≡ length run + length rest → count_all old + length left ≤ length all →
      count_all new + length rest ≤ length all
  more_counted parts room =
      let e : count_all new ≡ count_all old + length (with_accepted run) =
      ap count_all is ∙ count_plus old (tally (with_accepted run)) ∙ ap (λ (n : ℕ). count_all old + n) (count_tally (with_accepted run)) in
      let most = accepted_length run in
      omega (arith, e, most, parts, room)
