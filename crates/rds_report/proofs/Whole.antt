-- The items of pairs that follow one another are all items, each once, where each item is of one of the pairs.
use Rattle.std.proofs.Common.{◌≡◌, ◌+◌, ℕ, ◌||◌, Bool, true, false, cond, List, [], ◌∷◌, All, length, refl, sym, ap, ◌∙◌, arith}
use Rattle.std.specs.List.{flat_map, filter, sum_by}
use Rattle.std.proofs.lemmas.Bool.{true≢false}
use Rattle.std.proofs.lemmas.List.Elements.{All-head, All-tail}
use Rattle.std.proofs.lemmas.List.Sums.{sum_by-cons, sum_by-append}
use Rattle.rds_report.specs.Item.{What, Item}
use Rattle.rds_text.specs.FinalState.{FinalHost}
use Rattle.rds_text.specs.Report.{Group, counts, groups, received}
use Rattle.rds_text.specs.FinalViews.{AreFinalHosts}
use Rattle.rds_report.specs.Items.{items, seen}
use Rattle.rds_report.specs.ItemReport.{AllOfAccepted, count_of, is_accepted, is_cancelled_item, is_dropped, is_port0, is_received, is_same, is_unread, of_pair, tally}
use Rattle.rds_report.specs.ItemTotals.{bytes_of, payload_bytes}
use Rattle.rds_report.specs.Summary.{all_counts, received_bytes, total}
use Rattle.rds_report.proofs.Counted.{same_counts}
use Rattle.rds_report.proofs.Orders.{Rising, above_lacks, has, has_ascending, rising_ascending, same_is, same_sym}
use Rattle.rds_report.proofs.Chosen.{ends_once}
use Rattle.rds_report.proofs.Pairs.{all_once, end_groups, has_items}
use Rattle.rds_report.proofs.Tallied.{got_all, tally_is}
use Rattle.rds_report.proofs.Totalled.{bytes_spread, got_bytes, map_same, only_bytes, total_of}

or_false : (a b : Bool) → (a || b) ≡ false → (a ≡ false) × (b ≡ false)
or_false true b is = absurd (true≢false is)
or_false false b is = (refl, is)

module _ (f : Item → ℕ) where
  -- the sum over the items of each of these pairs
  abbrev over : List Group → List Item → ℕ
  over [] xs = 0
  over (g ∷ gs) xs = sum_by f (of_pair g xs) + over gs xs

  over_is : (gs : List Group) (xs : List Item) → sum_by f (flat_map (λ g. of_pair g xs) gs) ≡ over gs xs
  over_is [] xs = refl
  over_is (g ∷ gs) xs = sum_by-append f (of_pair g xs) (flat_map (λ g. of_pair g xs) gs) ∙ ap (λ (n : ℕ). sum_by f (of_pair g xs) + n) (over_is gs xs)

  over_none : (gs : List Group) → over gs [] ≡ 0
  over_none [] = refl
  over_none (g ∷ gs) = let ih = over_none gs in omega (arith, ih)

  over_skip : (x : Item) (xs : List Item) (gs : List Group) → has (seen x.group) gs ≡ false → over gs (x ∷ xs) ≡ over gs xs
  over_skip x xs [] lacks = refl
  over_skip x xs (g ∷ gs) lacks =
      let none = or_false (is_same (seen x.group) g) (has (seen x.group) gs) lacks in
      ap (λ (b : Bool). sum_by f (cond b (x ∷ of_pair g xs) (of_pair g xs)) + over gs (x ∷ xs)) (same_sym g (seen x.group) ∙ none.0)
      ∙ ap (λ (n : ℕ). sum_by f (of_pair g xs) + n) (over_skip x xs gs none.1)

  over_one : (x : Item) (xs : List Item) (gs : List Group) → Rising gs → has (seen x.group) gs ≡ true → over gs (x ∷ xs) ≡ f x + over gs xs
  over_one x xs [] rising in' = absurd (true≢false (sym in'))
  over_one x xs (g ∷ gs) rising in' = go (is_same (seen x.group) g) refl (over_one x xs gs rising.1)
    where
      k : Group
      k = seen x.group

      go : (b : Bool) → is_same k g ≡ b → (has k gs ≡ true → over gs (x ∷ xs) ≡ f x + over gs xs) →
          sum_by f (cond (is_same g k) (x ∷ of_pair g xs) (of_pair g xs)) + over gs (x ∷ xs) ≡ f x + (sum_by f (of_pair g xs) + over gs xs)
      go true is later =
          let lacks : has k gs ≡ false = ap (λ (h : Group). has h gs) (same_is k g is) ∙ above_lacks g gs rising.0 in
          let skip = over_skip x xs gs lacks in
          let here : sum_by f (cond (is_same g k) (x ∷ of_pair g xs) (of_pair g xs)) ≡ f x + sum_by f (of_pair g xs) =
          ap (λ (b : Bool). sum_by f (cond b (x ∷ of_pair g xs) (of_pair g xs))) (same_sym g k ∙ is) ∙ sum_by-cons f x (of_pair g xs) in
          omega (arith, skip, here)
      go false is later =
          let rest = later (sym (ap (λ (b : Bool). b || has k gs) is) ∙ in') in
          let here : sum_by f (cond (is_same g k) (x ∷ of_pair g xs) (of_pair g xs)) ≡ sum_by f (of_pair g xs) =
          ap (λ (b : Bool). sum_by f (cond b (x ∷ of_pair g xs) (of_pair g xs))) (same_sym g k ∙ is) in
          omega (arith, rest, here)

  over_all : (gs : List Group) → Rising gs → (xs : List Item) → All (λ (i : Item). has (seen i.group) gs ≡ true) xs → over gs xs ≡ sum_by f xs
  over_all gs rising [] all = over_none gs
  over_all gs rising (x ∷ xs) all =
      over_one x xs gs rising (All-head (λ (i : Item). has (seen i.group) gs ≡ true) x xs all)
      ∙ ap (λ (n : ℕ). f x + n) (over_all gs rising xs (All-tail (λ (i : Item). has (seen i.group) gs ≡ true) x xs all))
      ∙ sym (sum_by-cons f x xs)

  spread_all : (gs : List Group) → Rising gs → (xs : List Item) → All (λ (i : Item). has (seen i.group) gs ≡ true) xs →
      sum_by f (flat_map (λ g. of_pair g xs) gs) ≡ sum_by f xs
  spread_all gs rising xs all = over_is gs xs ∙ over_all gs rising xs all

abbrev bit : (What → Bool) → Item → ℕ
bit kind i = cond (kind i.what) 1 0

count_is : (kind : What → Bool) (xs : List Item) → count_of kind xs ≡ sum_by (bit kind) xs
count_is kind [] = refl
count_is kind (x ∷ xs) = go (kind x.what) refl (count_is kind xs) ∙ sym (sum_by-cons (bit kind) x xs)
  where
    go : (b : Bool) → kind x.what ≡ b → count_of kind xs ≡ sum_by (bit kind) xs →
        length (cond (kind x.what) (x ∷ filter (λ (i : Item). kind i.what) xs) (filter (λ (i : Item). kind i.what) xs)) ≡ cond (kind x.what) 1 0 + sum_by (bit kind) xs
    go true is ih = rw is (omega (arith, ih))
    go false is ih = rw is (omega (arith, ih))

module _ (ends : List FinalHost) (are : AreFinalHosts ends) (all : AllOfAccepted (items ends)) where
  all_in : All (λ (i : Item). has (seen i.group) (groups ends) ≡ true) (items ends)
  all_in k d within =
      has_ascending (seen _) (flat_map end_groups ends) ∙ sym (has_items (seen _) ends) ∙ all k d within

  rising : Rising (groups ends)
  rising = rising_ascending (flat_map end_groups ends)

  same_count : (kind : What → Bool) → count_of kind (flat_map (λ g. of_pair g (items ends)) (groups ends)) ≡ count_of kind (items ends)
  same_count kind =
      count_is kind (flat_map (λ g. of_pair g (items ends)) (groups ends)) ∙ spread_all (bit kind) (groups ends) rising (items ends) all_in
      ∙ sym (count_is kind (items ends))

  pub whole_counts : all_counts ends ≡ tally (items ends)
  whole_counts =
      ap total (map_same (counts ends) (λ g. tally (of_pair g (items ends)))
      (λ g. sym (tally_is ends (ends_once ends are.once) (all_once ends are.sides) g)) (groups ends))
      ∙ sym (total_of (λ g. of_pair g (items ends)) (groups ends))
      ∙ same_counts (same_count is_accepted) (same_count is_received) (same_count is_unread) (same_count is_dropped) (same_count is_port0) (same_count is_cancelled_item)

  pub whole_bytes : received_bytes ends ≡ bytes_of (items ends)
  whole_bytes =
      sym (bytes_spread (λ g. of_pair g (items ends)) (received ends)
      (λ g. only_bytes (of_pair g (items ends))
      ∙ ap bytes_of (got_all ends (ends_once ends are.once) (all_once ends are.sides) g) ∙ got_bytes g (received ends g)) (groups ends))
      ∙ spread_all (λ (i : Item). payload_bytes i.what) (groups ends) rising (items ends) all_in
