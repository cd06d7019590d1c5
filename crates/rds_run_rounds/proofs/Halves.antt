-- Rows that were lent in two parts, and of which one thing in each part was set.
use Rattle.std.proofs.Common.{◌≡◌, ℕ, zero, suc, ◌<◌, ◌≤◌, List, [], ◌∷◌, ◌++◌, Some, Vec, option_map, drop, get_or, length, set, slice_get, take, refl, sym, ap, subst, ◌∙◌, arith}
use Rattle.std.specs.Global.{Global}
use Rattle.std.specs.List.{All}
use Rattle.std.proofs.lemmas.List.{length-map, length-set, map-set, take-append-le, take_all}
use Rattle.std.proofs.lemmas.Option.{same_Some, slice_get-map}
use Rattle.rds_run_rounds.specs.Grid.{rows_of}
use Rattle.rds_run_rounds.proofs.Partners.{all_at, all_of}

module _ {X : Type 0} where
  join_one : (xs : List X) (high : ℕ) (w : X) → high < length xs → take high xs ++ set (drop high xs) 0 w ≡ set xs high w
  join_one [] high w within = absurd (omega (arith, within))
  join_one (x ∷ xs) zero w within = refl
  join_one (x ∷ xs) (suc high) w within = ap (λ (ys : List X). x ∷ ys) (join_one xs high w (omega (arith, within)))

  pub join_two : (xs : List X) (low high : ℕ) (v w : X) → low < high → high < length xs →
      set (take high xs) low v ++ set (drop high xs) 0 w ≡ set (set xs low v) high w
  join_two [] low high v w less within = absurd (omega (arith, within))
  join_two (x ∷ xs) low zero v w less within = absurd (omega (arith, less))
  join_two (x ∷ xs) zero (suc high) v w less within = ap (λ (ys : List X). v ∷ ys) (join_one xs high w (omega (arith, within)))
  join_two (x ∷ xs) (suc low) (suc high) v w less within = ap (λ (ys : List X). x ∷ ys) (join_two xs low high v w (omega (arith, less)) (omega (arith, within)))

  at_front : (xs : List X) (low high : ℕ) (v : X) → low < high → high < length xs → slice_get xs low ≡ Some (get_or (take high xs) low v)
  at_front [] low high v less within = absurd (omega (arith, within))
  at_front (x ∷ xs) low zero v less within = absurd (omega (arith, less))
  at_front (x ∷ xs) zero (suc high) v less within = refl
  at_front (x ∷ xs) (suc low) (suc high) v less within = at_front xs low high v (omega (arith, less)) (omega (arith, within))

  at_back : (xs : List X) (high : ℕ) (v : X) → high < length xs → slice_get xs high ≡ Some (get_or (drop high xs) 0 v)
  at_back [] high v within = absurd (omega (arith, within))
  at_back (x ∷ xs) zero v within = refl
  at_back (x ∷ xs) (suc high) v within = at_back xs high v (omega (arith, within))

  -- the two parts of a slice of a whole vector
  pub front_part : (xs slice front : List X) (middle high : ℕ) → front ≡ take middle slice → middle ≡ high → slice ≡ xs → front ≡ take high xs
  front_part xs slice front middle high is there whole = is ∙ (λ i. take (there i) (whole i))

  pub back_part : (xs slice back : List X) (middle high : ℕ) → back ≡ drop middle slice → middle ≡ high → slice ≡ xs → back ≡ drop high xs
  back_part xs slice back middle high is there whole = is ∙ (λ i. drop (there i) (whole i))

  -- and that slice, written back
  pub written_back : (count : ℕ) (new xs : List X) → length new ≡ count → take count (new ++ drop (length new) xs) ≡ new
  written_back count new xs same =
      ap (λ (n : ℕ). take n (new ++ drop (length new) xs)) (sym same)
      ∙ take-append-le (length new) new (drop (length new) xs) (omega arith)
      ∙ take_all (length new) new (omega arith)

module _ {T : Type 0} (xs front back : List (Vec T Global)) (low high place : ℕ) (less : low < high) (within : high < length xs) (place_is : place ≡ low)
    (front_is : front ≡ take high xs) (back_is : back ≡ drop high xs) where
  pub lower_row : (v : Vec T Global) → slice_get (rows_of xs) low ≡ Some ((get_or front place v).items)
  lower_row v =
      slice_get-map (λ (list : Vec T Global). list.items) xs low
      ∙ ap (option_map (λ (list : Vec T Global). list.items)) (at_front xs low high v less within)
      ∙ ap (λ (part : List (Vec T Global)). Some ((get_or part low v).items)) (sym front_is)
      ∙ ap (λ (n : ℕ). Some ((get_or front n v).items)) (sym place_is)

  pub higher_row : (v : Vec T Global) → slice_get (rows_of xs) high ≡ Some ((get_or back 0 v).items)
  higher_row v =
      slice_get-map (λ (list : Vec T Global). list.items) xs high
      ∙ ap (option_map (λ (list : Vec T Global). list.items)) (at_back xs high v within)
      ∙ ap (λ (part : List (Vec T Global)). Some ((get_or part 0 v).items)) (sym back_is)

  both_set : (v w : Vec T Global) → set front place v ++ set back 0 w ≡ set (set xs low v) high w
  both_set v w =
      ap (λ (n : ℕ). set front n v ++ set back 0 w) place_is
      ∙ ap (λ (part : List (Vec T Global)). set part low v ++ set back 0 w) front_is
      ∙ ap (λ (part : List (Vec T Global)). set (take high xs) low v ++ set part 0 w) back_is
      ∙ join_two xs low high v w less within

  pub both_rows : (count : ℕ) (v w : Vec T Global) → count ≡ length xs →
      rows_of (take count ((set front place v ++ set back 0 w) ++ drop (length (set front place v ++ set back 0 w)) xs)) ≡ set (set (rows_of xs) low v.items) high w.items
  both_rows count v w full =
      ap rows_of
      (written_back count (set front place v ++ set back 0 w) xs
      (ap length (both_set v w) ∙ length-set (set xs low v) high w ∙ length-set xs low v ∙ sym full)
      ∙ both_set v w)
      ∙ map-set (λ (list : Vec T Global). list.items) (set xs low v) high w
      ∙ ap (λ (rows : List (List T)). set rows high w.items) (map-set (λ (list : Vec T Global). list.items) xs low v)

module _ {T : Type 0} where
  -- what holds of each row of these vectors
  row_was : (xs : List (Vec T Global)) (place : ℕ) (row : List T) → slice_get (rows_of xs) place ≡ Some row → (v : Vec T Global) × (slice_get xs place ≡ Some v) × (v.items ≡ row)
  row_was [] place row at = absurd (cc)
  row_was (v ∷ xs) zero row at = (v, refl, same_Some v.items row at)
  row_was (v ∷ xs) (suc place) row at = row_was xs place row at

  pub rows_all : (P : List T → Type 0) (count : ℕ) (xs : List (Vec T Global)) → length xs ≤ count → All (λ (list : Vec T Global). P list.items) (take count xs) →
      All P (rows_of xs)
  rows_all P count xs most all =
      all_of P (rows_of xs)
      (λ place row at.
      let was = row_was xs place row at in
      subst P was.2
      (all_at (λ (list : Vec T Global). P list.items) xs place was.0
      (subst (All (λ (list : Vec T Global). P list.items)) (take_all count xs most) all) was.1))

  pub rows_count : (xs : List (Vec T Global)) → length (rows_of xs) ≡ length xs
  rows_count xs = length-map xs (λ (list : Vec T Global). list.items)
