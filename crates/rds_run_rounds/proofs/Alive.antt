-- How many numbers are alive in the journals of lines, counted row by row, and that none is where all lines are drained.
use Rattle.std.proofs.Common.{◌≡◌, ◌⊎◌, inl, inr, ◌<◌, ◌≤◌, ◌+◌, ℕ, suc, Bool, true, false, List, [], ◌∷◌, Some, Vec, get_or, length, slice_get, sum_by, take, refl, sym, ap, subst, ◌∙◌, arith}
use Rattle.std.specs.Global.{Global}
use Rattle.std.proofs.lemmas.List.{get_or-map, take_all}
use Rattle.std.proofs.lemmas.List.Sums.{sum_by-cons, sum_by_more}
use Rattle.rds_fmap.specs.Readers.{WriterView}
use Rattle.rds_line.specs.Line.{LineView}
use Rattle.rds_run_rounds.specs.Causes.{alive_in_line, alive_in_row, alive_in_rows}
use Rattle.rds_run_rounds.specs.Drained.{AreDrainedLines}
use Rattle.rds_run_rounds.specs.Grid.{AreRows, IsAt, rows_of}
use Rattle.rds_run_rounds.proofs.Halves.{rows_count}
use Rattle.rds_run_rounds.proofs.Partners.{has_partner}

module _ {T : Type 0} (lists : List (Vec T Global)) (host : ℕ) (list : Vec T Global) (within : host < length lists) (is : list ≡ get_or lists host list) where
  -- the row of a host
  row_is : get_or (rows_of lists) host list.items ≡ list.items
  row_is =
      get_or-map (λ (v : Vec T Global). v.items) lists host list list.items within
      ∙ ap (λ (v : Vec T Global). v.items) (sym is)

  -- it has fewer than eight things where there are at most eight hosts
  pub row_small : (hosts : ℕ) → hosts ≤ 8 → AreRows hosts (rows_of lists) → length list.items < 8
  row_small hosts few shape =
      let count = rows_count lists in
      let one = shape.each host list.items (omega (arith, within, count)) in
      let same = ap length row_is in
      omega (arith, one, same, few)

  -- and is counted after those before it
  pub counted_more : (f : List T → ℕ) → sum_by f (take (host + 1) (rows_of lists)) ≡ sum_by f (take host (rows_of lists)) + f list.items
  counted_more f =
      let count = rows_count lists in
      sum_by_more f (rows_of lists) host list.items (omega (arith, within, count))
      ∙ ap (λ (row : List T). sum_by f (take host (rows_of lists)) + f row) row_is

-- all rows were counted
pub counted_all : {T : Type 0} (lists : List (Vec T Global)) (host : ℕ) (f : List T → ℕ) → length lists ≤ host →
    sum_by f (take host (rows_of lists)) ≡ sum_by f (rows_of lists)
counted_all lists host f past = let count = rows_count lists in ap (sum_by f) (take_all host (rows_of lists) (omega (arith, past, count)))

-- a sum of nothing but noughts
sum_of_none : {T : Type 0} (f : T → ℕ) (xs : List T) → ((place : ℕ) (x : T) → slice_get xs place ≡ Some x → f x ≡ 0) → sum_by f xs ≡ 0
sum_of_none f [] none = refl
sum_of_none f (x ∷ xs) none =
    let all = sum_by-cons f x xs in
    let here = none 0 x refl in
    let rest = sum_of_none f xs (λ place y at. none (suc place) y at) in
    omega (arith, all, here, rest)

module _ {E : Type 0} (hosts : ℕ) (rows : List (List (LineView E WriterView))) (are : AreRows hosts rows) (drained : AreDrainedLines rows) where
  -- a drained line has no number that is alive
  none_in_line : (host place : ℕ) (x : LineView E WriterView) → IsAt rows host place x → alive_in_line x ≡ 0
  none_in_line host place x at = by_partner (has_partner hosts rows are host place x at)
    where
      by_partner :
          ((y : LineView E WriterView) × (host ≤ place) × IsAt rows (suc place) host y)
          ⊎ ((p : ℕ) × (y : LineView E WriterView) × (host ≡ suc p) × (place ≤ p) × IsAt rows place p y) → alive_in_line x ≡ 0
      by_partner (inl found) = ap length (drained host place x found.0 found.1 at found.2).settled.none_alive_a
      by_partner (inr found) =
          ap length (drained place found.0 found.1 x found.3 found.4 (subst (λ (n : ℕ). IsAt rows n place x) found.2 at)).settled.none_alive_b

  -- nor have all of them
  pub none_alive : alive_in_rows rows ≡ 0
  none_alive = sum_of_none alive_in_row rows (λ host row at. sum_of_none alive_in_line row (λ place line at_line. none_in_line host place line (row, at, at_line)))

-- what holds whether or not ends tell their bytes
pub told_or_not : (tells : Bool) (P : Type 0) → (tells ≡ true → P) → (tells ≡ false → P) → P
told_or_not true P told untold = told refl
told_or_not false P told untold = untold refl
