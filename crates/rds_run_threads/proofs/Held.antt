-- The ends that the lines of hosts hold.
use Rattle.std.proofs.Common.{◌≡◌, ℕ, suc, ◌+◌, List, Vec, [], ◌∷◌, ◌++◌, Some, get_or, slice_get, take, ap, ◌∙◌}
use Rattle.std.specs.Global.{Global}
use Rattle.std.proofs.Math.Seq.{take-suc}
use Rattle.std.proofs.lemmas.List.{map-append}
use Rattle.std.proofs.lemmas.List.Sums.{sum_by_push}
use Rattle.std.proofs.lemmas.Option.{get_or_from_slice_get, slice_get_within}
use Rattle.rds_line.specs.Line.{LineView}
use Rattle.rds_host.specs.Held.{ends_in, ends_of_all}
use Rattle.rds_run_rounds.specs.Grid.{rows_of}

module _ {E M : Type 0} where
  -- those of a host more
  pub rows_more : (rows : List (Vec (LineView E M) Global)) (row : Vec (LineView E M) Global) →
      ends_of_all (rows_of (rows ++ row ∷ [])) ≡ ends_of_all (rows_of rows) + ends_in row.items
  rows_more rows row =
      ap ends_of_all (map-append (λ (v : Vec (LineView E M) Global). v.items) rows (row ∷ [])) ∙ sum_by_push ends_in (rows_of rows) row.items

  -- and those of the first hosts
  pub first_more : (rows : List (List (LineView E M))) (n : ℕ) (row : List (LineView E M)) → slice_get rows n ≡ Some row →
      ends_of_all (take (suc n) rows) ≡ ends_of_all (take n rows) + ends_in row
  first_more rows n row at =
      ap ends_of_all (take-suc rows n row (slice_get_within rows n row at)) ∙ sum_by_push ends_in (take n rows) (get_or rows n row)
      ∙ ap (λ (r : List (LineView E M)). ends_of_all (take n rows) + ends_in r) (get_or_from_slice_get rows n row row at)
