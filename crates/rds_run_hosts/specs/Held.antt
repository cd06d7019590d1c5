-- How many ends of streams were prepared for hosts. Source: this project's own.
use Rattle.std.specs.Prelude.{ℕ, List, Vec, length}
use Rattle.std.specs.Global.{Global}
use Rattle.std.specs.List.{sum_by}

module _ {E : Type 0} where
  -- those of a host, to each other one
  abbrev pub ends_of_row : List (Vec (ℕ × E) Global) → ℕ
  ends_of_row row = sum_by (λ (list : Vec (ℕ × E) Global). length list.items) row

  -- those of all hosts
  abbrev pub ends_prepared : List (List (Vec (ℕ × E) Global)) → ℕ
  ends_prepared rows = sum_by ends_of_row rows
