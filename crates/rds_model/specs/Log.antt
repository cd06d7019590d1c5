-- What contracts see of a journal. This project's own.
use Rattle.std.specs.Prelude.{ℕ, List}
use Rattle.rds_model.specs.declared.entry.Entry.{Entry}

-- the past, newest entry first; for how many more entries there is room; and how many there may be in all
pub record Log : Type 0 where
  pub past : List Entry
  pub spare : ℕ
  pub limit : ℕ
