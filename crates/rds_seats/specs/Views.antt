-- What the seats at a table know, as one list: the view of each seat stands at the seat's place. This project's own.
use Rattle.std.specs.Prelude.{◌≡◌, ℕ, ◌+◌, List, [], ◌∷◌}
use mathlib.Core.Option.{some}
use lib.ListN.{get_elem?}
use Rattle.atomic_table.specs.Seated.{TableId}

-- one table: what no other table has, and how many slots it serves
pub record Table : Type 0 where
  pub id : TableId
  pub slots : ℕ

-- the seat at this place knows v
abbrev pub At : {V : Type 0} → List V → ℕ → V → Type 0
At views place v = get_elem? views place ≡ some v

-- some seat knows such a thing
abbrev pub Has : {V : Type 0} → List V → (V → Type 0) → Type 0
Has {V} views P = (place : ℕ) × (v : V) × At views place v × P v

-- each seat knows such a thing
abbrev pub Each : {V : Type 0} → List V → (V → Type 0) → Type 0
Each {V} views P = (place : ℕ) (v : V) → At views place v → P v

-- a number of each seat, added up
abbrev pub total : {V : Type 0} → (V → ℕ) → List V → ℕ
total f [] = 0
total f (v ∷ views) = f v + total f views
