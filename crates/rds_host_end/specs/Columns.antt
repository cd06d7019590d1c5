-- Putters by rows and columns: a row has those of one slot or of one line, and a column those of one queue.
-- Source: this project's own.
use Rattle.std.specs.Prelude.{◌≡◌, ℕ, List, Some, map, slice_get}
use Rattle.std.specs.declared.vec.IntoIter.{IntoIter}
use Rattle.std.specs.Global.{Global}
use Rattle.std.specs.List.{filter_map}
use Rattle.std.specs.Vec.Iter.{into_iter_items}
use Rattle.rds_model.specs.declared.order.Order.{Order}
use Rattle.rds_mail.specs.Passes.{Putter}
use Rattle.rds_socket_parts.specs.Lanes.{Lane}

-- what stands at a place of each row
abbrev pub column : {X : Type 0} → ℕ → List (List X) → List X
column place rows = filter_map (λ row. slice_get row place) rows

-- each value suits the column at its own place
abbrev pub AtEachPlace : {Y X : Type 0} → (Y → List X → Type 0) → List Y → List (List X) → Type 0
AtEachPlace {Y} P values rows = (place : ℕ) (y : Y) → slice_get values place ≡ Some y → P y (column place rows)

-- the putters of a slot's routes
abbrev pub passes_of : {R : Type 0} → List (Lane R) → List (Putter Order)
passes_of routes = map (λ lane. lane.pass) routes

-- what is left of rows
abbrev pub rows_left : {X : Type 0} → List (IntoIter X Global) → List (List X)
rows_left rows = map into_iter_items rows
