-- What a seat of the port table knows, and what each of its steps leaves it with. This project's own.
use Rattle.std.specs.Prelude.{ℕ, suc, zero, ◌+◌, ◌-◌, ◌==◌, nat_lt, if◌then◌else◌, List, [], ◌∷◌, ◌++◌, Option, Some, None, unwrap_or}
use Rattle.atomic_table.specs.Seated.{TableId}
use Rattle.rds_seats.specs.Views.{Table}
use Rattle.rds_bindtab.specs.declared.view.View.{View}
use Rattle.rds_bindtab.specs.declared.view.Telling.{Telling}
use Rattle.rds_bindtab.specs.declared.view.Step.{Step}
use Rattle.rds_bindtab.specs.declared.view.Step.TheVariants.{Drew, Claimed, Released, Looked}

-- a seat, as contracts see it: its table and what it knows
pub record PortSeat : Type 0 where
  pub table : Table
  pub view : View

abbrev pub port_seat : TableId → View → PortSeat
port_seat id v = record { table = record { id = id; slots = v.slots }; view = v }

-- the seat after its view became w
abbrev pub knowing : PortSeat → View → PortSeat
knowing h w = record { table = h.table; view = w }

-- a seat that may split off so many, and has done nothing
abbrev pub fresh : ℕ → ℕ → View
fresh slots splits = record { slots = slots; slot = None; port = None; weight = 1; splits = splits; draws = 0; releases = 0; told = []; steps = [] }

-- the first seat: with those that it splits off there are at most 4,095
abbrev pub first_view : ℕ → View
first_view slots = fresh slots 4094

-- a seat that was split off
abbrev pub newcomer : View → View
newcomer v = fresh v.slots 0

abbrev pub after_split : View → View
after_split v = record v { splits = v.splits - 1 }

-- a seat after its slot went to another
abbrev pub without_slot : View → View
without_slot v = record v { slot = None }

-- the seat that takes the slot over: it knows what the first one knew, and neither draws nor splits
abbrev pub with_slot_of : View → View
with_slot_of v = record v { weight = 0; splits = 0; draws = 0 }

-- the slot of a seat that has one
abbrev pub slot_of : View → ℕ
slot_of v = unwrap_or v.slot 0

-- the port of a seat that holds one
abbrev pub port_of : View → ℕ
port_of v = unwrap_or v.port 0

-- the number found is the seat's slot, if the table has that slot
abbrev pub after_draw : View → ℕ → View
after_draw v found = record v {
  slot = if nat_lt found v.slots then Some found else None;
  draws = v.draws + 1;
  steps = v.steps ++ Drew found ∷ [];
}

-- the exchange found a number, and the seat holds the port if it was 0
abbrev pub after_exchange : View → ℕ → ℕ → View
after_exchange v port found = record v {
  port = if found == 0 then Some port else None;
  steps = v.steps ++ Claimed port (slot_of v) found ∷ [];
}

abbrev pub after_release : View → View
after_release v = record v {
  port = None;
  releases = v.releases + 1;
  steps = v.steps ++ Released (port_of v) ∷ [];
}

abbrev pub after_look : View → ℕ → Option ℕ → View
after_look v port found = record v { steps = v.steps ++ Looked port found v.told ∷ [] }

-- what the holder of a port can tell
abbrev pub telling_of : View → Telling
telling_of v = record { port = port_of v; slot = slot_of v; releases = v.releases }

-- a note with these tellings and steps, which stands for no seat
abbrev pub note_with : ℕ → List Telling → List Step → View
note_with slots told steps = record { slots = slots; slot = None; port = None; weight = 0; splits = 0; draws = 0; releases = 0; told = told; steps = steps }

-- a note of the port that the seat holds
abbrev pub note_of : View → View
note_of v = note_with v.slots (telling_of v ∷ []) []

-- a note of the steps of the seat
abbrev pub note_of_steps : View → View
note_of_steps v = note_with v.slots [] v.steps

-- the first keeps its slot and its port, and has also what the second counted, was told and did
abbrev pub joined : View → View → View
joined v w = record v {
  weight = v.weight + w.weight;
  splits = v.splits + w.splits;
  draws = v.draws + w.draws;
  told = v.told ++ w.told;
  steps = v.steps ++ w.steps;
}

-- what is left of a seat or a note that was joined into another
abbrev pub spent : View
spent = note_with 0 [] []

-- the slot that a port's word names
abbrev pub slot_in : ℕ → Option ℕ
slot_in zero = None
slot_in (suc slot) = Some slot
