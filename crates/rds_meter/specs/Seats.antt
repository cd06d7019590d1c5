-- What a seat of the meter knows, and what each of its steps leaves it with. This project's own.
use Rattle.std.specs.Prelude.{◌≡◌, ℕ, ◌+◌, ◌-◌, ◌==◌, ◌&&◌, nat_lt, nat_le, if◌then◌else◌, Bool, List, [], ◌∷◌, ◌++◌, Option, Some, None}
use Rattle.atomic_table.specs.Seated.{TableId}
use Rattle.rds_seats.specs.Views.{Table}
use Rattle.rds_meter.specs.declared.view.View.{View}
use Rattle.rds_meter.specs.declared.view.Check.{Check}
use Rattle.rds_meter.specs.declared.view.Stage.{Stage}
use Rattle.rds_meter.specs.declared.view.Stage.TheVariants.{Idle, Put, Limited}
use Rattle.rds_meter.specs.declared.view.Step.TheVariants.{Added, Stored, Loaded, Raised, Lowered, Bumped}
use Rattle.rds_meter.specs.declared.mark.Mark.{Mark}
use Rattle.rds_meter.specs.Places.{limit_word, taken_word}

-- a seat, as contracts see it: its meter, the slot that it owns and what it knows
pub record MeterSeat : Type 0 where
  pub table : Table
  pub slot : Option ℕ
  pub view : View

abbrev pub meter_seat : TableId → Option ℕ → View → MeterSeat
meter_seat id slot v = record { table = record { id = id; slots = v.slots }; slot = slot; view = v }

-- the seat after its view became w
abbrev pub knowing : MeterSeat → View → MeterSeat
knowing h w = record { table = h.table; slot = h.slot; view = w }

-- the seat with this slot
abbrev pub owning : MeterSeat → ℕ → MeterSeat
owning h slot = record { table = h.table; slot = Some slot; view = h.view }

-- a seat that stands for so many and may split off so many, and has done nothing
abbrev pub fresh : ℕ → ℕ → ℕ → View
fresh slots weight splits = record { slots = slots; weight = weight; splits = splits; stage = Idle; checks = []; pending = []; steps = [] }

-- the first seat: with those that it splits off there are at most 4,095
abbrev pub first_view : ℕ → View
first_view slots = fresh slots 1 4094

-- a seat that was split off
abbrev pub newcomer : View → View
newcomer v = fresh v.slots 1 0

abbrev pub after_split : View → View
after_split v = record v { splits = v.splits - 1 }

-- the first has also what the second counted, checked and did
abbrev pub joined : View → View → View
joined v w = record v {
  weight = v.weight + w.weight;
  splits = v.splits + w.splits;
  checks = v.checks ++ w.checks;
  pending = v.pending ++ w.pending;
  steps = v.steps ++ w.steps;
}

-- what is left of a seat that was joined into another
abbrev pub spent : View
spent = fresh 0 0 0

-- the word's number as the put word of a slot
abbrev pub is_put_word : ℕ → Bool
is_put_word word = nat_le 2048 word && nat_lt word 3072

-- an addition to a put word begins a check
abbrev pub after_add : View → ℕ → ℕ → ℕ → View
after_add v word amount after = record v {
  stage = if is_put_word word then Put (word - 2048) after else v.stage;
  steps = v.steps ++ Added word amount after ∷ [];
}

abbrev pub after_store : View → ℕ → ℕ → View
after_store v slot limit = record v { steps = v.steps ++ Stored (limit_word slot) limit ∷ [] }

-- a bit has to be raised where a limit was found and put less taken is above it
abbrev pub must_raise : Check → Bool
must_raise c = nat_lt 0 c.limit && nat_lt (c.taken + c.limit) c.put

-- a load of the limit goes on with a check, and a load of the taken word ends it
abbrev pub stage_after : Stage → ℕ → ℕ → Stage
stage_after Idle word found = Idle
stage_after (Put slot put) word found = if word == limit_word slot then Limited slot put found else Put slot put
stage_after (Limited slot put limit) word found = if word == taken_word slot then Idle else Limited slot put limit

-- the check that a load completes
abbrev pub completed : Stage → ℕ → ℕ → Option Check
completed Idle word found = None
completed (Put slot put) word found = None
completed (Limited slot put limit) word found =
    if word == taken_word slot then Some (record { slot = slot; put = put; limit = limit; taken = found; raised = None }) else None

-- a check that has to raise is open
abbrev pub opening : Option Check → List Check
opening None = []
opening (Some c) = if must_raise c then c ∷ [] else []

-- any other is closed
abbrev pub closing : Option Check → List Check
closing None = []
closing (Some c) = if must_raise c then [] else c ∷ []

abbrev pub after_load : View → ℕ → ℕ → View
after_load v word found = record v {
  stage = stage_after v.stage word found;
  checks = v.checks ++ closing (completed v.stage word found);
  pending = opening (completed v.stage word found) ++ v.pending;
  steps = v.steps ++ Loaded word found ∷ [];
}

-- the latest open check is the mark's
abbrev pub OpensWith : View → Mark → Type 0
OpensWith v mark = (slot : ℕ) × (older : List Check) × (v.pending ≡ record { slot = slot; put = mark.put; limit = mark.limit; taken = mark.taken; raised = None } ∷ older)

-- the latest check, closed by raising the bit of the port
abbrev pub raised_by : List Check → ℕ → List Check
raised_by [] port = []
raised_by (c ∷ older) port = record c { raised = Some port } ∷ []

-- the checks that stay open
abbrev pub older_of : List Check → List Check
older_of [] = []
older_of (c ∷ older) = older

abbrev pub after_raise : View → ℕ → View
after_raise v port = record v {
  checks = v.checks ++ raised_by v.pending port;
  pending = older_of v.pending;
  steps = v.steps ++ Raised port ∷ [];
}

abbrev pub after_lower : View → ℕ → View
after_lower v port = record v { steps = v.steps ++ Lowered port ∷ [] }

abbrev pub after_bump : View → ℕ → View
after_bump v after = record v { steps = v.steps ++ Bumped after ∷ [] }
