-- What an end knows of the two words of its stream, and what each of its steps leaves it with. This project's own.
use Rattle.std.specs.Prelude.{◌≡◌, ◌≢◌, ℕ, ◌-◌, ◌≤◌, ◌==◌, if◌then◌else◌, true, false}
use Rattle.atomic_table.specs.Seated.{TableId}
use Rattle.rds_link.specs.declared.words.view.View.{View}

-- a seat, as contracts see it: which two words, and what it knows of them
pub record StreamSeat : Type 0 where
  pub words : TableId
  pub view : View

-- the seat after its view became w
abbrev pub knowing : StreamSeat → View → StreamSeat
knowing s w = record { words = s.words; view = w }

-- a view of these two words that knows of no shut
abbrev pub fresh : ℕ → ℕ → ℕ → View
fresh number draws floor = record { number = number; draws = draws; floor = floor; first = 0; told = 0; shut = false }

-- the first view may draw twice
abbrev pub first_view : View
first_view = fresh 0 2 0

-- a view that gave one of its draws away
abbrev pub kept_half : View → View
kept_half v = record v { draws = v.draws - 1 }

-- the view that was given the draw
abbrev pub given_half : View → View
given_half v = fresh 0 1 v.number

-- this number was drawn
abbrev pub after_draw : View → ℕ → View
after_draw v number = record v { number = number; draws = v.draws - 1 }

-- a load of the second word found this number
abbrev pub after_look : View → ℕ → View
after_look v found = record v { first = found }

-- the exchange found this number, and wrote the end's own where it was 0
abbrev pub after_shut : View → ℕ → View
after_shut v found = record v { first = if found == 0 then v.number else found; shut = true }

-- what an end tells of the end that shut first
abbrev pub note_of : View → View
note_of v = record { number = 0; draws = 0; floor = 0; first = v.first; told = 0; shut = false }

-- an end that was told
abbrev pub heard : View → View → View
heard v w = record v { told = w.first }

-- what is left of a view that was joined into another
abbrev pub spent : View
spent = fresh 0 0 0

-- a number that was found in the second word fits what the end knew
pub record FitsKnown (v : View) (found : ℕ) : Type 0 where
  -- it is 0 or one of the two numbers
  pub few : found ≤ 2
  -- it never changes once it isn't 0
  pub same : 1 ≤ v.first → found ≡ v.first
  pub told : 1 ≤ v.told → found ≡ v.told
  -- it is the end's own only where the end has shut
  pub own : 1 ≤ v.number → v.number ≡ found → v.shut ≡ true

-- what every end of a stream knows: its number, and one of an end that has shut where it has
abbrev pub IsEnd : View → Type 0
IsEnd v = (1 ≤ v.number) × (v.number ≤ 2) × (v.shut ≡ true → 1 ≤ v.first)

-- the end knows that the other end shut first
abbrev pub KnowsOther : View → Type 0
KnowsOther v = (1 ≤ v.first) × (v.first ≢ v.number)
