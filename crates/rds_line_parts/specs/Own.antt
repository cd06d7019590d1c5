-- How a line reads its host's own congestion map. Source: this project's own.
use Rattle.std.specs.Prelude.{◌≡◌, ◌≢◌, ℕ, ◌+◌, ◌<◌, ◌==◌, if◌then◌else◌, Bool, true, false, List, [], ◌∷◌, length, slice_index, Option, Some, None}
use Rattle.rds_cong.specs.Map.{word_at}
use Rattle.rds_cong.specs.declared.map.TheConstants.{WORDS}
use Rattle.rds_meter.specs.declared.view.Step.{Step}
use Rattle.rds_meter.specs.declared.view.Step.TheVariants.{Added, Stored, Loaded, Raised, Lowered, Bumped}
use Rattle.rds_meter.specs.Places.{change_word}
use Rattle.rds_meter.specs.Seats.{MeterSeat, knowing}
use Rattle.rds_line_parts.specs.Words.{after_steps}

-- the map as it was last read, and the change number that was found before
pub record Own : Type 0 where
  pub map : List ℕ
  pub change : Option ℕ

-- word i of the map, as the meter counts its words
abbrev pub own_word : ℕ → ℕ
own_word i = 4096 + i

-- one load of each word of the map from word i on, which found these
abbrev pub loads_from : ℕ → List ℕ → List Step
loads_from i [] = []
loads_from i (word ∷ words) = Loaded (own_word i) word ∷ loads_from (i + 1) words

-- the map has these words, and no other
pub record HasWords (map words : List ℕ) : Type 0 where
  pub count : length words ≡ WORDS
  pub each : (i : ℕ) → i < WORDS → word_at map i ≡ slice_index words i

-- the change number was loaded, and then these words of the map, which has them if they were read
pub record IsRefresh (old new : Own) (seat after : MeterSeat) (read : Bool) : Type 0 where
  pub number : ℕ
  pub words : List ℕ
  pub steps : after ≡ knowing seat (after_steps seat.view (Loaded change_word number ∷ loads_from 0 words))
  pub change : new.change ≡ Some number
  -- no word was loaded only where the number is the one that was found before the last reading
  pub same : read ≡ false → (old.change ≡ Some number) × (words ≡ []) × (new.map ≡ old.map)
  -- all words were loaded only where it isn't
  pub other : read ≡ true → (old.change ≢ Some number) × HasWords new.map words

-- what a step found of this word, if it loaded it
abbrev pub found_of : ℕ → Step → Option ℕ
found_of w (Loaded word found) = if word == w then Some found else None
found_of w (Added word amount after) = None
found_of w (Stored word limit) = None
found_of w (Raised port) = None
found_of w (Lowered port) = None
found_of w (Bumped after) = None

-- the newer of two finds
abbrev pub newer : Option ℕ → Option ℕ → Option ℕ
newer None older = older
newer (Some found) older = Some found

-- what the last load of this word found, if there was one
abbrev pub last_found : ℕ → List Step → Option ℕ
last_found w [] = None
last_found w (step ∷ steps) = newer (last_found w steps) (found_of w step)

-- once the map was read, each of its words is what the last load of that word found
abbrev pub IsAsRead : Own → List Step → Type 0
IsAsRead own steps = (number : ℕ) → own.change ≡ Some number → (i : ℕ) → i < WORDS → last_found (own_word i) steps ≡ Some (word_at own.map i)
