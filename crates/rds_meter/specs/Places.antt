-- Where the words of a meter stand, and what a seat's steps have added to one of them. This project's own.
use Rattle.std.specs.Prelude.{ℕ, ◌+◌, ◌*◌, ◌/◌, ◌%◌, ◌^◌, ◌==◌, if◌then◌else◌, List, [], ◌∷◌}
use Rattle.rds_meter.specs.declared.view.Step.{Step}
use Rattle.rds_meter.specs.declared.view.Step.TheVariants.{Added, Stored, Loaded, Raised, Lowered, Bumped}

abbrev pub limit_word : ℕ → ℕ
limit_word slot = slot

abbrev pub freed_word : ℕ → ℕ
freed_word slot = 1024 + slot

abbrev pub put_word : ℕ → ℕ
put_word slot = 2048 + slot

abbrev pub taken_word : ℕ → ℕ
taken_word slot = 3072 + slot

-- port p is bit p mod 64 of word p div 64 of the map
abbrev pub map_word : ℕ → ℕ
map_word port = 4096 + port / 64

abbrev pub change_word : ℕ
change_word = 5120

-- the port's bit alone, as a word of 64 bits
abbrev pub mask_of : ℕ → ℕ
mask_of port = 1 * 2 ^ (port % 64) % 2 ^ 64

-- what a step added to the word
abbrev pub amount_in : ℕ → Step → ℕ
amount_in w (Added word amount after) = if word == w then amount else 0
amount_in w (Stored word limit) = 0
amount_in w (Loaded word found) = 0
amount_in w (Raised port) = 0
amount_in w (Lowered port) = 0
amount_in w (Bumped after) = 0

-- what the steps have added to the word
abbrev pub part : ℕ → List Step → ℕ
part w [] = 0
part w (s ∷ steps) = amount_in w s + part w steps
