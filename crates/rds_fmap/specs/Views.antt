-- What a seat of a pair knows, and what each of its steps leaves it with. This project's own.
use Rattle.std.specs.Prelude.{ℕ, ◌%◌, ◌/◌, ◌^◌, ◌==◌, if◌then◌else◌, true, false, List, [], ◌∷◌, ◌++◌, length}
use Rattle.rds_cong.specs.Map.{no_ports}
use Rattle.rds_cong.specs.Halves.{bytes_of_halves}
use Rattle.rds_fmap.specs.declared.words.view.View.{View}

-- a word's version is its upper half
abbrev pub version_in : ℕ → ℕ
version_in number = number / 2 ^ 32

-- the maps by version, the last of them as far as it was put
abbrev pub maps_begun : View → List (List ℕ)
maps_begun v = no_ports ∷ v.published ++ bytes_of_halves v.part ∷ []

-- the writer's seat at first
abbrev pub first_view : View
first_view = record { writes = true; published = []; part = []; looks = [] }

-- a seat that has put nothing and found nothing, and what is left of one that was joined into another
abbrev pub spent : View
spent = record { writes = false; published = []; part = []; looks = [] }

abbrev pub as_before : View → View
as_before v = v

abbrev pub newcomer : View → View
newcomer v = spent

-- the first has also what the second found
abbrev pub joined : View → View → View
joined v w = record v { looks = v.looks ++ w.looks }

-- the lower half of a number is put, and with the last of 2,048 the map is published
abbrev pub after_put : View → ℕ → View
after_put v number =
    if length v.part == 2047 then (record v { published = v.published ++ bytes_of_halves (v.part ++ number % 2 ^ 32 ∷ []) ∷ []; part = [] })
    else (record v { part = v.part ++ number % 2 ^ 32 ∷ [] })

abbrev pub after_look : View → ℕ → ℕ → View
after_look v word number = record v { looks = v.looks ++ record { word = word; number = number } ∷ [] }
