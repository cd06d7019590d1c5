-- What holds of the words of a pair between any two atomic steps. This project's own.
use Rattle.std.specs.Prelude.{◌≡◌, ℕ, ◌+◌, ◌*◌, ◌<◌, ◌≤◌, nat_lt, if◌then◌else◌, true, List, length, slice_get, slice_index, Some, Contains}
use Rattle.atomic_table.specs.Table.{State}
use Rattle.rds_seats.specs.Views.{At, Each}
use Rattle.rds_cong.specs.Halves.{HasPortsAt}
use Rattle.rds_fmap.specs.Views.{version_in, maps_begun}
use Rattle.rds_fmap.specs.declared.words.view.View.{View}
use Rattle.rds_fmap.specs.declared.words.view.Look.{Look}

-- the number has the ports of word j in the map of its version, as far as that map was put
pub record IsWordOf (maps : List (List ℕ)) (j number : ℕ) : Type 0 where
  pub map : List ℕ
  pub version : slice_get maps (version_in number) ≡ Some map
  pub put : 4 * j + 4 ≤ length map
  pub ports : HasPortsAt map j number

-- a word that was put already has the version in progress, any other the last that was finished
abbrev pub version_at : View → ℕ → ℕ
version_at w j = if nat_lt j (length w.part) then length w.published + 1 else length w.published

-- what a look found is the word of its version, which isn't above the word's version now
pub record IsLookOf (words : List ℕ) (maps : List (List ℕ)) (l : Look) : Type 0 where
  pub word : IsWordOf maps l.word l.number
  pub version : version_in l.number ≤ version_in (slice_index words l.word)

-- the words and the views of all seats, of which the one at this place writes
pub record Shared (words : List ℕ) (views : List View) (place : ℕ) (writer : View) : Type 0 where
  pub size : length words ≡ 2048
  pub here : At views place writer
  pub writes : writer.writes ≡ true
  -- no other seat writes
  pub one : (i : ℕ) (v : View) → At views i v → v.writes ≡ true → i ≡ place
  pub unfinished : length writer.part < 2048
  -- each word has the ports of its version
  pub words_are : (j : ℕ) → j < 2048 → IsWordOf (maps_begun writer) j (slice_index words j) × (version_in (slice_index words j) ≡ version_at writer j)
  -- and so has what a look found
  pub looks_are : Each views (λ v. (l : Look) → Contains v.looks l → IsLookOf words (maps_begun writer) l)

-- the rule of a pair
abbrev pub Ruled : State (Unit {0}) View → Type 0
Ruled s = (place : ℕ) × (writer : View) × Shared s.words s.views place writer
