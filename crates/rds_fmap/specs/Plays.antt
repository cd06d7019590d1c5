-- What each kind of step leaves its seat with, by the number that it found. This project's own.
use Rattle.std.specs.Prelude.{◌≡◌, ℕ, ◌≤◌, true, Contains}
use Rattle.atomic_table.specs.Table.{Me, Step}
use Rattle.rds_fmap.specs.Shared.{IsWordOf}
use Rattle.rds_fmap.specs.Views.{version_in, maps_begun, after_put, after_look}
use Rattle.rds_fmap.specs.declared.words.view.View.{View}
use Rattle.rds_fmap.specs.declared.words.view.Look.{Look}

abbrev pub Seated : Type 0
Seated = Me (Unit {0}) View

abbrev pub put : Step (Unit {0}) → Seated → ℕ → Seated → Type 0
put s me found now = now ≡ (after_put me.0 s.first, me.1)

-- what it finds is no older than what earlier looks at the word have found
abbrev pub looked : Step (Unit {0}) → Seated → ℕ → Seated → Type 0
looked s me found now = (now ≡ (after_look me.0 s.word found, me.1)) × ((l : Look) → Contains me.0.looks l → l.word ≡ s.word → version_in l.number ≤ version_in found)

-- the writer learns that all its looks, those joined into it among them, found words of its maps
abbrev pub learned : Step (Unit {0}) → Seated → ℕ → Seated → Type 0
learned s me found now = (now ≡ me) × (me.0.writes ≡ true → (l : Look) → Contains me.0.looks l → IsWordOf (maps_begun me.0) l.word l.number)
