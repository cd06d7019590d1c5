-- What each kind of step on the two words of a stream leaves its seat with, by the number that it found.
use Rattle.std.specs.Prelude.{◌≡◌, ℕ, ◌+◌, ◌≤◌}
use Rattle.atomic_table.specs.Table.{Me, Step}
use Rattle.rds_link.specs.declared.words.view.View.{View}
use Rattle.rds_link.specs.Seats.{after_draw, after_look, after_shut, FitsKnown}

abbrev pub Seated : Type 0
Seated = Me (Unit {0}) View

-- the number drawn is one above the number found, which is no less than the floor and leaves room for the draws that the seat had
abbrev pub drew : Step (Unit {0}) → Seated → ℕ → Seated → Type 0
drew s me found now = (now ≡ (after_draw me.0 (found + 1), me.1)) × (me.0.floor ≤ found) × (found + me.0.draws ≤ 2)

abbrev pub looked : Step (Unit {0}) → Seated → ℕ → Seated → Type 0
looked s me found now = (now ≡ (after_look me.0 found, me.1)) × FitsKnown me.0 found

abbrev pub shut : Step (Unit {0}) → Seated → ℕ → Seated → Type 0
shut s me found now = (now ≡ (after_shut me.0 found, me.1)) × FitsKnown me.0 found

abbrev pub learned : Step (Unit {0}) → Seated → ℕ → Seated → Type 0
learned s me found now = (now ≡ me) × FitsKnown me.0 found
