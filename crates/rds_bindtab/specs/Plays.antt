-- What each kind of step on the port table leaves its seat with, by the number that it found.
use Rattle.std.specs.Prelude.{◌≡◌, ◌<◌, ℕ, Some}
use Rattle.atomic_table.specs.Table.{Me, Step}
use Rattle.rds_bindtab.specs.declared.view.View.{View}
use Rattle.rds_bindtab.specs.Seats.{after_draw, after_exchange, after_release, after_look, slot_in}
use Rattle.rds_bindtab.specs.Shared.{Taught, IsAlone}

abbrev pub Seated : Type 0
Seated = Me (Unit {0}) View

-- where no other seat can draw, the number drawn is how often the seat has drawn before
abbrev pub drew : Step (Unit {0}) → Seated → ℕ → Seated → Type 0
drew s me found now = (now ≡ (after_draw me.0 found, me.1)) × (IsAlone me.0 → found ≡ me.0.draws)

abbrev pub exchanged : Step (Unit {0}) → Seated → ℕ → Seated → Type 0
exchanged s me found now = now ≡ (after_exchange me.0 s.word found, me.1)

abbrev pub released : Step (Unit {0}) → Seated → ℕ → Seated → Type 0
released s me stored now = now ≡ (after_release me.0, me.1)

-- a slot that is found is one of the table's
abbrev pub looked : Step (Unit {0}) → Seated → ℕ → Seated → Type 0
looked s me found now = (now ≡ (after_look me.0 s.word (slot_in found), me.1)) × ((slot : ℕ) → slot_in found ≡ Some slot → slot < me.0.slots)

abbrev pub learned : Step (Unit {0}) → Seated → ℕ → Seated → Type 0
learned s me found now = (now ≡ me) × Taught me.0.slots me.0
