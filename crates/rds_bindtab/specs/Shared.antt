-- What holds of the port table between any two atomic steps. This project's own.
use Rattle.std.specs.Prelude.{◌≡◌, ◌≢◌, ◌↔◌, ℕ, ◌+◌, ◌*◌, ◌<◌, ◌≤◌, List, length, slice_index, Some, Option, Contains}
use Rattle.atomic_table.specs.Table.{State}
use Rattle.rds_seats.specs.Views.{At, Has, Each, total}
use Rattle.rds_bindtab.specs.declared.view.View.{View}
use Rattle.rds_bindtab.specs.declared.view.Telling.{Telling}
use Rattle.rds_bindtab.specs.declared.view.Step.TheVariants.{Claimed, Looked}

-- the seat of this slot holds this port
abbrev pub HoldsPort : ℕ → ℕ → View → Type 0
HoldsPort port slot v = (v.slot ≡ Some slot) × (v.port ≡ Some port)

-- a claim of the port by the seat of the slot is among its steps, and it found the port free
abbrev pub HasClaimed : ℕ → ℕ → View → Type 0
HasClaimed port slot v = Contains v.steps (Claimed port slot 0)

-- the slot was drawn, and if some seat still has it, this holds of that seat
abbrev pub OfHolder : ℕ → List View → ℕ → (View → Type 0) → Type 0
OfHolder draws views slot P = (slot < draws) × Each views (λ h. h.slot ≡ Some slot → P h)

-- the holder has released no fewer ports than the telling says, and while it is as many, it holds that port
abbrev pub TellingStands : ℕ → List View → Telling → Type 0
TellingStands draws views t = OfHolder draws views t.slot (λ h. (t.releases ≤ h.releases) × (h.releases ≡ t.releases → h.port ≡ Some t.port))

-- the holder has released more ports than the telling says
abbrev pub TellingIsOver : ℕ → List View → Telling → Type 0
TellingIsOver draws views t = OfHolder draws views t.slot (λ h. t.releases < h.releases)

-- a look found a slot only where some seat claimed the port for it, and the holder of that slot has; and where it didn't find the slot that it had been told of, that telling is over
pub record LooksFit (draws : ℕ) (views : List View) (port : ℕ) (found : Option ℕ) (told : List Telling) : Type 0 where
  pub claimed : (slot : ℕ) → found ≡ Some slot → Has views (HasClaimed port slot)
  pub owned : (slot : ℕ) → found ≡ Some slot → OfHolder draws views slot (HasClaimed port slot)
  pub past : (t : Telling) → Contains told t → t.port ≡ port → found ≢ Some t.slot → TellingIsOver draws views t

-- the seat counts for all 4,095, so that no other can draw
abbrev pub IsAlone : View → Type 0
IsAlone v = v.weight + v.splits ≡ 4095

-- the words and the views of all seats and notes of a table with so many slots
pub record Shared (slots : ℕ) (words : List ℕ) (views : List View) : Type 0 where
  -- one word for each port, and one that numbers slots
  pub size : length words ≡ 65537
  -- a port's word is 1 + s exactly where the seat of slot s holds the port; so it is 0 where no seat does
  pub ports : (port slot : ℕ) → port < 65536 → (slice_index words port ≡ 1 + slot) ↔ Has views (HoldsPort port slot)
  -- the last word is the number of all draws
  pub drawn : slice_index words 65536 ≡ total (λ v. v.draws) views
  -- no two seats have one slot
  pub apart : (i j : ℕ) (v w : View) (slot : ℕ) → At views i v → At views j w → v.slot ≡ Some slot → w.slot ≡ Some slot → i ≡ j
  -- each slot was drawn, and is one of the table's
  pub below : Each views (λ v. (slot : ℕ) → v.slot ≡ Some slot → (slot < slice_index words 65536) × (slot < slots))
  -- who holds a port has claimed it
  pub claimed : Each views (λ v. (port slot : ℕ) → HoldsPort port slot v → HasClaimed port slot v)
  -- each telling stands
  pub told : Each views (λ v. (t : Telling) → Contains v.told t → TellingStands (slice_index words 65536) views t)
  -- each look fits
  pub looked : Each views (λ v. (port : ℕ) (found : Option ℕ) (told : List Telling) → Contains v.steps (Looked port found told) → LooksFit (slice_index words 65536) views port found told)
  -- the seats number 4,095, those that may still be split off among them
  pub seated : total (λ v. v.weight + v.splits) views ≡ 4095
  -- a seat draws at most 2^31 times
  pub few : Each views (λ v. v.draws ≤ v.weight * 2147483648)

-- the rule of a table with so many slots
abbrev pub Ruled : ℕ → State (Unit {0}) View → Type 0
Ruled slots s = Shared slots s.words s.views

-- there are words and views that keep the rule, and one of these views is v
abbrev pub Taught : ℕ → View → Type 0
Taught slots v = (words : List ℕ) × (views : List View) × Shared slots words views × Has views (λ w. w ≡ v)
