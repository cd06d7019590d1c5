-- What holds of the two words of a stream between any two atomic steps. This project's own.
use Rattle.std.specs.Prelude.{◌≡◌, ℕ, ◌+◌, ◌≤◌, List, length, slice_index, true}
use Rattle.atomic_table.specs.Table.{State}
use Rattle.rds_seats.specs.Views.{At, Each, total}
use Rattle.rds_link.specs.declared.words.view.View.{View}

-- a view fits the number of draws and the number of the end that shut first
pub record Fits (drawn first : ℕ) (v : View) : Type 0 where
  -- its number was drawn, and so was the number below which it can't draw
  pub number : v.number ≤ drawn
  pub floor : v.floor ≤ drawn
  -- what it knows of the second word is what stands there
  pub known : 1 ≤ v.first → v.first ≡ first
  pub told : 1 ≤ v.told → v.told ≡ first
  -- the end that shut first has shut
  pub own : 1 ≤ v.number → v.number ≡ first → v.shut ≡ true

-- the two words, and the views of both ends and of what they tell each other
pub record Shared (words : List ℕ) (views : List View) : Type 0 where
  pub size : length words ≡ 2
  -- two draws are made or left
  pub drawn : slice_index words 0 + total (λ v. v.draws) views ≡ 2
  -- no two views have one number
  pub apart : (i j : ℕ) (v w : View) → At views i v → At views j w → 1 ≤ v.number → w.number ≡ v.number → i ≡ j
  -- the end that shut first has drawn its number
  pub named : slice_index words 1 ≤ slice_index words 0
  pub fits : Each views (Fits (slice_index words 0) (slice_index words 1))

abbrev pub Ruled : State (Unit {0}) View → Type 0
Ruled s = Shared s.words s.views
