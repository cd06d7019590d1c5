-- What holds of the two copies of a map at any moment. This project's own.
use Rattle.std.specs.Prelude.{◌≡◌, ℕ, ◌≤◌, List, ◌++◌, length, Contains}
use Rattle.rds_seats.specs.Views.{Each}
use Rattle.rds_fmap.specs.Versions.{IsVersion}
use Rattle.rds_fmap.specs.declared.copies.shown.Shown.{Shown}
use Rattle.rds_fmap.specs.declared.copies.view.View.{View}

-- the map that is shown, and all views
pub record IsShown (shown : Shown) (views : List View) : Type 0 where
  -- the maps that were published
  pub maps : List (List ℕ)
  pub count : length maps ≡ shown.version
  pub last : IsVersion maps shown.version shown.map
  -- what a view has published are the first of them
  pub first : Each views (λ v. (rest : List (List ℕ)) × (maps ≡ v.published ++ rest))
  -- what an entry has found is a map of its version, and no newer than what is shown
  pub found : Each views (λ v. (e : Shown) → Contains v.found e → (e.version ≤ shown.version) × IsVersion maps e.version e.map)
