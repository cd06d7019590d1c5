-- What a writer and a reader of two copies know, and what each step leaves them with. This project's own.
use Rattle.std.specs.Prelude.{◌≡◌, ◌⊎◌, ℕ, ◌≤◌, List, [], ◌∷◌, ◌++◌, Contains}
use Rattle.rds_cong.specs.Map.{no_ports, has_port}
use Rattle.rds_fmap.specs.declared.seen.Seen.{Seen}
use Rattle.rds_fmap.specs.declared.copies.shown.Shown.{Shown}
use Rattle.rds_fmap.specs.declared.copies.view.View.{View}

-- who has published nothing and entered nowhere
abbrev pub newcomer : View
newcomer = record { published = []; found = [] }

-- version 0 has every port clear
abbrev pub first_shown : Shown
first_shown = record { version = 0; map = no_ports }

-- an entry found y: what earlier entries have found is no newer, and is the same map where it is the same version
abbrev pub entered : View → Shown → Shown → View → Type 0
entered v x y w = (w ≡ record v { found = v.found ++ y ∷ [] }) × (y.version ≡ 0 → y ≡ first_shown)
    × ((e : Shown) → Contains v.found e → (e.version ≤ y.version) × (e.version ≡ y.version → y ≡ e))

abbrev pub published : View → Shown → Shown → View → Type 0
published v x y w = w ≡ record v { published = v.published ++ y.map ∷ [] }

-- a reader: what its entries have found, and its copy
pub record CopyReaderView : Type 0 where
  pub found : List Shown
  pub copy : Shown

abbrev pub copy_reader_view : View → Shown → CopyReaderView
copy_reader_view v copy = record { found = v.found; copy = copy }

-- version 0 or one that an entry has found
abbrev pub IsFound : List Shown → Shown → Type 0
IsFound found e = (e ≡ first_shown) ⊎ Contains found e

-- one that was found, and none that was found is newer
pub record IsLatest (found : List Shown) (copy : Shown) : Type 0 where
  pub found_is : IsFound found copy
  pub newest : (e : Shown) → Contains found e → e.version ≤ copy.version

-- an entry found what is now the copy, or was refused and changed nothing
pub record TakesCopy (v : View) (old : Shown) (w : View) (new : Shown) : Type 0 where
  pub step : (w ≡ record v { found = v.found ++ new ∷ [] }) ⊎ ((w ≡ v) × (new ≡ old))
  pub latest : IsLatest w.found new
  pub later : (e : Shown) → IsFound v.found e → e.version ≤ new.version

-- what a version says of a port
abbrev pub seen_of : Shown → ℕ → Seen
seen_of e port = record { version = e.version; set = has_port e.map port }

abbrev pub HasSeen : CopyReaderView → ℕ → Seen → Type 0
HasSeen r port seen = (e : Shown) × IsFound r.found e × (seen ≡ seen_of e port)

-- one entry, which found what is then the copy, or was refused; the answer is the copy's
abbrev pub IsLook : CopyReaderView → CopyReaderView → ℕ → Seen → Type 0
IsLook old new port seen = ((new.found ≡ old.found ++ new.copy ∷ []) ⊎ (new ≡ old)) × (seen ≡ seen_of new.copy port)

-- what a look leaves a reader with, and answers
pub record LookDone (old new : CopyReaderView) (port : ℕ) (seen : Seen) : Type 0 where
  pub look : IsLook old new port seen
  pub now : HasSeen new port seen
  pub kept : (p : ℕ) (s : Seen) → HasSeen old p s → HasSeen new p s
  pub later : (p : ℕ) (s : Seen) → HasSeen old p s → s.version ≤ seen.version
