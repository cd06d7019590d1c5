-- The published maps of a host by their versions. This project's own.
use Rattle.std.specs.Prelude.{◌≡◌, ℕ, List, ◌∷◌, Some, slice_get}
use Rattle.rds_cong.specs.Map.{no_ports, has_port}
use Rattle.rds_fmap.specs.declared.seen.Seen.{Seen}

-- version 0 has every port clear, and version v is the v-th map published
abbrev pub IsVersion : List (List ℕ) → ℕ → List ℕ → Type 0
IsVersion published version map = slice_get (no_ports ∷ published) version ≡ Some map

-- what was seen of a port is its bit in the map of that version
abbrev pub IsSeenIn : List (List ℕ) → ℕ → Seen → Type 0
IsSeenIn published port seen = (map : List ℕ) × IsVersion published seen.version map × (seen.set ≡ has_port map port)
