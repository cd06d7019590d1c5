-- The command line of `play`. Source: this project's own.
use Rattle.std.specs.Prelude.{◌≡◌, ℕ, List, [], map, codes, String, string_bytes, slice_get, Some}
use Rattle.std.specs.Global.{Global}
use Rattle.clap.specs.Words.{Kinds, new_app, fault_of}

-- what the crate `clap` finds wrong with the words of the command `play`, which has no arguments
unfoldable pub play_faults : List (List ℕ) → Kinds
play_faults words = fault_of (new_app (codes "play")) words

-- the words are those of `play`: its name comes first, and `clap` finds nothing wrong
abbrev pub ArePlay : List (String Global) → Type 0
ArePlay words = (slice_get (map string_bytes words) 0 ≡ Some (codes "play")) × (play_faults (map string_bytes words) ≡ [])
