-- The command line of `run`. Source: this project's own.
use Rattle.std.specs.Prelude.{◌≡◌, ℕ, List, [], Option, Some, None, map, codes, String, string_bytes, slice_get}
use Rattle.std.specs.Global.{Global}
use Rattle.clap.specs.Words.{App, Kinds, Rule, new_app, new_rule, with_rule, fault_of, first_of, matches_of}
use Rattle.clap.specs.declared.builder.action.ArgAction.TheVariants.{Set}
use Rattle.rds_run.specs.declared.wire.RunWire.{RunWire}
use Rattle.rds_run.specs.declared.wire.RunWire.TheVariants as wire

-- the definition of `run` for the crate `clap`: it may take one option, `--wire`, with a value
abbrev pub wire_rule : Rule
wire_rule = record (new_rule (codes "wire")) { long = Some (codes "wire"); action = Some Set }

abbrev pub run_app : App
run_app = with_rule (new_app (codes "run")) wire_rule

-- what `clap` finds wrong with the words
unfoldable pub run_faults : List (List ℕ) → Kinds
run_faults words = fault_of run_app words

-- the name of a wire that the words have, if they have one
unfoldable pub wire_named : List (List ℕ) → Option (List ℕ)
wire_named words = first_of (codes "wire") (matches_of run_app words)

-- the name is that of the wire; the one in memory goes without a name too
abbrev pub NamesWire : Option (List ℕ) → RunWire → Type 0
NamesWire None wire.Memory = Unit {0}
NamesWire None wire.Tcp = ⊥
NamesWire (Some name) wire.Memory = name ≡ codes "memory"
NamesWire (Some name) wire.Tcp = name ≡ codes "tcp"

-- `clap` finds nothing wrong with the words, and they name this wire
pub record TakesRun (words : List (List ℕ)) (asked : RunWire) : Type 0 where
  pub faults : run_faults words ≡ []
  pub names : NamesWire (wire_named words) asked

-- the words are those of `run` over this wire: its name comes first, and `run` takes them
abbrev pub AreRun : List (String Global) → RunWire → Type 0
AreRun words asked = (slice_get (map string_bytes words) 0 ≡ Some (codes "run")) × TakesRun (map string_bytes words) asked

-- such a wire was found, or there is none
abbrev pub IsWireFound : (RunWire → Type 0) → Option RunWire → Type 0
IsWireFound Is (Some found) = Is found
IsWireFound Is None = (asked : RunWire) → Is asked → ⊥
