-- The command line of `gen`. Source: this project's own.
use Rattle.std.specs.Prelude.{◌≡◌, ◌≢◌, ◌≤◌, ℕ, true, List, [], Option, Some, None, length, map, codes, String, string_bytes, slice_get, slice_index}
use Rattle.std.specs.Global.{Global}
use Rattle.std.specs.Fmt.{decimal}
use Rattle.clap.specs.Words.{App, Kinds, Rule, new_app, new_rule, with_rule, fault_of, first_of, matches_of}
use Rattle.clap.specs.declared.builder.action.ArgAction.TheVariants.{Set}

-- the definition of `gen` for the crate `clap`: two words must follow
abbrev pub word_rule : List ℕ → Rule
word_rule id = record (new_rule id) { required = true; action = Some Set }

abbrev pub gen_app : App
gen_app = with_rule (with_rule (new_app (codes "gen")) (word_rule (codes "sends"))) (word_rule (codes "seed"))

-- what `clap` finds wrong with the words
unfoldable pub gen_faults : List (List ℕ) → Kinds
gen_faults words = fault_of gen_app words

-- the word that `clap` finds under this name, if there is one
unfoldable pub gen_word : (id : List ℕ) → List (List ℕ) → Option (List ℕ)
gen_word id words = first_of id (matches_of gen_app words)

-- A word is this number in decimal digits, with no sign and no zero before them, and the number lies in these bounds.
pub record IsDecimalIn (low high : ℕ) (word : List ℕ) (n : ℕ) : Type 0 where
  pub digits : word ≡ decimal n
  pub least : low ≤ n
  pub most : n ≤ high

-- there is such a word
abbrev pub IsNamed : (low high : ℕ) → Option (List ℕ) → ℕ → Type 0
IsNamed low high (Some word) n = IsDecimalIn low high word n
IsNamed low high None n = ⊥

-- the first word is 1 to 100,000 sends, and the second a seed of 64 bits
abbrev pub AreNumbers : (first second : Option (List ℕ)) → (sends seed : ℕ) → Type 0
AreNumbers first second sends seed = IsNamed 1 100000 first sends × IsNamed 0 18446744073709551615 second seed

-- `clap` finds nothing wrong with the words, and the two that follow the name are these numbers
pub record TakesGen (words : List (List ℕ)) (sends seed : ℕ) : Type 0 where
  pub faults : gen_faults words ≡ []
  pub numbers : AreNumbers (gen_word (codes "sends") words) (gen_word (codes "seed") words) sends seed

-- the words are those of `gen`: its name comes first, and `gen` takes them
abbrev pub AreGen : List (String Global) → (sends seed : ℕ) → Type 0
AreGen words sends seed = (slice_get (map string_bytes words) 0 ≡ Some (codes "gen")) × TakesGen (map string_bytes words) sends seed

-- such two numbers were found, or there are none
abbrev pub IsFound : ((sends seed : ℕ) → Type 0) → Option (ℕ × ℕ) → Type 0
IsFound Are (Some n) = Are n.0 n.1
IsFound Are None = (sends seed : ℕ) → Are sends seed → ⊥

-- Private: it serves the contract of a private function. No plus stands before some digits, and no zero before others.
abbrev pub IsPlain : List ℕ → Type 0
IsPlain digits = (slice_index digits 0 ≢ 43) × (slice_index digits 0 ≡ 48 → length digits ≡ 1)
