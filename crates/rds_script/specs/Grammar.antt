-- Which text spells which script. The language is this project's own.
use Rattle.std.specs.Prelude.{◌≡◌, ◌≢◌, ℕ, ◌≤◌, List, [], ◌∷◌, length, map, filter, All}
use Rattle.std.specs.List.{enumerate_from, AllPass, AllZip}
use Rattle.std.specs.Str.Lines.{lines}
use Rattle.rds_script.specs.declared.script.Script.{Script}
use Rattle.rds_script.specs.declared.script.Placed.{Placed}
use Rattle.rds_script.specs.Text.{is_text, words}
use Rattle.rds_script.specs.Line.{SpellsHosts, SpellsCommand, has_command}
use Rattle.rds_script.specs.Script.{payload_total, cut_total}

-- a script as its two numbers and its list
pub record Meaning : Type 0 where
  pub hosts : ℕ
  pub hosts_line : ℕ
  pub commands : List Placed

abbrev pub meaning : Script → Meaning
meaning s = record { hosts = s.hosts; hosts_line = s.hosts_line; commands = s.commands.items }

-- what lines without a command spell
abbrev pub nothing : Meaning
nothing = record { hosts = 0; hosts_line = 0; commands = [] }

-- the words of each line that isn't skipped, with the number of the line, counted from 1
abbrev pub command_lines : List (List ℕ) → List (ℕ × List (List ℕ))
command_lines lines = filter (λ l. has_command l.1) (enumerate_from 1 (map words lines))

-- the command stands in this line and is spelled by its words
abbrev pub SpellsPlaced : ℕ → ℕ × List (List ℕ) → Placed → Type 0
SpellsPlaced hosts line placed = (placed.line ≡ line.0) × SpellsCommand hosts line.1 placed.command

-- the first line says how many hosts there are, and each other one spells its command
abbrev pub SpellsLines : List (ℕ × List (List ℕ)) → Meaning → Type 0
SpellsLines [] s = s ≡ nothing
SpellsLines (first ∷ others) s =
    (s.hosts_line ≡ first.0) × SpellsHosts first.1 s.hosts × AllZip (SpellsPlaced s.hosts) others s.commands

-- these lines spell the script and keep all limits
pub record Keeps (lines : List (List ℕ)) (s : Meaning) : Type 0 where
  pub few : length lines ≤ 200000
  pub bytes : All (AllPass is_text) lines
  pub spelled : SpellsLines (command_lines lines) s
  pub total : payload_total s.commands ≤ 16777216
  pub cuts : cut_total s.commands ≤ 1024

-- the text spells the script
pub record Spells (text : List ℕ) (s : Meaning) : Type 0 where
  pub small : length text ≤ 16777216
  pub kept : Keeps (lines text) s
  pub some : command_lines (lines text) ≢ []
