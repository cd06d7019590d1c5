-- What is read of a text in pieces. The words are this project's own.
use Rattle.std.specs.Prelude.{◌≡◌, ℕ, ◌+◌, ◌≤◌, List, [], ◌∷◌, ◌++◌, length, map, All}
use Rattle.std.specs.List.{AllZip, concat}
use Rattle.std.specs.Str.Lines.{lines as lines_of}
use Rattle.rds_script.specs.declared.script.Placed.{Placed}
use Rattle.rds_script.specs.declared.script.TheConstants.{MAX_LINES, MAX_TEXT}
use Rattle.rds_script.specs.Script.{payload_total, cut_total, IsScript}
use Rattle.rds_script.specs.Grammar.{Meaning, meaning, command_lines, Spells}
use Rattle.rds_script_pieces.specs.declared.part.Part.{Part}
use Rattle.rds_script_pieces.specs.Pieces.{EndsLine, AreCut}

-- the command, so many lines further down
abbrev pub lowered : ℕ → Placed → Placed
lowered by placed = record placed { line = placed.line + by }

-- the script, and behind it these commands, so many lines further down
abbrev pub continued : Meaning → ℕ → List Placed → Meaning
continued s by commands = record s { commands = s.commands ++ map (lowered by) commands }

-- each command stands in one of the lines that a script may have
abbrev pub AreInLines : List Placed → Type 0
AreInLines commands = All (λ p. p.line ≤ MAX_LINES) commands

-- what was read of a piece, with the head in front of it: the script that the two spell, how many lines the piece has, and
-- how many bytes of payloads and cuts there are
pub record IsPart (head piece : List ℕ) (part : Part) : Type 0 where
  pub spells : Spells (head ++ piece) (meaning part.script)
  pub known : IsScript part.script
  pub placed : AreInLines part.script.commands.items
  pub lines : part.lines ≡ length (lines_of piece)
  pub bytes : part.bytes ≡ payload_total part.script.commands.items
  pub cuts : part.cuts ≡ cut_total part.script.commands.items

-- the same was read
pub record IsAlike (one other : Part) : Type 0 where
  pub script : meaning other.script ≡ meaning one.script
  pub lines : other.lines ≡ one.lines
  pub bytes : other.bytes ≡ one.bytes
  pub cuts : other.cuts ≡ one.cuts

-- a head of so many lines, which ends behind a LF and has one line with a command
pub record IsHead (head : List ℕ) (count : ℕ) : Type 0 where
  pub ended : EndsLine head
  pub lines : count ≡ length (lines_of head)
  pub one : (line : ℕ × List (List ℕ)) × (command_lines (lines_of head) ≡ line ∷ [])

-- a text is cut into a head of so many lines and pieces, and this was read of the head alone and of each piece
pub record AreRead (head : List ℕ) (count : ℕ) (pieces : List (List ℕ)) (first : Part) (parts : List Part) : Type 0 where
  pub is_head : IsHead head count
  pub cut : AreCut pieces
  pub small : length (head ++ concat pieces) ≤ MAX_TEXT
  pub alone : IsPart head [] first
  pub each : AllZip (IsPart head) pieces parts
