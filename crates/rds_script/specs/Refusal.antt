-- Which text is refused, at which line and why. The table of causes is this project's own.
use Rattle.std.specs.Prelude.{◌≡◌, ◌≢◌, ℕ, ◌+◌, ◌<◌, ◌≤◌, ◌⊎◌, false, List, ◌∷◌, ◌++◌, length, drop, None, IsTrue, IsSomeAnd, Any, codes}
use Rattle.std.specs.Str.Lines.{lines}
use Rattle.rds_script.specs.declared.script.Command.{Command}
use Rattle.rds_script.specs.declared.script.Command.TheVariants.{Cut}
use Rattle.rds_script.specs.declared.cause.Cause.{Cause}
use Rattle.rds_script.specs.declared.cause.Cause.TheVariants as cause
use Rattle.rds_script.specs.Text.{is_text, words}
use Rattle.rds_script.specs.Word.{IsHost, IsNumberIn, IsPayload}
use Rattle.rds_script.specs.Line.{Place, a_host, another_host, a_number, a_payload, Value, Stands, places, first_of, SpellsCommand, has_command}
use Rattle.rds_script.specs.Script.{payload_len, payload_total, cut_total}
use Rattle.rds_script.specs.Grammar.{Meaning, nothing, Keeps}

-- why a word stands for nothing in its place
abbrev pub FailsBy : ℕ → List ℕ → Place → List ℕ → Cause → Type 0
FailsBy hosts first a_host word cause.Host = (n : ℕ) → IsHost hosts word n → ⊥
FailsBy hosts first another_host word cause.Host = (n : ℕ) → IsHost hosts word n → ⊥
FailsBy hosts first another_host word cause.SameHost = (n : ℕ) × IsHost hosts word n × (word ≡ first)
FailsBy hosts first (a_number low high) word cause.Number = (n : ℕ) → IsNumberIn low high word n → ⊥
FailsBy hosts first a_payload word cause.Payload = (b : List ℕ) → IsPayload word b → ⊥
FailsBy hosts first _ word _ = ⊥

-- the leftmost word that stands for nothing in its place fails by this cause
abbrev pub LeftmostFails : ℕ → List ℕ → List Place → List (List ℕ) → Cause → Type 0
LeftmostFails hosts first (p ∷ ps) (w ∷ ws) why =
    FailsBy hosts first p w why ⊎ ((v : Value) × Stands hosts first p w v × LeftmostFails hosts first ps ws why)
LeftmostFails hosts first _ _ why = ⊥

-- the first word isn't in the table; or it is the first command and isn't `hosts`; or it is a later `hosts`
abbrev pub IsNoCommand : ℕ → List ℕ → Type 0
IsNoCommand hosts name =
    (places name ≡ None)
    ⊎ (((hosts ≡ 0) × (name ≢ codes "hosts")) ⊎ ((hosts ≢ 0) × (name ≡ codes "hosts")))

-- a word after the first fails by this cause, and none before it fails
abbrev pub WordFails : ℕ → List (List ℕ) → Cause → Type 0
WordFails hosts line why =
    IsSomeAnd (places (first_of line)) (λ ps. LeftmostFails hosts (first_of (drop 1 line)) ps (drop 1 line) why)

-- The table of causes: exactly where each stands, at a line that has so many lines before it, which spell this much
-- of a script. It has 0 hosts before its first command.
abbrev pub Holds : Meaning → ℕ → List ℕ → Cause → Type 0
Holds s before line cause.Lines = before ≡ 200000
Holds s before line cause.Text = Any (λ b. is_text b ≡ false) line
Holds s before line cause.Command = IsTrue (has_command (words line)) × IsNoCommand s.hosts (first_of (words line))
Holds s before line cause.Words =
    IsTrue (has_command (words line))
    × IsSomeAnd (places (first_of (words line))) (λ ps. length (drop 1 (words line)) ≢ length ps)
Holds s before line cause.Host = IsTrue (has_command (words line)) × WordFails s.hosts (words line) cause.Host
Holds s before line cause.SameHost = IsTrue (has_command (words line)) × WordFails s.hosts (words line) cause.SameHost
Holds s before line cause.Number = IsTrue (has_command (words line)) × WordFails s.hosts (words line) cause.Number
Holds s before line cause.Payload = IsTrue (has_command (words line)) × WordFails s.hosts (words line) cause.Payload
Holds s before line cause.Total =
    (c : Command) × SpellsCommand s.hosts (words line) c × (16777216 < payload_total s.commands + payload_len c)
Holds s before line cause.Cuts =
    (first second : ℕ) × SpellsCommand s.hosts (words line) (Cut first second) × (cut_total s.commands ≡ 1024)
Holds s before line _ = ⊥

-- the row of a cause in the table; the causes of words share theirs, since the leftmost word decides
abbrev pub rank : Cause → ℕ
rank cause.TooLarge = 0
rank cause.Lines = 1
rank cause.Text = 2
rank cause.Command = 3
rank cause.Words = 4
rank cause.Host = 5
rank cause.SameHost = 5
rank cause.Number = 5
rank cause.Payload = 5
rank cause.Total = 6
rank cause.Cuts = 7
rank cause.Empty = 8

-- the cause stands at the line, and none above it in the table does
pub record IsFirstCause (s : Meaning) (before : ℕ) (line : List ℕ) (why : Cause) : Type 0 where
  pub holds : Holds s before line why
  pub first : (above : Cause) → rank above < rank why → Holds s before line above → ⊥

-- the lines before this one keep the grammar, and this one is refused
pub record RefusesLine (all : List (List ℕ)) (number : ℕ) (why : Cause) : Type 0 where
  pub before : List (List ℕ)
  pub line : List ℕ
  pub after : List (List ℕ)
  pub so_far : Meaning
  pub parts : all ≡ before ++ line ∷ after
  pub place : number ≡ length before + 1
  pub kept : Keeps before so_far
  pub refused : IsFirstCause so_far (length before) line why

-- the text is refused at this line, counted from 1, or as a whole at line 0
abbrev pub Refused : List ℕ → ℕ → Cause → Type 0
Refused text line cause.TooLarge = (line ≡ 0) × (16777216 < length text)
Refused text line cause.Empty = (line ≡ 0) × (length text ≤ 16777216) × Keeps (lines text) nothing
Refused text line why = (length text ≤ 16777216) × RefusesLine (lines text) line why
