-- The table of lines: which words spell which command. The language is this project's own.
use Rattle.std.specs.Prelude.{◌≡◌, ◌≢◌, ℕ, Bool, ◌==◌, ◌&&◌, not, if◌then◌else◌, List, [], ◌∷◌, length, slice_index, Option, Some, None, IsSomeAnd, codes, ⊤}
use Rattle.std.specs.List.{slice_index_or}
use Rattle.std.specs.Str.{bytes_eq}
use Rattle.rds_script.specs.declared.script.Command.{Command}
use Rattle.rds_script.specs.declared.script.Command.TheVariants.{Bind, BindAny, Send, Recv, Cancel, Close, Open, Move, Cut, Drain}
use Rattle.rds_script.specs.Word.{IsHost, IsNumberIn, IsPayload}

-- what may stand in a place of a line
pub data Place : Type 0 where
  -- a host
  a_host : Place
  -- a host other than the line's first
  another_host : Place
  -- a number from the first to the second
  a_number : ℕ → ℕ → Place
  -- a payload
  a_payload : Place

abbrev pub a_port : Place
a_port = a_number 0 65535

-- the table of lines: the first word, and what stands in the places after it
abbrev pub table : List (List ℕ × List Place)
table =
    (codes "hosts", a_number 2 8 ∷ [])
    ∷ (codes "bind", a_host ∷ a_port ∷ a_number 1 16777216 ∷ a_number 2 16777216 ∷ [])
    ∷ (codes "bindany", a_host ∷ a_port ∷ a_number 1 16777216 ∷ a_number 2 16777216 ∷ [])
    ∷ (codes "send", a_host ∷ a_port ∷ a_host ∷ a_port ∷ a_payload ∷ [])
    ∷ (codes "recv", a_host ∷ a_port ∷ [])
    ∷ (codes "cancel", a_host ∷ a_port ∷ a_host ∷ a_port ∷ [])
    ∷ (codes "close", a_host ∷ a_port ∷ [])
    ∷ (codes "open", a_host ∷ another_host ∷ [])
    ∷ (codes "move", a_host ∷ another_host ∷ a_number 1 4294967295 ∷ [])
    ∷ (codes "cut", a_host ∷ another_host ∷ [])
    ∷ (codes "drain", [])
    ∷ []

-- the places in the first row with this word
abbrev pub row : List ℕ → List (List ℕ × List Place) → Option (List Place)
row word [] = None
row word (r ∷ rows) = if bytes_eq word r.0 then Some r.1 else row word rows

-- the places of the line with this first word, if it is in the table
abbrev pub places : List ℕ → Option (List Place)
places word = row word table

-- what a word stands for: a host or another number, or the bytes of a payload
pub data Value : Type 0 where
  the_number : ℕ → Value
  the_bytes : List ℕ → Value

-- the word stands for the value in this place of a line whose first host is the word `first`
abbrev pub Stands : ℕ → List ℕ → Place → List ℕ → Value → Type 0
Stands hosts first a_host word (the_number n) = IsHost hosts word n
Stands hosts first another_host word (the_number n) = IsHost hosts word n × (word ≢ first)
Stands hosts first (a_number low high) word (the_number n) = IsNumberIn low high word n
Stands hosts first a_payload word (the_bytes b) = IsPayload word b
Stands hosts first _ word _ = ⊥

-- each word stands for its value in its place
abbrev pub Fills : ℕ → List ℕ → List Place → List (List ℕ) → List Value → Type 0
Fills hosts first [] [] [] = ⊤
Fills hosts first (p ∷ ps) (w ∷ ws) (v ∷ vs) = Stands hosts first p w v × Fills hosts first ps ws vs
Fills hosts first _ _ _ = ⊥

-- the first of some words, or an empty one
abbrev pub first_of : List (List ℕ) → List ℕ
first_of words = slice_index_or words 0 []

-- the line has this first word, and the others stand for these values in their places
abbrev pub SpellsLine : ℕ → List (List ℕ) → List ℕ → List Value → Type 0
SpellsLine hosts [] name values = ⊥
SpellsLine hosts (word ∷ words) name values = (word ≡ name) × IsSomeAnd (places word) (λ ps. Fills hosts (first_of words) ps words values)

abbrev pub name_of : Command → List ℕ
name_of (Bind host port sndbuf rcvbuf) = codes "bind"
name_of (BindAny host port sndbuf rcvbuf) = codes "bindany"
name_of (Send host port to dport payload) = codes "send"
name_of (Recv host port) = codes "recv"
name_of (Cancel host port to dport) = codes "cancel"
name_of (Close host port) = codes "close"
name_of (Open host to) = codes "open"
name_of (Move host to bytes) = codes "move"
name_of (Cut host to) = codes "cut"
name_of Drain = codes "drain"

abbrev pub values_of : Command → List Value
values_of (Bind h p sndbuf rcvbuf) = the_number h ∷ the_number p ∷ the_number sndbuf ∷ the_number rcvbuf ∷ []
values_of (BindAny h p sndbuf rcvbuf) = the_number h ∷ the_number p ∷ the_number sndbuf ∷ the_number rcvbuf ∷ []
values_of (Send h p to dport b) = the_number h ∷ the_number p ∷ the_number to ∷ the_number dport ∷ the_bytes b ∷ []
values_of (Recv h p) = the_number h ∷ the_number p ∷ []
values_of (Cancel h p to dport) = the_number h ∷ the_number p ∷ the_number to ∷ the_number dport ∷ []
values_of (Close h p) = the_number h ∷ the_number p ∷ []
values_of (Open h to) = the_number h ∷ the_number to ∷ []
values_of (Move h to n) = the_number h ∷ the_number to ∷ the_number n ∷ []
values_of (Cut h to) = the_number h ∷ the_number to ∷ []
values_of Drain = []

-- the line sets how many hosts there are
abbrev pub SpellsHosts : List (List ℕ) → ℕ → Type 0
SpellsHosts words hosts = SpellsLine 0 words (codes "hosts") (the_number hosts ∷ [])

-- the line spells the command, where there are so many hosts
abbrev pub SpellsCommand : ℕ → List (List ℕ) → Command → Type 0
SpellsCommand hosts words command = SpellsLine hosts words (name_of command) (values_of command)

-- the word isn't empty and doesn't begin with #
abbrev pub is_named : List ℕ → Bool
is_named word = not (length word == 0) && not (slice_index word 0 == 35)

-- the line isn't skipped: it has a first word, which doesn't begin with #
abbrev pub has_command : List (List ℕ) → Bool
has_command line = is_named (first_of line)
