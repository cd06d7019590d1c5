-- Private: needed by proofs only. How the crate's own functions share the work of reading.
use Rattle.std.specs.Prelude.{◌≡◌, ℕ, ◌+◌, ◌-◌, ◌%◌, ◌&&◌, ◌==◌, nat_lt, nat_le, Bool, true, false, if◌then◌else◌, List, [], ◌∷◌, ◌++◌, length, map, drop, Option, Some, None, option_and_then, Result, Ok, Err, ⊤, codes}
use Rattle.std.specs.Bool.{beq}
use Rattle.std.specs.List.{list_all, range_with_len, slice_index_or}
use Rattle.std.specs.Char.{is_ascii_digit}
use Rattle.std.specs.Option.{ok_or, option_map}
use Rattle.std.specs.Result.{result_ok}
use Rattle.std.specs.Str.{bytes_eq}
use Rattle.std.specs.Str.Lines.{lines}
use Rattle.std.specs.Str.Parse.{digits_value}
use Rattle.hex.specs.Hex.{decode_of}
use Rattle.rds_script.specs.declared.script.Command.{Command}
use Rattle.rds_script.specs.declared.script.Command.TheVariants as command
use Rattle.rds_script.specs.declared.cause.Cause.{Cause}
use Rattle.rds_script.specs.declared.cause.Cause.TheVariants as cause
use Rattle.rds_script.specs.declared.fault.Fault.{Fault}
use Rattle.rds_script.specs.declared.fault.Fault.TheVariants as fault
use Rattle.rds_script.specs.declared.cause.ScriptError.{ScriptError}
use Rattle.rds_script.specs.declared.cause.ScriptError.TheVariants as error
use Rattle.rds_script.specs.declared.name.Name.{Name}
use Rattle.rds_script.specs.declared.name.Name.TheVariants.{Hosts, Bind, BindAny, Send, Recv, Cancel, Close, Open, Move, Cut, Drain}
use Rattle.rds_script.specs.Text.{is_text, words}
use Rattle.rds_script.specs.Line.{Place, a_host, another_host, a_number, a_payload, a_port, Value, the_number, the_bytes, first_of, has_command}
use Rattle.rds_script.specs.Script.{payload_len, cut_count, payload_total, cut_total}
use Rattle.rds_script.specs.Grammar.{Meaning, nothing}

infixl 10 ◌>>=◌
abbrev pub ◌>>=◌ : {A B E : Type 0} → Result A E → (A → Result B E) → Result B E
(Ok x) >>= f = f x
(Err e) >>= f = Err e

-- what a function returned, seen by view, is what reading gives
abbrev pub Gives : {X Y : Type 0} → (X → Y) → Result X Cause → Result Y Cause → Type 0
Gives view (Ok x) read = read ≡ Ok (view x)
Gives view (Err e) read = read ≡ Err e

-- the same, unless memory ran out
abbrev pub Fails : {Y : Type 0} → Fault → Result Y Cause → Type 0
Fails (fault.Refused e) read = read ≡ Err e
Fails fault.Memory read = ⊤

abbrev pub GivesOrMemory : {X Y : Type 0} → (X → Y) → Result X Fault → Result Y Cause → Type 0
GivesOrMemory view (Ok x) read = read ≡ Ok (view x)
GivesOrMemory view (Err e) read = Fails e read

-- the script so far became what reading gives, unless memory ran out
abbrev pub Becomes : {X : Type 0} → Result X Fault → Result Meaning Cause → Meaning → Type 0
Becomes (Ok x) read new = read ≡ Ok new
Becomes (Err e) read new = Fails e read

-- ---- words

-- the word is 1 to 10 decimal digits
abbrev pub is_numeral : List ℕ → Bool
is_numeral word = nat_lt 0 (length word) && (nat_le (length word) 10 && list_all is_ascii_digit word)

unfoldable pub numeral_of : List ℕ → Option ℕ
numeral_of word = if is_numeral word then Some (digits_value 10 word) else None

unfoldable pub host_of : ℕ → List ℕ → Option ℕ
host_of hosts [] = None
host_of hosts (letter ∷ []) = if nat_le 65 letter && nat_lt (letter - 65) hosts then Some (letter - 65) else None
host_of hosts (letter ∷ more ∷ rest) = None

-- bytes, if they aren't too many
abbrev pub limited : List ℕ → Option (List ℕ)
limited b = if nat_le (length b) 2097152 then Some b else None

abbrev pub counting : ℕ → List ℕ
counting n = map (λ i. i % 256) (range_with_len 0 n)

unfoldable pub filled : List ℕ → Option (List ℕ)
filled digits = option_and_then (λ n. if nat_le n 2097152 then limited (counting n) else None) (numeral_of digits)

unfoldable pub hexed : List ℕ → Option (List ℕ)
hexed digits = option_and_then limited (result_ok (decode_of digits))

-- the payload of a form, which a letter names
unfoldable pub formed : ℕ → List ℕ → Option (List ℕ)
formed form rest =
    if form == 116 then limited rest
    else (if form == 120 then hexed rest else (if form == 102 then filled rest else None))

unfoldable pub payload_of : List ℕ → Option (List ℕ)
payload_of [] = None
payload_of (form ∷ []) = None
payload_of (form ∷ colon ∷ rest) = if colon == 58 then formed form rest else None

-- ---- the first of some words, and the words after it

unfoldable pub host_value : ℕ → List (List ℕ) → Result (Value × List (List ℕ)) Cause
host_value hosts line = ok_or (option_map (λ n. (the_number n, drop 1 line)) (host_of hosts (first_of line))) cause.Host

abbrev pub in_range : ℕ → ℕ → ℕ → Option ℕ
in_range low high n = if nat_le low n && nat_le n high then Some n else None

unfoldable pub number_at : ℕ → ℕ → List (List ℕ) → Result (Value × List (List ℕ)) Cause
number_at low high line =
    ok_or (option_map (λ n. (the_number n, drop 1 line)) (option_and_then (in_range low high) (numeral_of (first_of line)))) cause.Number

unfoldable pub payload_at : List (List ℕ) → Result (Value × List (List ℕ)) Cause
payload_at line = ok_or (option_map (λ b. (the_bytes b, drop 1 line)) (payload_of (first_of line))) cause.Payload

-- a value whose word isn't this one
abbrev pub other_than : {X : Type 0} → List ℕ → List ℕ → X → Result X Cause
other_than first word x = if bytes_eq word first then Err cause.SameHost else Ok x

-- a host other than the one that is this word
unfoldable pub peer_at : ℕ → List ℕ → List (List ℕ) → Result (Value × List (List ℕ)) Cause
peer_at hosts first line = host_value hosts line >>= other_than first (first_of line)

abbrev pub value_at : ℕ → List ℕ → Place → List (List ℕ) → Result (Value × List (List ℕ)) Cause
value_at hosts first a_host line = host_value hosts line
value_at hosts first another_host line = peer_at hosts first line
value_at hosts first (a_number low high) line = number_at low high line
value_at hosts first a_payload line = payload_at line

-- no words
abbrev pub end_at : List (List ℕ) → Result (List Value) Cause
end_at [] = Ok []
end_at (word ∷ words) = Err cause.Words

-- all words: one in each place, and none after them
abbrev pub values_at : ℕ → List ℕ → List Place → List (List ℕ) → Result (List Value) Cause
values_at hosts first [] line = end_at line
values_at hosts first (p ∷ ps) line = do
  v ← value_at hosts first p line
  vs ← values_at hosts first ps v.1
  Ok (v.0 ∷ vs)

-- ---- names

abbrev pub name_word : Name → List ℕ
name_word Hosts = codes "hosts"
name_word Bind = codes "bind"
name_word BindAny = codes "bindany"
name_word Send = codes "send"
name_word Recv = codes "recv"
name_word Cancel = codes "cancel"
name_word Close = codes "close"
name_word Open = codes "open"
name_word Move = codes "move"
name_word Cut = codes "cut"
name_word Drain = codes "drain"

abbrev pub places_of : Name → List Place
places_of Hosts = a_number 2 8 ∷ []
places_of Bind = a_host ∷ a_port ∷ a_number 1 16777216 ∷ a_number 2 16777216 ∷ []
places_of BindAny = a_host ∷ a_port ∷ a_number 1 16777216 ∷ a_number 2 16777216 ∷ []
places_of Send = a_host ∷ a_port ∷ a_host ∷ a_port ∷ a_payload ∷ []
places_of Recv = a_host ∷ a_port ∷ []
places_of Cancel = a_host ∷ a_port ∷ a_host ∷ a_port ∷ []
places_of Close = a_host ∷ a_port ∷ []
places_of Open = a_host ∷ another_host ∷ []
places_of Move = a_host ∷ another_host ∷ a_number 1 4294967295 ∷ []
places_of Cut = a_host ∷ another_host ∷ []
places_of Drain = []

unfoldable pub name_of : List ℕ → Option Name
name_of word =
    if bytes_eq word (codes "hosts") then Some Hosts
    else (if bytes_eq word (codes "bind") then Some Bind
    else (if bytes_eq word (codes "bindany") then Some BindAny
    else (if bytes_eq word (codes "send") then Some Send
    else (if bytes_eq word (codes "recv") then Some Recv
    else (if bytes_eq word (codes "cancel") then Some Cancel
    else (if bytes_eq word (codes "close") then Some Close
    else (if bytes_eq word (codes "open") then Some Open
    else (if bytes_eq word (codes "move") then Some Move
    else (if bytes_eq word (codes "cut") then Some Cut
    else (if bytes_eq word (codes "drain") then Some Drain else None))))))))))

abbrev pub is_hosts : Name → Bool
is_hosts Hosts = true
is_hosts Bind = false
is_hosts BindAny = false
is_hosts Send = false
is_hosts Recv = false
is_hosts Cancel = false
is_hosts Close = false
is_hosts Open = false
is_hosts Move = false
is_hosts Cut = false
is_hosts Drain = false

-- ---- lines

abbrev pub as_number : Value → ℕ
as_number (the_number n) = n
as_number (the_bytes b) = 0

abbrev pub as_bytes : Value → List ℕ
as_bytes (the_number n) = []
as_bytes (the_bytes b) = b

abbrev pub value_in : List Value → ℕ → Value
value_in values i = slice_index_or values i (the_number 0)

abbrev pub number_in : List Value → ℕ → ℕ
number_in values i = as_number (value_in values i)

-- the command of a name and its values; `hosts` has none
abbrev pub command_of : Name → List Value → Command
command_of Hosts v = command.Drain
command_of Bind v = command.Bind (number_in v 0) (number_in v 1) (number_in v 2) (number_in v 3)
command_of BindAny v = command.BindAny (number_in v 0) (number_in v 1) (number_in v 2) (number_in v 3)
command_of Send v = command.Send (number_in v 0) (number_in v 1) (number_in v 2) (number_in v 3) (as_bytes (value_in v 4))
command_of Recv v = command.Recv (number_in v 0) (number_in v 1)
command_of Cancel v = command.Cancel (number_in v 0) (number_in v 1) (number_in v 2) (number_in v 3)
command_of Close v = command.Close (number_in v 0) (number_in v 1)
command_of Open v = command.Open (number_in v 0) (number_in v 1)
command_of Move v = command.Move (number_in v 0) (number_in v 1) (number_in v 2)
command_of Cut v = command.Cut (number_in v 0) (number_in v 1)
command_of Drain v = command.Drain

unfoldable pub command_at : ℕ → Name → List (List ℕ) → Result Command Cause
command_at hosts name line = values_at hosts (first_of line) (places_of name) line >>= λ v. Ok (command_of name v)

unfoldable pub with_command : Meaning → ℕ → Command → Result Meaning Cause
with_command s number c =
    if nat_lt 16777216 (payload_total s.commands + payload_len c) then Err cause.Total
    else (if nat_lt 1024 (cut_total s.commands + cut_count c) then Err cause.Cuts
    else Ok (record s { commands = s.commands ++ record { line = number; command = c } ∷ [] }))

unfoldable pub hosts_at : Meaning → ℕ → List (List ℕ) → Result Meaning Cause
hosts_at s number line = number_at 2 8 line >>= λ v. Ok (record s { hosts = as_number v.0; hosts_line = number })

-- what the words after this name give, if they are as many as the name wants
abbrev pub exact : {X : Type 0} → Name → List (List ℕ) → Result X Cause → Result X Cause
exact name line read = if length line == length (places_of name) then read else Err cause.Words

-- the line of this name, which has as many words as it wants
unfoldable pub named : Meaning → ℕ → Name → List (List ℕ) → Result Meaning Cause
named s number name line = if is_hosts name then hosts_at s number line else (command_at s.hosts name line >>= with_command s number)

unfoldable pub counted : Meaning → ℕ → Name → List (List ℕ) → Result Meaning Cause
counted s number name line =
    if beq (is_hosts name) (s.hosts == 0)
    then exact name line (named s number name line)
    else Err cause.Command

abbrev pub command_line : Meaning → ℕ → List (List ℕ) → Result Meaning Cause
command_line s number line = ok_or (name_of (first_of line)) cause.Command >>= λ name. counted s number name (drop 1 line)

unfoldable pub line_at : Meaning → ℕ → List ℕ → Result Meaning Cause
line_at s number line =
    if list_all is_text line
    then (if has_command (words line) then command_line s number (words line) else Ok s)
    else Err cause.Text

-- ---- texts

-- the fault at this line
abbrev pub at_its_line : Fault → ℕ → ScriptError
at_its_line (fault.Refused e) line = error.BadLine line e
at_its_line fault.Memory line = error.Memory

-- where it fails, with the number of the line
abbrev pub at_line : {X : Type 0} → ℕ → Result X Cause → Result X (ℕ × Cause)
at_line number (Ok x) = Ok x
at_line number (Err e) = Err (number, e)

-- the lines after so many, which spell this much of a script
unfoldable pub lines_at : Meaning → ℕ → List (List ℕ) → Result Meaning (ℕ × Cause)
lines_at s before [] = Ok s
lines_at s before (line ∷ more) =
    (if before == 200000 then Err (before + 1, cause.Lines) else at_line (before + 1) (line_at s (before + 1) line))
    >>= λ t. lines_at t (before + 1) more

unfoldable pub text_at : List ℕ → Result Meaning (ℕ × Cause)
text_at text =
    if nat_lt 16777216 (length text) then Err (0, cause.TooLarge)
    else (lines_at nothing 0 (lines text) >>= λ s. if s.hosts == 0 then Err (0, cause.Empty) else Ok s)

abbrev pub ErrsAt : {Y : Type 0} → ScriptError → Result Y (ℕ × Cause) → Type 0
ErrsAt (error.BadLine line e) read = read ≡ Err (line, e)
ErrsAt error.Memory read = ⊤

-- what a function returned, seen by view, is what reading gives, unless memory ran out
abbrev pub Reads : {X Y : Type 0} → (X → Y) → Result X ScriptError → Result Y (ℕ × Cause) → Type 0
Reads view (Ok x) read = read ≡ Ok (view x)
Reads view (Err e) read = ErrsAt e read
