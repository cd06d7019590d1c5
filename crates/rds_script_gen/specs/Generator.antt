-- The script that `rds gen N SEED` makes. The generator is this project's own.
use Rattle.std.specs.Prelude.{ℕ, zero, suc, ◌+◌, ◌*◌, ◌/◌, ◌%◌, ◌^◌, ◌==◌, if◌then◌else◌, List, [], ◌∷◌, ◌++◌, map, flat_map}
use Rattle.std.specs.List.{enumerate_from, range_with_len}
use Rattle.rds_script.specs.declared.script.Placed.{Placed}
use Rattle.rds_script.specs.declared.script.Command.{Command}
use Rattle.rds_script.specs.declared.script.Command.TheVariants.{Bind, Send, Cut}
use Rattle.rds_script.specs.Grammar.{Meaning}
use Rattle.rds_script.specs.Reading.{counting}

-- the state after one draw
unfoldable pub next_state : ℕ → ℕ
next_state x = (x * 6364136223846793005 + 1442695040888963407) % 2 ^ 64

-- the state after so many draws
abbrev pub state_after : ℕ → ℕ → ℕ
state_after zero x = x
state_after (suc n) x = next_state (state_after n x)

-- what a draw below m answers where it leads to the state x
abbrev pub answer : ℕ → ℕ → ℕ
answer m x = x / 2 ^ 33 % m

-- the answer below m of draw number n, where number 1 is the first after the state x
abbrev pub draw : ℕ → ℕ → ℕ → ℕ
draw n m x = answer m (state_after n x)

-- the sockets of a send whose four draws are the first after the state x
abbrev pub sender : ℕ → ℕ
sender x = draw 1 8 x

abbrev pub sender_port : ℕ → ℕ
sender_port x = 4000 + draw 2 4 x

abbrev pub receiver : ℕ → ℕ
receiver x = (sender x + 1 + draw 3 7 x) % 8

abbrev pub receiver_port : ℕ → ℕ
receiver_port x = 4000 + draw 4 4 x

-- the send of number i, whose draws begin after the state x
abbrev pub the_send : ℕ → ℕ → Command
the_send x i = Send (sender x) (sender_port x) (receiver x) (receiver_port x) (counting (i % 64))

-- the cut that stands after each 500th send
abbrev pub the_cut : ℕ → ℕ → List Command
the_cut x i = if (i + 1) % 500 == 0 then Cut (sender x) (receiver x) ∷ [] else []

-- the send of number i, and a cut if one stands after it
abbrev pub turn : ℕ → ℕ → List Command
turn x i = the_send x i ∷ the_cut x i

-- all sends and cuts: each send draws four times, so four draws for each one before it lead to its state
abbrev pub turns : ℕ → ℕ → List Command
turns sends seed = flat_map (λ i. turn (state_after (4 * i) seed) i) (range_with_len 0 sends)

-- a socket whose two buffers may have 16,777,216 bytes each
abbrev pub bind : ℕ → ℕ → Command
bind host port = Bind host port 16777216 16777216

-- the four sockets of a host
abbrev pub binds_of : ℕ → List Command
binds_of host = map (bind host) (range_with_len 4000 4)

-- the sockets of all hosts
abbrev pub binds : List Command
binds = flat_map binds_of (range_with_len 0 8)

-- commands on lines that follow one another, the first on line 2
abbrev pub placed : ℕ × Command → Placed
placed p = record { line = p.0; command = p.1 }

abbrev pub on_lines : List Command → List Placed
on_lines commands = map placed (enumerate_from 2 commands)

-- the script: 8 hosts, whose line is the first
abbrev pub generated : ℕ → ℕ → Meaning
generated sends seed = record { hosts = 8; hosts_line = 1; commands = on_lines (binds ++ turns sends seed) }
