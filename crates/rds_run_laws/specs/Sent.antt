-- What the commands of a script send, by a weight of datagrams, as 1 or their length. Source: this project's own.
use Rattle.std.specs.Prelude.{ℕ, ◌+◌, ◌%◌, List, [], ◌∷◌, sum_by}
use Rattle.std.specs.List.{range_with_len}
use Rattle.rds_script.specs.declared.script.Command.TheVariants.{Send}
use Rattle.rds_script.specs.declared.script.Placed.{Placed}
use Rattle.rds_script.specs.declared.script.Command.{Command}
use Rattle.rds_run_laws.specs.Weights.{Weight}

-- the weight of the datagram that a command sends, or 0
abbrev pub sent_by : Weight → Command → ℕ
sent_by weight (Send host port to dport payload) = weight port dport payload
sent_by weight _ = 0

-- of all commands
abbrev pub sent_sum : Weight → List Placed → ℕ
sent_sum weight [] = 0
sent_sum weight (placed ∷ commands) = sent_by weight placed.command + sent_sum weight commands

-- How many bytes a generated script of so many sends has in its datagrams: number i, counted from 0, has as many as i leaves over 64.
abbrev pub generated_bytes : (sends : ℕ) → ℕ
generated_bytes sends = sum_by (λ i. i % 64) (range_with_len 0 sends)
