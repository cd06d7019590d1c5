-- What orders and commands weigh, by a weight of each.
use Rattle.std.proofs.Common.{◌≡◌, ◌+◌, ℕ, List, [], ◌∷◌, Bool, true, false, cond, filter, length, refl, arith}
use Rattle.rds_model.specs.declared.order.Order.{Order}
use Rattle.rds_model.specs.declared.order.Order.TheVariants as order
use Rattle.rds_script.specs.Script.{payload_len}
use Rattle.rds_script.specs.declared.script.Command.{Command}
use Rattle.rds_script.specs.declared.script.Command.TheVariants as script
use Rattle.rds_script.specs.declared.script.Placed.{Placed}
use Rattle.rds_run_laws.specs.Few.{is_own}
use Rattle.rds_run_laws.specs.Put.{own_sum}
use Rattle.rds_run_laws.specs.Sent.{sent_by}
use Rattle.rds_run_laws.specs.Weights.{by_length, orders_sum}

-- the bytes of an order's payload
abbrev pub order_bytes : Order → ℕ
order_bytes (order.Send slot sport dport payload) = length payload
order_bytes (order.Cancel slot dport) = 0
order_bytes (order.CloseSocket slot) = 0
order_bytes order.Cut = 0

-- what orders weigh together
abbrev pub weigh : (Order → ℕ) → List Order → ℕ
weigh weight [] = 0
weigh weight (x ∷ list) = weight x + weigh weight list

-- what commands weigh together
abbrev pub weight_of : (Command → ℕ) → List Placed → ℕ
weight_of weight [] = 0
weight_of weight (placed ∷ commands) = weight placed.command + weight_of weight commands

pub orders_weigh : (list : List Order) → weigh order_bytes list ≡ orders_sum by_length list
orders_weigh [] = refl
orders_weigh (order.Send slot sport dport payload ∷ list) = let rest = orders_weigh list in omega (arith, rest)
orders_weigh (order.Cancel slot dport ∷ list) = let rest = orders_weigh list in omega (arith, rest)
orders_weigh (order.CloseSocket slot ∷ list) = let rest = orders_weigh list in omega (arith, rest)
orders_weigh (order.Cut ∷ list) = let rest = orders_weigh list in omega (arith, rest)

sends_its_payload : (command : Command) → payload_len command ≡ sent_by by_length command
sends_its_payload (script.Bind host port sndbuf rcvbuf) = refl
sends_its_payload (script.BindAny host port sndbuf rcvbuf) = refl
sends_its_payload (script.Send host port to dport payload) = refl
sends_its_payload (script.Recv host port) = refl
sends_its_payload (script.Cancel host port to dport) = refl
sends_its_payload (script.Close host port) = refl
sends_its_payload (script.Open host to) = refl
sends_its_payload (script.Move host to bytes) = refl
sends_its_payload (script.Cut host to) = refl
sends_its_payload script.Drain = refl

-- of a host's own commands
pub own_weigh : (host : ℕ) (commands : List Placed) → weight_of payload_len (filter (is_own host) commands) ≡ own_sum by_length host commands
own_weigh host [] = refl
own_weigh host (placed ∷ commands) =
    let rest = own_weigh host commands in
    let here = sends_its_payload placed.command in
    either (is_own host placed) placed (filter (is_own host) commands) (own_sum by_length host commands) rest here
  where
    either : (own : Bool) (p : Placed) (mine : List Placed) (n : ℕ) → weight_of payload_len mine ≡ n → payload_len p.command ≡ sent_by by_length p.command →
        weight_of payload_len (cond own (p ∷ mine) mine) ≡ cond own (sent_by by_length p.command) 0 + n
    either true p mine n rest here = omega (arith, rest, here)
    either false p mine n rest here = omega (arith, rest)
