-- How many steps the calls of a connection take, a step as `Steps` counts them. Source: this project's own.
use Rattle.std.specs.Prelude.{ℕ, ◌+◌, nat_le, List, length, filter}
use Rattle.rds_model.specs.declared.entry.Entry.{Entry}
use Rattle.rds_model.specs.declared.order.Order.{Order}
use Rattle.rds_model.specs.declared.order.Order.TheVariants as order
use Rattle.rds_model.specs.Past.{datagram}
use Rattle.rds_model.specs.Alive.{is_from, alive_numbers}

-- the numbers of a slot that are alive, ascending
abbrev pub slot_numbers : ℕ → List Entry → List ℕ
slot_numbers slot past = filter (λ n. is_from slot (datagram past n)) (alive_numbers past)

-- the numbers that are alive and at most `ack`, ascending
abbrev pub acked_numbers : ℕ → List Entry → List ℕ
acked_numbers ack past = filter (λ n. nat_le n ack) (alive_numbers past)

-- An order takes at most so many steps: none for a datagram; where datagrams are taken back, one for each number of the
-- slot that is alive, and one.
abbrev pub order_steps : Order → List Entry → ℕ
order_steps (order.Send slot sport dport payload) past = 0
order_steps (order.Cancel slot dport) past = length (slot_numbers slot past) + 1
order_steps (order.CloseSocket slot) past = length (slot_numbers slot past) + 1
order_steps order.Cut past = 0
