-- The commands `bind` and `bindany`. Source: this project's own.
use Rattle.std.specs.Prelude.{ℕ, suc, ◌-◌, ◌&&◌, nat_lt, nat_le, is_none, unwrap_or, find, if◌then◌else◌, Bool, Option, Some, None, Ok, List, ◌∷◌, ◌++◌, codes}
use Rattle.std.specs.Option.{option_map}
use Rattle.std.specs.List.{range_with_len}
use Rattle.rds_model.specs.declared.entry.TheConstants.{MAX_SLOTS}
use Rattle.rds_text.specs.Refusals.{no_slot, reserved, in_use, socket_refused_line}
use Rattle.rds_history.specs.Events.{Event, Bound}
use Rattle.rds_history.specs.Sockets.{next_slot, holder}
use Rattle.rds_history.specs.Courses.{Course, or_refuses}

-- why host h can't bind a port, if it can't
abbrev pub bind_refusal : (h port : ℕ) → List Event → Option (List ℕ)
bind_refusal h port past =
    if nat_le MAX_SLOTS (next_slot h past) then Some no_slot
    else (if nat_lt port 2 then Some reserved
    else option_map (λ slot. in_use (suc slot)) (holder h port past))

-- `bind`: a socket of host h is bound to a port, in the host's next slot
abbrev pub bind : (h port sndbuf rcvbuf : ℕ) → List Event → Course
bind h port sndbuf rcvbuf past =
    or_refuses (bind_refusal h port past) (socket_refused_line (codes "bind") h port)
    (λ before. Ok (Bound h port (next_slot h before) sndbuf rcvbuf ∷ before)) past

-- all ports, from one on upward and round past 65,535
abbrev pub ports_round : ℕ → List ℕ
ports_round start = range_with_len start (65536 - start) ++ range_with_len 0 start

-- host h could bind a socket to the port
abbrev pub is_free : ℕ → List Event → ℕ → Bool
is_free h past port = nat_le 2 port && is_none (holder h port past)

-- the first free port from `start` on, while the host may bind one more socket
abbrev pub free_port : (h start : ℕ) → List Event → Option ℕ
free_port h start past = if nat_le MAX_SLOTS (next_slot h past) then None else find (is_free h past) (ports_round start)

-- `bindany`: a socket of host h is bound to the first free port from `start` on
abbrev pub bind_any : (h start sndbuf rcvbuf : ℕ) → List Event → Course
bind_any h start sndbuf rcvbuf past = bind h (unwrap_or (free_port h start past) start) sndbuf rcvbuf past
