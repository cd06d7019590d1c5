-- The command `send`. Source: this project's own; the refusals after rds(7).
use Rattle.std.specs.Prelude.{ℕ, ◌+◌, ◌==◌, min, nat_lt, if◌then◌else◌, false, Option, Some, None, List, length}
use Rattle.std.specs.Option.{option_map_or}
use Rattle.rds_wire.specs.declared.kind.TheConstants.{MAX_LENGTH}
use Rattle.rds_model.specs.declared.entry.Entry.TheVariants.{Accept}
use Rattle.rds_model.specs.Drained.{last_map_read}
use Rattle.rds_cong.specs.Map.{has_port}
use Rattle.rds_text.specs.Refusals.{no_socket, too_long, no_route, congested, full, send_refused_line}
use Rattle.rds_history.specs.Events.{Event}
use Rattle.rds_history.specs.Journals.{journal, maps_read}
use Rattle.rds_history.specs.Sockets.{send_buffer, unacknowledged}
use Rattle.rds_history.specs.Courses.{Course, appends, or_refuses, with_socket}

-- why the socket of a slot can't send so many bytes to a port of host k, if it can't
abbrev pub send_refusal : (hosts h slot k dport len : ℕ) → List Event → Option (List ℕ)
send_refusal hosts h slot k dport len past =
    let buffer = send_buffer h slot past in
    let waiting = unacknowledged hosts h slot past in
    if nat_lt (min buffer MAX_LENGTH) len then Some (too_long len (min buffer MAX_LENGTH))
    else (if h == k then Some no_route
    else (if option_map_or (λ map. has_port map dport) (last_map_read (journal h k past)) false
    then Some (congested (maps_read (journal h k past)))
    else (if nat_lt buffer (waiting + len) then Some (full waiting len buffer) else None)))

-- `send`: the socket at a port of host h sends a datagram to port dport of host k
abbrev pub send : (limit hosts h port k dport : ℕ) → List ℕ → List Event → Course
send limit hosts h port k dport payload past =
    with_socket h port (send_refused_line h port k dport no_socket)
    (λ slot before. or_refuses (send_refusal hosts h slot k dport (length payload) before) (send_refused_line h port k dport)
    (appends limit h k (Accept slot port dport payload)) before) past
