-- The commands `cancel` and `close`. Source: this project's own, after rds(7).
use Rattle.std.specs.Prelude.{ℕ, ◌==◌, if◌then◌else◌, false, Option, Some, None, Ok, List, ◌∷◌, length, codes}
use Rattle.rds_model.specs.declared.entry.Entry.TheVariants.{Cancel}
use Rattle.rds_model.specs.declared.entry.Target.TheVariants.{Port, All}
use Rattle.rds_text.specs.Refusals.{no_socket, no_route, socket_refused_line}
use Rattle.rds_history.specs.Events.{Event, Closed, Marked}
use Rattle.rds_history.specs.Journals.{is_marked, peers}
use Rattle.rds_history.specs.Sockets.{queue, receive_buffer}
use Rattle.rds_history.specs.Courses.{Course, and_then, appends, each, or_refuses, with_socket}

-- a host has no connection with itself
abbrev pub cancel_refusal : (h k : ℕ) → Option (List ℕ)
cancel_refusal h k = if h == k then Some no_route else None

-- `cancel`: what the socket at a port of host h sent to port dport of host k is taken back
abbrev pub cancel : (limit h port k dport : ℕ) → List Event → Course
cancel limit h port k dport past =
    with_socket h port (socket_refused_line (codes "cancel") h port no_socket)
    (λ slot. or_refuses (cancel_refusal h k) (socket_refused_line (codes "cancel") h port)
    (appends limit h k (Cancel slot (Port dport)))) past

-- a port is free again, if it was congested; nothing is queued there any more
abbrev pub unmark : (h port slot : ℕ) → List Event → List Event
unmark h port slot past =
    if is_marked h port past then Marked h port false 0 (receive_buffer h slot past) ∷ past else past

-- the socket gives up its port
abbrev pub unbind : (h port slot : ℕ) → List Event → List Event
unbind h port slot past = Closed h port slot (length (queue h slot past)) ∷ unmark h port slot past

-- `close`: what the socket at a port of host h sent is taken back at each peer, and its port is given up
abbrev pub close : (limit hosts h port : ℕ) → List Event → Course
close limit hosts h port past =
    with_socket h port (socket_refused_line (codes "close") h port no_socket)
    (λ slot before. and_then (each (peers hosts h) (λ k. appends limit h k (Cancel slot All)) before)
    (λ later. Ok (unbind h port slot later))) past
