-- The command `recv`. Source: this project's own.
use Rattle.std.specs.Prelude.{ℕ, Ok, List, [], ◌∷◌, codes}
use Rattle.rds_model.specs.declared.order.Datagram.{Datagram}
use Rattle.rds_text.specs.Lines.{recv_none_line}
use Rattle.rds_text.specs.Refusals.{no_socket, socket_refused_line}
use Rattle.rds_history.specs.Events.{Event, Received}
use Rattle.rds_history.specs.Sockets.{queue}
use Rattle.rds_history.specs.Courses.{Course, prints, with_socket}
use Rattle.rds_history.specs.Mark.{update_mark}

-- the first of the datagrams that wait is handed out, after which the port may be free again
abbrev pub hand_out : List Datagram → (h port slot : ℕ) → List Event → Course
hand_out [] h port slot past = prints (recv_none_line h port) past
hand_out (d ∷ waiting) h port slot past = Ok (update_mark h port slot (Received h port slot d ∷ past))

-- `recv`: the socket at a port of host h hands out the datagram that has waited longest
abbrev pub recv : (h port : ℕ) → List Event → Course
recv h port past =
    with_socket h port (socket_refused_line (codes "recv") h port no_socket)
    (λ slot before. hand_out (queue h slot before) h port slot before) past
