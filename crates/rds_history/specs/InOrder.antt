-- In which order a socket hands out what was delivered to it. Source: rds(7) for in order; the words are this project's
-- own.
use Rattle.std.specs.Prelude.{◌≡◌, ℕ, List, ◌++◌}
use Rattle.rds_history.specs.Events.{Event}
use Rattle.rds_history.specs.Sockets.{arrived_datagrams, handed_out, queue}

-- what was handed out at a socket, and then what waits, is what was delivered to it
abbrev pub HandsOutInOrder : (h slot : ℕ) → List Event → Type 0
HandsOutInOrder h slot past = handed_out h slot past ++ queue h slot past ≡ arrived_datagrams h slot past
