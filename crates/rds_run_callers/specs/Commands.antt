-- Whose commands a script's are, and which of them bind. This project's own.
use Rattle.std.specs.Prelude.{ℕ, Bool, true, false, Option, Some, None}
use Rattle.rds_script.specs.declared.script.Command.{Command}
use Rattle.rds_script.specs.declared.script.Command.TheVariants.{Bind, BindAny, Send, Recv, Cancel, Close, Open, Move, Cut, Drain}

-- the host that does the command; none does `drain`
abbrev pub commander : Command → Option ℕ
commander (Bind host port sndbuf rcvbuf) = Some host
commander (BindAny host port sndbuf rcvbuf) = Some host
commander (Send host port to dport payload) = Some host
commander (Recv host port) = Some host
commander (Cancel host port to dport) = Some host
commander (Close host port) = Some host
commander (Open host to) = Some host
commander (Move host to bytes) = Some host
commander (Cut host to) = Some host
commander Drain = None

-- whether the command binds a socket
abbrev pub binds : Command → Bool
binds (Bind host port sndbuf rcvbuf) = true
binds (BindAny host port sndbuf rcvbuf) = true
binds (Send host port to dport payload) = false
binds (Recv host port) = false
binds (Cancel host port to dport) = false
binds (Close host port) = false
binds (Open host to) = false
binds (Move host to bytes) = false
binds (Cut host to) = false
binds Drain = false
