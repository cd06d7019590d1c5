use Rattle.std.proofs.Common.{[], ◌∷◌}
use Rattle.rds_host.specs.Settled.{IsSameSocket, ports_of}
use Rattle.rds_host.proofs.ToldLines.{ToldUpTo}
use Rattle.rds_host.proofs.ToldPorts.{PortUpTo}
use Rattle.rds_host.proofs.settling.settle_socket.Given as goal

abbrev pub invariant-loop-i : goal.invariant-loop-i
invariant-loop-i g l =
    ToldUpTo l.i (ports_of (l.fn.socket ∷ [])) l.fn.socket.own l.socket.own l.fn.lines l.lines
    × PortUpTo l.i l.lines l.fn.socket.own.ports
    × IsSameSocket l.fn.socket l.socket
