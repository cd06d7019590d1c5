use Rattle.std.proofs.Common.{◌≡◌, length, map, take, drop}
use Rattle.rds_host.specs.Settled.{AreSameSockets, AreSettled, ports_of}
use Rattle.rds_host.specs.Telling.{ArePortsTold}
use Rattle.rds_host.proofs.settling.settle_sockets.Given as goal

abbrev pub invariant-loop-i : goal.invariant-loop-i
invariant-loop-i g l =
    (length l.sockets ≡ length l.fn.sockets)
    × (drop l.i l.sockets ≡ drop l.i l.fn.sockets)
    × AreSettled (ports_of (take l.i l.fn.sockets)) (map (λ s. s.own) (take l.i l.fn.sockets)) (map (λ s. s.own) (take l.i l.sockets)) l.fn.lines l.lines
    × ArePortsTold (map (λ s. s.own) (take l.i l.sockets)) l.lines
    × AreSameSockets l.fn.sockets l.sockets
