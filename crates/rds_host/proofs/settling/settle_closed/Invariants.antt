use Rattle.std.proofs.Common.{◌≡◌, [], length, map, take, drop}
use Rattle.rds_host.specs.Settled.{AreSettled}
use Rattle.rds_host.proofs.settling.settle_closed.Given as goal

abbrev pub invariant-loop-i : goal.invariant-loop-i
invariant-loop-i g l =
    (length l.closed ≡ length l.fn.closed)
    × (drop l.i l.closed ≡ drop l.i l.fn.closed)
    × AreSettled [] (map (λ h. h) (take l.i l.fn.closed)) (map (λ h. h) (take l.i l.closed)) l.fn.lines l.lines
