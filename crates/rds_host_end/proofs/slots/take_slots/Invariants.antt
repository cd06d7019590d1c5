use Rattle.std.proofs.Common.{◌≡◌, All, map}
use Rattle.rds_socket.specs.Holding.{IsEnded}
use Rattle.rds_host_end.specs.Columns.{rows_left}
use Rattle.rds_host_end.proofs.slots.take_slots.Given as goal

abbrev pub invariant-loop-slot : goal.invariant-loop-slot
invariant-loop-slot l =
    (map (λ b. b.get) l.inboxes.items ≡ map (λ h. h.inbox.get) l.yielded)
    × (rows_left l.routes.items ≡ map (λ h. h.routes) l.yielded)
    × (l.ports.items ≡ map (λ h. h.ports) l.yielded)
    × (l.words.items ≡ map (λ h. h.words.seat) l.yielded)
    × All IsEnded l.yielded
