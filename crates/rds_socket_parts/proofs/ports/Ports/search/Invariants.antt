use Rattle.std.proofs.Common.{◌≡◌, List, ℕ, length, IsSome, None, All}
use Rattle.rds_bindtab.specs.Seats.{knowing}
use Rattle.rds_socket_parts.specs.Ports.{first_port, port_after, after_claims, IsTaken}
use Rattle.rds_socket_parts.proofs.ports.Ports.search.Given as goal

abbrev pub invariant-loop : goal.invariant-loop
invariant-loop l = (words : List ℕ) × (length words ≡ l.counter) × All IsTaken words
    × (l.port ≡ port_after (first_port l.fn.start) l.counter)
    × (l.self ≡ knowing l.initial.self (after_claims l.initial.self.view (first_port l.fn.start) 0 words))
    × IsSome l.self.view.slot × (l.self.view.port ≡ None)
