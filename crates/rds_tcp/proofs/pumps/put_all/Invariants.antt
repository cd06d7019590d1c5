-- what is gone from the rest was put into the ring
use Rattle.std.proofs.Common.{◌≡◌, ℕ, List, ◌++◌}
use Rattle.rtrb.specs.Ring.{sent}
use Rattle.rds_tcp.proofs.pumps.put_all.Given as goal

abbrev pub invariant-loop : goal.invariant-loop
invariant-loop g l =
    (goal.iterator-loop g).can_next l.iterator' × (goal.iterator-loop g).is_finite l.iterator'
    × ((done : List ℕ) × (l.fn.piece ≡ done ++ l.rest) × (sent l.ring ≡ sent l.fn.ring ++ done))
