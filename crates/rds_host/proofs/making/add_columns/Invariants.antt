use Rattle.std.proofs.Common.{◌≡◌, [], All, reverse, take}
use Rattle.rds_host.specs.Ties.{peers_to, putters_from, ways_of}
use Rattle.rds_host.proofs.making.add_columns.Given as goal

abbrev pub invariant-loop-peer : goal.invariant-loop-peer
invariant-loop-peer l =
    (peers_to (ways_of l.columns.items) ≡ take l.peer-index l.fn.peers)
    × All (λ c. c.passes ≡ reverse (putters_from c.way.mail l.fn.slots 0 l.fn.slots)) l.columns.items
    × All (λ c. c.boxes ≡ []) l.columns.items
