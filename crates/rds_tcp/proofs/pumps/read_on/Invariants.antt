-- all that was handed out so far was put into the ring
use Rattle.rtrb.specs.Ring.{sent}
use Rattle.rds_tcp.specs.Pumps.{PutsAll}
use Rattle.rds_tcp.proofs.pumps.read_on.Given as goal

abbrev pub invariant-loop : goal.invariant-loop
invariant-loop g l =
    (goal.iterator-loop g).can_next l.iterator' × (goal.iterator-loop g).is_finite l.iterator'
    × PutsAll (g.S.Read.remaining l.fn.reader) (g.S.Read.remaining l.reader) (sent l.fn.ring) (sent l.ring)
