-- all that was taken so far was written
use Rattle.rtrb.specs.Ring.{received}
use Rattle.rds_tcp.specs.Pumps.{WritesAll}
use Rattle.rds_tcp.proofs.pumps.write_on.Given as goal

abbrev pub invariant-loop : goal.invariant-loop
invariant-loop g l =
    (goal.iterator-loop g).can_next l.iterator' × (goal.iterator-loop g).is_finite l.iterator'
    × WritesAll (g.W.Write.contents l.fn.writer) (g.W.Write.contents l.writer) (received l.fn.ring) (received l.ring)
