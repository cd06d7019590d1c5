use Rattle.rds_test_wires.proofs.deaf.DeafEndEnd.write.Goals as goal

pub returns-then-eq-clause-meets : goal.returns-then-eq-clause-meets
returns-then-eq-clause-meets c = λ other. c.read.ensures.meets other.own

pub returns-clause-meets : goal.returns-clause-meets
returns-clause-meets c = λ other. c.read.ensures.meets other.own
