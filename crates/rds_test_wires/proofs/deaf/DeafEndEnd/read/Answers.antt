use Rattle.rds_test_wires.proofs.deaf.DeafEndEnd.read.Goals as goal

pub returns-then-eq-clause-meets : goal.returns-then-eq-clause-meets
returns-then-eq-clause-meets c = λ other. c.read-got.ensures.meets other.own

pub returns-else-eq-clause-meets : goal.returns-else-eq-clause-meets
returns-else-eq-clause-meets c = λ other. c.read-got.ensures.meets other.own
