use Rattle.rds_test_wires.proofs.deaf.DeafEndEnd.shut.Goals as goal

pub returns-clause-meets : goal.returns-clause-meets
returns-clause-meets c = λ other. c.shut.ensures.meets other.own
