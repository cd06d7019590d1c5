use Rattle.rds_test_wires.proofs.counting.CountingEndEnd.write.Goals as goal

pub returns-clause-meets : goal.returns-clause-meets
returns-clause-meets c = λ other. c.write-put.ensures.meets other.own
