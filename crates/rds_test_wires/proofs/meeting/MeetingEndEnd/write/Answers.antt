use Rattle.rds_test_wires.proofs.meeting.MeetingEndEnd.write.Goals as goal

pub returns-clause-meets : goal.returns-clause-meets
returns-clause-meets c = λ other. c.write.ensures.meets other.own
