use Rattle.rds_test_wires.proofs.meeting.MeetingEndEnd.read.Goals as goal

pub returns-clause-meets : goal.returns-clause-meets
returns-clause-meets c = λ other. c.read.ensures.meets other.own
