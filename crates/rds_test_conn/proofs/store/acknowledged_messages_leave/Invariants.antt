use Rattle.rds_test_conn.proofs.store.acknowledged_messages_leave.Given as goal

abbrev pub ghosts-acknowledging : goal.ghosts-acknowledging
ghosts-acknowledging g a = record { name = a.blank.name; parts = a.blank.parts }
