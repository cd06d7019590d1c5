use Rattle.rds_test_conn.proofs.store.cancelled_messages_leave.Given as goal

abbrev pub ghosts-cancelling : goal.ghosts-cancelling
ghosts-cancelling g a = record { name = a.blank.name; parts = a.blank.parts }
