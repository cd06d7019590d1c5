use Rattle.rds_test_conn.proofs.store.a_cancellation_visits_the_messages_of_its_slot.Given as goal

abbrev pub ghosts-counting : goal.ghosts-counting
ghosts-counting g a = record { name = a.blank.name; parts = a.blank.parts }
