use Rattle.rds_conn.proofs.conn.Conn.pass_uncounted.Given as goal

abbrev pub ghosts-pass_by : goal.ghosts-pass_by
ghosts-pass_by a = record { name = a.blank.name; parts = a.blank.parts }
