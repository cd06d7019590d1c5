use Rattle.rds_play_mesh.proofs.mesh.Mesh.into_journals.Goals as goal

pub returns-clause-count : goal.returns-clause-count
returns-clause-count c = rw (← c.self.view_is) c.rows.ensures.count

pub returns-clause-journals : goal.returns-clause-journals
returns-clause-journals c = rw (← c.self.view_is) c.rows.ensures.journals
