use Rattle.rds_test_link.proofs.shutting.race.Goals as goal

-- each end met the other before it was shut, and meets it still
pub met-requires : goal.met-requires
met-requires g c = (c.join-a.ensures.first c.join-a.result.1).0 ((c.join-a.ensures.second c.args.a).1 c.requires)
