use Rattle.rds_model.specs.Past.{highest_pulled}
use Rattle.rds_play_pair.proofs.Whole.{whole_of_sound}
use Rattle.rds_play_pair.proofs.half.Half.reading.Goals as goal

pub returns-clause-whole : goal.returns-clause-whole
returns-clause-whole c =
    whole_of_sound (highest_pulled c.args.self.now.conn.log.past) c.args.self.now.conn.waiting c.known.ensures.sound
