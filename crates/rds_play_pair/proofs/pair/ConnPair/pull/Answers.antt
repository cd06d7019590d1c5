use Rattle.rds_play_pair.specs.Changes.{pulled}
use Rattle.rds_play_pair.specs.Half.{side_of}
use Rattle.rds_play_pair.proofs.Joining.{joined_pulled}
use Rattle.rds_play_pair.proofs.Trying.{joined_tried, joined_tried_back}
use Rattle.rds_play_pair.proofs.pair.ConnPair.pull.Goals as goal

pub invariant_of-self : goal.invariant_of-self
invariant_of-self c =
    joined_tried (pulled c.args.map.now) (joined_pulled c.args.map.now) c.pull.result c.self.inside.streams
    (side_of c.self.inside.first) (side_of c.pull.new.self) (side_of c.self.inside.second)
    c.pull.ensures.ok c.pull.ensures.err c.pull.ensures.whole c.self.invariant

pub invariant_of-self-in-Second : goal.invariant_of-self-in-Second
invariant_of-self-in-Second c =
    joined_tried_back (pulled c.args.map.now) (joined_pulled c.args.map.now) c.pull-in-Second.result c.self.inside.streams
    (side_of c.self.inside.second) (side_of c.pull-in-Second.new.self) (side_of c.self.inside.first)
    c.pull-in-Second.ensures.ok c.pull-in-Second.ensures.err c.pull-in-Second.ensures.whole c.self.invariant
