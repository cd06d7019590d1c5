use Rattle.rds_play_pair.specs.Changes.{ordered}
use Rattle.rds_play_pair.specs.Half.{side_of}
use Rattle.rds_play_pair.proofs.Joining.{joined_ordered}
use Rattle.rds_play_pair.proofs.Trying.{joined_tried, joined_tried_back}
use Rattle.rds_play_pair.proofs.pair.ConnPair.order.Goals as goal

pub invariant_of-self : goal.invariant_of-self
invariant_of-self c =
    joined_tried (ordered c.args.order.now) (joined_ordered c.args.order.now) c.order.result c.self.inside.streams
    (side_of c.self.inside.first) (side_of c.order.new.self) (side_of c.self.inside.second)
    c.order.ensures.ok c.order.ensures.err c.order.ensures.whole c.self.invariant

pub invariant_of-self-in-Second : goal.invariant_of-self-in-Second
invariant_of-self-in-Second c =
    joined_tried_back (ordered c.args.order.now) (joined_ordered c.args.order.now) c.order-in-Second.result c.self.inside.streams
    (side_of c.self.inside.second) (side_of c.order-in-Second.new.self) (side_of c.self.inside.first)
    c.order-in-Second.ensures.ok c.order-in-Second.ensures.err c.order-in-Second.ensures.whole c.self.invariant
