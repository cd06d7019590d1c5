use Rattle.rds_play_pair.specs.Half.{side_of}
use Rattle.rds_play_pair.proofs.Joining.{swapped}
use Rattle.rds_play_pair.proofs.Trying.{joined_shut_tried}
use Rattle.rds_play_pair.proofs.pair.ConnPair.shut.Goals as goal

pub invariant_of-self : goal.invariant_of-self
invariant_of-self c =
    joined_shut_tried c.shut.result c.self.inside.streams
    (side_of c.self.inside.first) (side_of c.shut.new.half) (side_of c.self.inside.second) (side_of c.shut.new.other)
    c.shut.ensures.ok c.shut.ensures.err c.shut.ensures.whole c.self.invariant

pub invariant_of-self-in-Second : goal.invariant_of-self-in-Second
invariant_of-self-in-Second c =
    let first = side_of c.self.inside.first in
    let second = side_of c.self.inside.second in
    swapped c.self.inside.streams (side_of c.shut-in-Second.new.half) (side_of c.shut-in-Second.new.other)
    (joined_shut_tried c.shut-in-Second.result c.self.inside.streams
    second (side_of c.shut-in-Second.new.half) first (side_of c.shut-in-Second.new.other)
    c.shut-in-Second.ensures.ok c.shut-in-Second.ensures.err c.shut-in-Second.ensures.whole
    (swapped c.self.inside.streams first second c.self.invariant))
