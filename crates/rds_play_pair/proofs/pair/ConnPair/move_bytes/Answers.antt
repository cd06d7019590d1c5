use Rattle.rds_play_pair.specs.Half.{side_of}
use Rattle.rds_play_pair.proofs.Joining.{swapped}
use Rattle.rds_play_pair.proofs.Trying.{joined_moved_tried}
use Rattle.rds_play_pair.proofs.pair.ConnPair.move_bytes.Goals as goal

pub invariant_of-self : goal.invariant_of-self
invariant_of-self c =
    let first = side_of c.self.inside.first in
    let second = side_of c.self.inside.second in
    swapped c.self.inside.streams (side_of c.move_bytes.new.writer) (side_of c.move_bytes.new.reader)
    (joined_moved_tried c.move_bytes.result c.self.inside.streams c.args.bytes
    second (side_of c.move_bytes.new.writer) first (side_of c.move_bytes.new.reader)
    c.move_bytes.ensures.moves c.move_bytes.ensures.err
    (swapped c.self.inside.streams first second c.self.invariant))

pub invariant_of-self-in-Second : goal.invariant_of-self-in-Second
invariant_of-self-in-Second c =
    joined_moved_tried c.move_bytes-in-Second.result c.self.inside.streams c.args.bytes
    (side_of c.self.inside.first) (side_of c.move_bytes-in-Second.new.writer)
    (side_of c.self.inside.second) (side_of c.move_bytes-in-Second.new.reader)
    c.move_bytes-in-Second.ensures.moves c.move_bytes-in-Second.ensures.err c.self.invariant
