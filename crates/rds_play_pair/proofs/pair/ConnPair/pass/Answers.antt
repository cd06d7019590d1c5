use Rattle.rds_play_pair.specs.Changes.{passed}
use Rattle.rds_play_pair.specs.Half.{side_of}
use Rattle.rds_play_pair.proofs.Joining.{joined_passed}
use Rattle.rds_play_pair.proofs.Trying.{joined_tried, joined_tried_back}
use Rattle.rds_play_pair.proofs.pair.ConnPair.pass.Goals as goal

pub invariant_of-self : goal.invariant_of-self
invariant_of-self c =
    joined_tried (passed c.args.slot) (joined_passed c.args.slot) c.pass.result c.self.inside.streams
    (side_of c.self.inside.first) (side_of c.pass.new.self) (side_of c.self.inside.second)
    c.pass.ensures.ok c.pass.ensures.err c.pass.ensures.whole c.self.invariant

pub invariant_of-self-in-Second : goal.invariant_of-self-in-Second
invariant_of-self-in-Second c =
    joined_tried_back (passed c.args.slot) (joined_passed c.args.slot) c.pass-in-Second.result c.self.inside.streams
    (side_of c.self.inside.second) (side_of c.pass-in-Second.new.self) (side_of c.self.inside.first)
    c.pass-in-Second.ensures.ok c.pass-in-Second.ensures.err c.pass-in-Second.ensures.whole c.self.invariant
