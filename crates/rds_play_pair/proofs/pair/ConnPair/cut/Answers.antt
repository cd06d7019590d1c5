use Rattle.std.proofs.Common.{◌∙◌, ap}
use Rattle.rds_play_pair.specs.Changes.{without_flight, shut_one}
use Rattle.rds_play_pair.specs.Half.{side_of}
use Rattle.rds_play_pair.proofs.Joining.{joined_cut}
use Rattle.rds_play_pair.proofs.Trying.{joined_as, whole_as}
use Rattle.rds_play_pair.proofs.pair.ConnPair.cut.Goals as goal

pub invariant_of-self-2 : goal.invariant_of-self-2
invariant_of-self-2 c =
    let a = side_of c.self.inside.first in
    let b = side_of c.self.inside.second in
    let shut_a = c.shut.ensures.shuts ∙ ap shut_one c.ready.ensures.same in
    let shut_b = c.shut-2.ensures.shuts ∙ ap shut_one c.ready-2.ensures.same in
    joined_as c.self.inside.streams (without_flight (shut_one a)) (side_of c.lose.new.self) (without_flight (shut_one b)) (side_of c.lose-2.new.self)
    (c.lose.ensures ∙ ap without_flight shut_a) (c.lose-2.ensures ∙ ap without_flight shut_b)
    (joined_cut c.self.inside.streams a b c.self.invariant
    (whole_as (shut_one a) (side_of c.shut.new.self) shut_a c.shut.ensures.whole)
    (whole_as (shut_one b) (side_of c.shut-2.new.self) shut_b c.shut-2.ensures.whole))
